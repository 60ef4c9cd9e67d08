-- What offers and a load bring to a store that is only read, from what its calls answered.
use Rattle.std.specs.Prelude.{◌≡◌, ◌⊎◌, ℕ, ◌+◌, ◌≤◌, ◌-◌, Bool, true, false, not, ◌||◌, ◌==◌, List, [], ◌∷◌, length, Option, Some, None, Result, Ok, Err, IsOk}
use Rattle.std.proofs.Common.{refl, sym, ap, subst, ◌∙◌, inl, inr, arith}
use Rattle.std.specs.FinMap as map
use Rattle.std.specs.FinSet as set
use Rattle.table_model.specs.Name.{name_cmp, row_name_cmp}
use Rattle.table_model.specs.Reading.{◌>>=◌}
use Rattle.table_model.specs.State.{State, Batch, union_of}
use Rattle.table_model.specs.Table.{Table}
use Rattle.table_model.specs.declared.names.BatchName.{BatchName}
use Rattle.table_model.specs.declared.names.RowName.{RowName}
use Rattle.table_model.specs.declared.refusal.Refusal.{Refusal}
use Rattle.table_model.specs.declared.refusal.Refusal.TheVariants.{Memory}
use Rattle.table_model.proofs.NameOrder.{row_names_total}
use Rattle.catalogue_join.specs.RowRange.{RowRange, AreMaximal, rows_in}
use Rattle.replica_store.specs.Brought.{AreApart, BroughtForm, IsBrought, both_of, unheld_state}
use Rattle.replica_store.specs.Exchange.{OfferForm, offering, applied}
use Rattle.replica_store.specs.Replica.{Replica, SaysChange, batch_limit, delete_fault, deleted_names, deleted_rows, joined_with, names_fault, new_replica, rows_between, unless_fault, with_deleted, with_join}
use Rattle.replica_store.specs.Segments.{StoreForm}
use Rattle.replica_store.proofs.Brings.{held_alone, len_apart, nothing_brought, nothing_join, unheld_join, unheld_nothing}
use Rattle.replica_store.proofs.Idle.{deletions_same}
use Rattle.replica_store.proofs.JoinedStores.{new_is, union-empty}
use Rattle.replica_store.proofs.Limits.{ok_unless}
use Rattle.replica_store.proofs.MergeAnswers.{made_of}
use Rattle.store_view.specs.Asked.{condition_names}
use Rattle.replica_changes.specs.Brings.{BringsTo, brought_to, deletes_brought, empty_replica, load_brought, offers_brought, rows_brought, with_offers}
use Rattle.replica_changes.specs.Commands.{Made, applied_all, applying, deleting}
use Rattle.replica_changes.specs.Loads.{LoadForm, chosen_name, imported_as, importing, importing_as, loaded, new_since}
use Rattle.replica_changes.specs.declared.deleting.Deleted.{Deleted}
use Rattle.replica_changes.specs.declared.deleting.DeletedRows.{DeletedRows}
use Rattle.replica_changes.specs.declared.importing.Imported.{Imported}
use Rattle.replica_changes.proofs.Imports.{import_done, import_refused}
use Rattle.replica_changes.proofs.StoreCommands.{deletes_ok, told_applied, untold_applied}

-- ---- what was taken

-- a replica with more that an offer brings
pub brought_more : (held alone now new : Replica) (s : State) → now ≡ brought_to held alone → new ≡ joined_with now (unheld_state held s) → new ≡ brought_to held (joined_with alone s)
brought_more held alone now new s is made =
    made ∙ ap (λ (r : Replica). joined_with r (unheld_state held s)) is
    ∙ (λ i. record { schema = held.schema; own = record { 0 = 1 }; state = unheld_join held alone.state s i })

-- nothing is brought yet
pub brought_nothing : (held own : Replica) (t : Table) → t ≡ held.schema → new_replica t (record { 0 = 1 }) ≡ Ok own → own ≡ brought_to held (empty_replica held.schema)
brought_nothing held own t schema new =
    new_is t (record { 0 = 1 }) own new
    ∙ (λ i. record { schema = schema i; own = record { 0 = 1 }; state = sym (unheld_nothing held) i })

-- offers that were taken so far: the rest is applied to what both have, and what was brought is what they bring
pub record TakenSoFar (start now : BroughtForm) (all left : List OfferForm) : Type 0 where
  pub held : now.held ≡ start.held
  pub rest : applied_all (both_of start) all ≡ applied_all (both_of now) left
  pub own : (alone : Replica) → start.own.replica ≡ brought_to start.held.replica alone → (taken : Replica) × (now.own.replica ≡ brought_to start.held.replica taken) × (with_offers alone all ≡ with_offers taken left)

pub taken_none : (start : BroughtForm) (all : List OfferForm) → TakenSoFar start start all all
taken_none start all = record { held = refl; rest = refl; own = λ alone is. (alone, is, refl) }

pub taken_next : (start now next : BroughtForm) (all left : List OfferForm) (offer : OfferForm) (u : Unit {0}) → TakenSoFar start now all (offer ∷ left) → applied (both_of now) offer ≡ Ok (u, both_of next)
    → next.own.replica ≡ joined_with now.own.replica (unheld_state now.held.replica offer.state) → next.held ≡ now.held → TakenSoFar start next all left
taken_next start now next all left offer u so made brought held = record {
  held = held ∙ so.held;
  rest = so.rest ∙ ap (λ (x : Made (Unit {0})). x >>= λ (done : Unit {0} × Replica). applied_all done.1 left) made;
  own = λ alone is.
      let before = so.own alone is in
      let came : next.own.replica ≡ joined_with now.own.replica (unheld_state start.held.replica offer.state) =
      brought ∙ ap (λ (s : StoreForm). joined_with now.own.replica (unheld_state s.replica offer.state)) so.held in (
        joined_with before.0 offer.state,
        brought_more start.held.replica before.0 now.own.replica next.own.replica offer.state before.1 came,
        before.2,
      );
}

pub taken_stops : (start now : BroughtForm) (all left : List OfferForm) (offer : OfferForm) (e : Refusal) → TakenSoFar start now all (offer ∷ left) → (applied (both_of now) offer ≡ Err e) ⊎ ((e ≡ Memory) × IsOk (applied (both_of now) offer))
    → (applied_all (both_of start) all ≡ Err e) ⊎ (e ≡ Memory)
taken_stops start now all left offer e so (inl refused) = inl (so.rest ∙ ap (λ (x : Made (Unit {0})). x >>= λ (done : Unit {0} × Replica). applied_all done.1 left) refused)
taken_stops start now all left offer e so (inr lack) = inr lack.0

pub taken_own : (start now : BroughtForm) (all : List OfferForm) → TakenSoFar start now all [] → (alone : Replica) → start.own.replica ≡ brought_to start.held.replica alone → now.own.replica ≡ brought_to start.held.replica (with_offers alone all)
taken_own start now all so alone is = let last = so.own alone is in last.1 ∙ ap (brought_to start.held.replica) (sym last.2)

-- with nothing that was brought, both have what is held
pub start_alone : (start : BroughtForm) (held : StoreForm) (t : Table) → start.held ≡ held → new_replica t (record { 0 = 1 }) ≡ Ok start.own.replica → both_of start ≡ held.replica
start_alone start held t at new = ap (λ (s : StoreForm). with_join s.replica start.own.replica) at ∙ held_alone held.replica start.own.replica t new

-- a store without batches is refused for want of memory alone
pub nothing_lacks : (t : Table) (e : Refusal) → (new_replica t (record { 0 = 1 }) ≡ Err e) ⊎ (e ≡ Memory) → e ≡ Memory
nothing_lacks t e (inl refused) = cc
nothing_lacks t e (inr lack) = lack

-- ---- what is told of offers

abbrev Counts : Type 0
Counts = ℕ × ℕ × ℕ

pub offers_stopped : {X : Type 0} (view : X → Counts) (changed : X → Bool) (start : BroughtForm) (held : StoreForm) (t : Table) (offers : List OfferForm) (e : Refusal) → start.held ≡ held → new_replica t (record { 0 = 1 }) ≡ Ok start.own.replica
    → (applied_all (both_of start) offers ≡ Err e) ⊎ (e ≡ Memory) → BringsTo {X = X} view changed (Err e) held (offers_brought offers held.replica) (applying offers held.replica)
offers_stopped view changed start held t offers e at new (inr lack) = inr lack
offers_stopped view changed start held t offers e at new (inl refused) =
    of (untold_applied {X = Unit {0}} (λ u. (0, 0, 0)) (λ u. false) held.replica held.replica offers e (inl (ap (λ (r : Replica). applied_all r offers) (sym (start_alone start held t at new)) ∙ refused)))
  where
    of : (applying offers held.replica ≡ Err e) ⊎ (e ≡ Memory) → ((offers_brought offers held.replica ≡ Err e) × (applying offers held.replica ≡ Err e)) ⊎ (e ≡ Memory)
    of (inr lack) = inr lack
    of (inl stops) = inl (ap (λ (m : Made Counts). m >>= λ (done : Counts × Replica). let ok : Made Counts = Ok (done.0, brought_to held.replica (with_offers (empty_replica held.replica.schema) offers)) in ok) stops, stops)

-- what is new of the batches that both have
pub new_of_both : (held own : StoreForm) → IsBrought held own → map.len own.replica.state.batches ≡ map.len (with_join held.replica own.replica).state.batches - map.len held.replica.state.batches
new_of_both held own brought =
    let count = len_apart held.replica.state.batches own.replica.state.batches brought.apart in
    omega (arith, count)

-- offers that were taken, and what is told of them
pub offers_done : {X : Type 0} (view : X → Counts) (changed : X → Bool) (x : X) (start now : BroughtForm) (held : StoreForm) (t : Table) (offers : List OfferForm) (u : Unit {0}) (ranges : List RowRange)
    → start.held ≡ held → now.held ≡ start.held → t ≡ held.replica.schema → new_replica t (record { 0 = 1 }) ≡ Ok start.own.replica
    → applied_all (both_of start) offers ≡ Ok (u, both_of now)
    → ((alone : Replica) → start.own.replica ≡ brought_to start.held.replica alone → now.own.replica ≡ brought_to start.held.replica (with_offers alone offers))
    → IsBrought now.held now.own → SaysChange (changed x) now.held.replica (both_of now) → AreMaximal ranges → rows_in ranges ≡ (both_of now).state.deleted
    → view x ≡ (map.len (both_of now).state.batches, length ranges, map.len now.own.replica.state.batches)
    → BringsTo view changed (Ok (x, now.own)) held (offers_brought offers held.replica) (applying offers held.replica)
offers_done view changed x start now held t offers u ranges start_is held_is schema new made own brought says maximal rows told =
    let at : now.held ≡ held = held_is ∙ start_is in
    let alone : both_of start ≡ held.replica = start_alone start held t start_is new in
    let r : Replica = with_join held.replica now.own.replica in
    let whole : both_of now ≡ r = ap (λ (s : StoreForm). with_join s.replica now.own.replica) at in
    let brought_here : IsBrought held now.own = subst (λ (s : StoreForm). IsBrought s now.own) at brought in
    let applied_here : applied_all held.replica offers ≡ Ok (tt, r) =
    ap (λ (x : Replica). applied_all x offers) (sym alone) ∙ made ∙ (λ i. let ok : Made (Unit {0}) = Ok (tt, whole i) in ok) in
    let says_here : SaysChange (changed x) held.replica r = (
      λ none. sym whole ∙ says.0 none ∙ ap (λ (s : StoreForm). s.replica) at,
      λ same. says.1 (whole ∙ same ∙ ap (λ (s : StoreForm). s.replica) (sym at)),
    ) in
    let counted : applying offers held.replica ≡ Ok ((map.len r.state.batches, length ranges, map.len now.own.replica.state.batches), r) =
    told_applied held.replica r offers (changed x) ranges (map.len r.state.batches) (map.len now.own.replica.state.batches) (applied_here, says_here) maximal
    (rows ∙ ap (λ (x : Replica). x.state.deleted) whole) refl (new_of_both held now.own brought_here) in
    let seen : view x ≡ (map.len r.state.batches, length ranges, map.len now.own.replica.state.batches) = told ∙ ap (λ (x : Replica). (map.len x.state.batches, length ranges, map.len now.own.replica.state.batches)) whole in
    let answered : applying offers held.replica ≡ Ok (view x, r) = counted ∙ (λ i. let ok : Made Counts = Ok (sym seen i, r) in ok) in
    let first : start.own.replica ≡ brought_to start.held.replica (empty_replica held.replica.schema) =
    subst (λ (s : StoreForm). start.own.replica ≡ brought_to s.replica (empty_replica held.replica.schema)) (sym start_is) (brought_nothing held.replica start.own.replica t schema new) in
    let part : now.own.replica ≡ brought_to held.replica (with_offers (empty_replica held.replica.schema) offers) =
    own (empty_replica held.replica.schema) first ∙ ap (λ (s : StoreForm). brought_to s.replica (with_offers (empty_replica held.replica.schema) offers)) start_is in (
      ap (λ (m : Made Counts). m >>= λ (done : Counts × Replica). let ok : Made Counts = Ok (done.0, brought_to held.replica (with_offers (empty_replica held.replica.schema) offers)) in ok) answered
          ∙ (λ i. let ok : Made Counts = Ok (view x, sym part i) in ok),
      record { joined = answered; more = says_here; brought = brought_here },
    )

-- ---- a load

abbrev put_named : Replica → LoadForm → BatchName → Made Imported
put_named h load n = importing_as load n h >>= λ (m : Imported × Replica). let ok : Made Imported = Ok (m.0, brought_to h (loaded h load n)) in ok

-- no name was chosen
pub load_unnamed : (held : StoreForm) (load : LoadForm) (given : Option BatchName) (words : List ℕ) (e : Refusal) → chosen_name held.replica.state given words (length load.batches) ≡ Err e
    → BringsTo {X = Imported} (λ done. done) (λ done. not (done.new == 0)) (Err e) held (load_brought load given words held.replica) (importing load given words held.replica)
load_unnamed held load given words e refused = inl (
  ap (λ (x : Result BatchName Refusal). x >>= λ (n : BatchName). put_named held.replica load n) refused,
  ap (λ (x : Result BatchName Refusal). x >>= λ (n : BatchName). importing_as load n held.replica) refused,
)

-- the load was refused
pub load_stopped : (held : StoreForm) (load : LoadForm) (given : Option BatchName) (words : List ℕ) (name : BatchName) (offer : OfferForm) (now : BroughtForm) (t : Table) (e : Refusal)
    → now.held ≡ held → new_replica t (record { 0 = 1 }) ≡ Ok now.own.replica → chosen_name held.replica.state given words (length load.batches) ≡ Ok name → offering held.replica.own offer ≡ loaded held.replica load name
    → (applied (both_of now) offer ≡ Err e) ⊎ ((e ≡ Memory) × IsOk (applied (both_of now) offer))
    → BringsTo {X = Imported} (λ done. done) (λ done. not (done.new == 0)) (Err e) held (load_brought load given words held.replica) (importing load given words held.replica)
load_stopped held load given words name offer now t e at new chosen is refused =
    of (import_refused held.replica held.replica load given words name offer e chosen is (subst (λ (r : Replica). (applied r offer ≡ Err e) ⊎ ((e ≡ Memory) × IsOk (applied r offer))) alone refused))
  where
    alone : both_of now ≡ held.replica
    alone = start_alone now held t at new

    of : (importing load given words held.replica ≡ Err e) ⊎ (e ≡ Memory) → ((load_brought load given words held.replica ≡ Err e) × (importing load given words held.replica ≡ Err e)) ⊎ (e ≡ Memory)
    of (inr lack) = inr lack
    of (inl stops) =
        let named : importing_as load name held.replica ≡ Err e = sym (ap (λ (x : Result BatchName Refusal). x >>= λ (n : BatchName). importing_as load n held.replica) chosen) ∙ stops in
        inl (
          ap (λ (x : Result BatchName Refusal). x >>= λ (n : BatchName). put_named held.replica load n) chosen
              ∙ ap (λ (x : Made Imported). x >>= λ (m : Imported × Replica). let ok : Made Imported = Ok (m.0, brought_to held.replica (loaded held.replica load name)) in ok) named,
          stops,
        )

-- what a load brought, and what is told of it
pub load_done : (held : StoreForm) (load : LoadForm) (given : Option BatchName) (words : List ℕ) (name : BatchName) (offer : OfferForm) (start now : BroughtForm) (t : Table) (u : Unit {0}) (answer : Imported)
    → start.held ≡ held → now.held ≡ start.held → t ≡ held.replica.schema → new_replica t (record { 0 = 1 }) ≡ Ok start.own.replica → chosen_name held.replica.state given words (length load.batches) ≡ Ok name
    → offering held.replica.own offer ≡ loaded held.replica load name → applied (both_of start) offer ≡ Ok (u, both_of now)
    → now.own.replica ≡ joined_with start.own.replica (unheld_state start.held.replica offer.state) → IsBrought now.held now.own
    → ((n : ℕ) → n ≡ map.len now.own.replica.state.batches → answer ≡ record { batches = length load.batches; new = n; rows = (imported_as load name held.replica held.replica).rows; deleted = (imported_as load name held.replica held.replica).deleted; first = (imported_as load name held.replica held.replica).first })
    → BringsTo (λ (done : Imported). done) (λ (done : Imported). not (done.new == 0)) (Ok (answer, now.own)) held (load_brought load given words held.replica) (importing load given words held.replica)
load_done held load given words name offer start now t u answer start_is held_is schema new chosen is made own brought told =
    let at : now.held ≡ held = held_is ∙ start_is in
    let h : Replica = held.replica in
    let r : Replica = with_join h now.own.replica in
    let alone : both_of start ≡ h = start_alone start held t start_is new in
    let whole : both_of now ≡ r = ap (λ (s : StoreForm). with_join s.replica now.own.replica) at in
    let brought_here : IsBrought held now.own = subst (λ (s : StoreForm). IsBrought s now.own) at brought in
    let applied_here : applied h offer ≡ Ok (u, r) = ap (λ (x : Replica). applied x offer) (sym alone) ∙ made ∙ (λ i. let ok : Made (Unit {0}) = Ok (u, whole i) in ok) in
    let told_here : answer ≡ imported_as load name h r = told (new_since h r) (sym (new_of_both held now.own brought_here)) in
    let done = import_done h r load given words name offer u answer chosen is applied_here told_here in
    let named : importing_as load name h ≡ Ok (answer, r) = sym (ap (λ (x : Result BatchName Refusal). x >>= λ (n : BatchName). importing_as load n h) chosen) ∙ done.0 in
    let came : now.own.replica ≡ joined_with start.own.replica (unheld_state h offer.state) = own ∙ ap (λ (s : StoreForm). joined_with start.own.replica (unheld_state s.replica offer.state)) start_is in
    let state : offer.state ≡ (loaded h load name).state = ap (λ (x : Replica). x.state) is in
    let part : now.own.replica ≡ brought_to h (loaded h load name) =
    brought_more h (empty_replica h.schema) start.own.replica now.own.replica offer.state (brought_nothing h start.own.replica t schema new) came
    ∙ (λ i. brought_to h (record { schema = load.schema; own = h.own; state = (nothing_join offer.state ∙ state) i })) in (
      ap (λ (x : Result BatchName Refusal). x >>= λ (n : BatchName). put_named h load n) chosen
          ∙ ap (λ (x : Made Imported). x >>= λ (m : Imported × Replica). let ok : Made Imported = Ok (m.0, brought_to h (loaded h load name)) in ok) named
          ∙ (λ i. let ok : Made Imported = Ok (answer, sym part i) in ok),
      record { joined = done.0; more = done.1; brought = brought_here },
    )

-- ---- deletes

-- what is held, joined with deletions alone
join_deleted : (h : Replica) (names : List RowName) → with_join h (with_deleted (empty_replica h.schema) names) ≡ with_deleted h names
join_deleted h names =
    let rows : State = record { batches = map.empty; deleted = set.from_list names } in
    let deleted : set.union set.empty (set.from_list names) ≡ set.from_list names = ap (λ (s : State). s.deleted) (nothing_join rows) in
    λ i. record { schema = h.schema; own = h.own; state = record { batches = union-empty h.state.batches i; deleted = set.union h.state.deleted (deleted i) } }

-- a store that has the batches of one that is brought is brought
brought_same : (held first own : StoreForm) → IsBrought held first → first.replica.schema ≡ own.replica.schema → first.replica.state.batches ≡ own.replica.state.batches → IsBrought held own
brought_same held first own brought schema batches = record {
  schema = sym schema ∙ brought.schema;
  apart = subst (AreApart held.replica.state.batches) batches brought.apart;
  limit = subst (λ (m : map.FinMap name_cmp Batch). map.len held.replica.state.batches + map.len m ≤ batch_limit) batches brought.limit;
}

pub deletes_stopped : (held : StoreForm) (text : List ℕ) (e : Refusal) → (condition_names text held.replica.schema held.replica.state ≡ Err e) ⊎ (e ≡ Memory)
    → BringsTo {X = Deleted} (λ d. d.rows) (λ d. not (d.rows == 0)) (Err e) held (deletes_brought text held.replica) (deleting text held.replica)
deletes_stopped held text e (inr lack) = inr lack
deletes_stopped held text e (inl refused) = inl (
  ap (λ (x : Result (List RowName) Refusal). x >>= λ (rows : List RowName). let ok : Made ℕ = Ok (length rows, with_deleted (empty_replica held.replica.schema) rows) in ok) refused,
  ap (λ (x : Result (List RowName) Refusal). x >>= λ (rows : List RowName). let ok : Made ℕ = Ok (length rows, with_deleted held.replica rows) in ok) refused,
)

-- rows that a condition found, and their deletions
pub deletes_done : (held first own : StoreForm) (t : Table) (text : List ℕ) (names slice : List RowName) (count : ℕ) (u : Unit {0}) → condition_names text held.replica.schema held.replica.state ≡ Ok names → slice ≡ names → count ≡ length names
    → t ≡ held.replica.schema → new_replica t (record { 0 = 1 }) ≡ Ok first.replica → deleted_names first.replica slice ≡ Ok (u, own.replica) → map.len held.replica.state.batches ≤ batch_limit
    → BringsTo (λ (d : Deleted). d.rows) (λ (d : Deleted). not (d.rows == 0)) (Ok (record { rows = count }, own)) held (deletes_brought text held.replica) (deleting text held.replica)
deletes_done held first own t text names slice count u finds same counted schema new made limit =
    let h : Replica = held.replica in
    let met = ok_unless (names_fault slice) (Ok (tt, with_deleted first.replica slice)) (u, own.replica) made in
    let own_is : with_deleted first.replica slice ≡ own.replica = made_of tt u (with_deleted first.replica slice) own.replica met.1 in
    let empty : first.replica ≡ empty_replica h.schema = new_is t (record { 0 = 1 }) first.replica new ∙ ap empty_replica schema in
    let part : with_deleted (empty_replica h.schema) names ≡ own.replica = (λ i. with_deleted (sym empty i) (sym same i)) ∙ own_is in
    let whole : with_join h own.replica ≡ with_deleted h names = ap (with_join h) (sym part) ∙ join_deleted h names in
    let applied_here : deleted_names h slice ≡ Ok (tt, with_deleted h slice) = ap (λ (o : Option Refusal). unless_fault {X = Unit {0} × Replica} o (Ok (tt, with_deleted h slice))) met.0 in
    let done : Deleted = record { rows = count } in
    let told = deletes_ok (λ (d : Deleted). d.rows) done text h (with_deleted h slice) names slice tt finds same counted applied_here in
    let turned : with_deleted h slice ≡ with_join h own.replica = ap (with_deleted h) same ∙ sym whole in (
      ap (λ (x : Result (List RowName) Refusal). x >>= λ (rows : List RowName). let ok : Made ℕ = Ok (length rows, with_deleted (empty_replica h.schema) rows) in ok) finds
          ∙ (λ i. let ok : Made ℕ = Ok (sym counted i, part i) in ok),
      record {
        joined = told.0 ∙ (λ i. let ok : Made ℕ = Ok (count, turned i) in ok);
        more = subst (SaysChange (not (count == 0)) h) turned told.1;
        brought = brought_same held first own (nothing_brought held first t schema new limit) (ap (λ (r : Replica). r.schema) own_is) (ap (λ (r : Replica). r.state.batches) own_is);
      },
    )

-- ---- deletes of ranges

fault_is : (o : Option Refusal) (r : Replica) (e : Refusal) → unless_fault {X = Unit {0} × Replica} o (Ok (tt, r)) ≡ Err e → o ≡ Some e
fault_is None r e is = cc
fault_is (Some fault) r e is = cc

pub rows_stopped : (held : StoreForm) (start : Replica) (first : RowName) (last : ℕ) (e : Refusal) → (deleted_rows start first last ≡ Err e) ⊎ ((e ≡ Memory) × IsOk (deleted_rows start first last))
    → BringsTo {X = DeletedRows} (λ d. tt) (λ d. d.is_changed) (Err e) held (rows_brought first last held.replica) (deleted_rows held.replica first last)
rows_stopped held start first last e (inr lack) = inr lack.0
rows_stopped held start first last e (inl refused) =
    let fault : delete_fault first last ≡ Some e = fault_is (delete_fault first last) (with_deleted start (rows_between first last)) e refused in
    inl (
      ap (λ (o : Option Refusal). unless_fault {X = Unit {0} × Replica} o (Ok (tt, with_deleted (empty_replica held.replica.schema) (rows_between first last)))) fault,
      ap (λ (o : Option Refusal). unless_fault {X = Unit {0} × Replica} o (Ok (tt, with_deleted held.replica (rows_between first last)))) fault,
    )

or_there : (a b : Bool) → b ≡ true → (a || b) ≡ true
or_there true b there = refl
or_there false b there = there

not_false : (b : Bool) → not b ≡ false → b ≡ true
not_false true is = refl
not_false false is = cc

-- deletions are more than what is held exactly if one of them is not among those
deletions_say : (h own : Replica) → own.state.batches ≡ map.empty → SaysChange (not (set.is_subset own.state.deleted h.state.deleted)) h (with_join h own)
deletions_say h own none = (
  λ within.
      let deleted = deletions_same h.state.deleted own.state.deleted (not_false (set.is_subset own.state.deleted h.state.deleted) within) in
      let batches = ap (λ (m : map.FinMap name_cmp Batch). union_of h.state.batches m) none ∙ union-empty h.state.batches in
      λ i. record { schema = h.schema; own = h.own; state = record { batches = batches i; deleted = deleted i } },
  λ stays.
      ap not (set.contains-is_subset row_names_total own.state.deleted h.state.deleted (λ q there.
      ap (λ (r : Replica). set.contains r.state.deleted q) (sym stays) ∙ set.contains-union row_names_total h.state.deleted own.state.deleted q ∙ or_there (set.contains h.state.deleted q) (set.contains own.state.deleted q) there)),
)

-- a range of rows, and their deletions
pub rows_done : (held start own : StoreForm) (t : Table) (first : RowName) (last : ℕ) (more : Bool) (u : Unit {0}) → t ≡ held.replica.schema → new_replica t (record { 0 = 1 }) ≡ Ok start.replica
    → deleted_rows start.replica first last ≡ Ok (u, own.replica) → more ≡ not (set.is_subset own.replica.state.deleted held.replica.state.deleted) → map.len held.replica.state.batches ≤ batch_limit
    → BringsTo (λ (d : DeletedRows). tt) (λ (d : DeletedRows). d.is_changed) (Ok (record { is_changed = more }, own)) held (rows_brought first last held.replica) (deleted_rows held.replica first last)
rows_done held start own t first last more u schema new made says limit =
    let h : Replica = held.replica in
    let rows : List RowName = rows_between first last in
    let met = ok_unless (delete_fault first last) (Ok (tt, with_deleted start.replica rows)) (u, own.replica) made in
    let own_is : with_deleted start.replica rows ≡ own.replica = made_of tt u (with_deleted start.replica rows) own.replica met.1 in
    let empty : start.replica ≡ empty_replica h.schema = new_is t (record { 0 = 1 }) start.replica new ∙ ap empty_replica schema in
    let part : with_deleted (empty_replica h.schema) rows ≡ own.replica = ap (λ (r : Replica). with_deleted r rows) (sym empty) ∙ own_is in
    let whole : with_deleted h rows ≡ with_join h own.replica = sym (join_deleted h rows) ∙ ap (with_join h) part in
    let told : (r new : Replica) → with_deleted r rows ≡ new → deleted_rows r first last ≡ Ok (tt, new) = λ r new is.
    ap (λ (o : Option Refusal). unless_fault {X = Unit {0} × Replica} o (Ok (tt, with_deleted r rows))) met.0 ∙ (λ i. let ok : Made (Unit {0}) = Ok (tt, is i) in ok) in (
      told (empty_replica h.schema) own.replica part,
      record {
        joined = told h (with_join h own.replica) whole;
        more = subst (λ (b : Bool). SaysChange b h (with_join h own.replica)) (sym says) (deletions_say h own.replica (ap (λ (r : Replica). r.state.batches) (sym part)));
        brought = brought_same held start own (nothing_brought held start t schema new limit) (ap (λ (r : Replica). r.schema) own_is) (ap (λ (r : Replica). r.state.batches) own_is);
      },
    )
