-- What each command's part brings: it is made of a replica without batches and deletions, to which the command's operations are added.
use Rattle.std.specs.Prelude.{◌≡◌, ℕ, ◌+◌, Bool, true, false, cond, ◌==◌, nat_le, List, [], ◌∷◌, ◌++◌, length, Some, None, Ok, Err}
use Rattle.std.proofs.Common.{refl, sym, ap, subst, ◌∙◌, append_assoc}
use Rattle.std.specs.FinMap as map
use Rattle.std.specs.FinSet as set
use Rattle.table_model.specs.Name.{name_cmp, is_proper_name}
use Rattle.table_model.specs.Operation.{Operation, Insert, AreAgreeing, SameOperations, state_of, operations_of}
use Rattle.table_model.specs.Reading.{◌>>=◌}
use Rattle.table_model.specs.State.{State, Agree, empty_state, join}
use Rattle.table_model.specs.Table.{Table}
use Rattle.table_model.specs.declared.names.BatchName.{BatchName}
use Rattle.table_model.specs.declared.names.RowName.{RowName}
use Rattle.table_model.specs.declared.refusal.Refusal.TheVariants.{BadName, NumbersSpent}
use Rattle.table_model.proofs.Operations.{state_of-operations, AreAgreeing-operations, SameOperations-operations}
use Rattle.replica_store.specs.Exchange.{OfferForm, unlisted_state}
use Rattle.replica_store.specs.Replica.{Replica, joined_with, merged, names_of, with_deleted, delete_fault, rows_between}
use Rattle.replica_store.proofs.Brings.{join_unheld}
use Rattle.replica_store.proofs.Limits.{ok_unless}
use Rattle.replica_store.proofs.MergeAnswers.{made_of}
use Rattle.replica_store.proofs.Offers.{get-unlisted}
use Rattle.store_view.specs.Asked.{condition_names}
use Rattle.replica_changes.specs.Brings.{brought_to, with_offers}
use Rattle.replica_changes.specs.Commands.{file_of, Made, applying}
use Rattle.replica_changes.specs.FileLaws.{replica_of, Holds, inserts, deletes, deletes_found, operations_in}
use Rattle.replica_changes.specs.Loads.{LoadForm, named_batches, loaded, imported_as, importing_as, first_name, chosen_name}
use Rattle.replica_changes.specs.declared.importing.Imported.{Imported}
use Rattle.replica_changes.proofs.FileLaws.{ok_one, bound_parts, held_then, applies_all, applied-adds}
use Rattle.replica_changes.proofs.OperationSets.{Adds, both_agree, parts_agree, merge-adds, delete-adds, state_of-append, state_of-inserts, named_agree, among-left, among-right}
use Rattle.folder_parts.specs.FolderLaws.{PartHolds, PartBrings, LoadPartHolds, NamedPartBrings, DeletesPartHolds, RowsPartHolds, OffersPartBrings}
use Rattle.folder_parts.specs.PartsPut.{empty_replica}

pub append_nothing : (xs : List Operation) → xs ++ [] ≡ xs
append_nothing [] = refl
append_nothing (x ∷ xs) = ap (λ (rest : List Operation). x ∷ rest) (append_nothing xs)

pub none_is : empty_state ≡ state_of []
unfolding state_of
none_is = refl

pub empty_is : (table : Table) → empty_replica table ≡ replica_of table []
empty_is table = λ i. record { schema = table; own = record { 0 = 1 }; state = none_is i }

pub none_agree : AreAgreeing []
none_agree n a b g h = absurd g

-- what was added to nothing is all that the part holds
part_holds : (table : Table) (more : List Operation) (part : Replica) → Adds table [] more part → PartHolds part table more
part_holds table more part adds read = subst (λ (ops : List Operation). Holds (file_of part) table ops) (append_nothing more) (held_then table [] more part adds read)

-- a load that was merged
pub import-adds : (load : LoadForm) (first : BatchName) (table : Table) (ops : List Operation) (old new : Replica) (answer : Imported) → old ≡ replica_of table ops → AreAgreeing ops → importing_as load first old ≡ Ok (answer, new)
    → Adds table ops (inserts (named_batches first load.batches)) new × (answer ≡ imported_as load first old new) × (merged old (loaded old load first) ≡ Ok (tt, new))
import-adds load first table ops old new answer same agree made =
    let told : Unit {0} × Replica → Imported × Replica = λ done. (imported_as load first old done.1, done.1) in
    let inner = bound_parts (merged old (loaded old load first)) (λ (done : Unit {0} × Replica). let made : Made Imported = Ok (told done) in made) (answer, new) made in
    let both : told inner.0 ≡ (answer, new) = ok_one (told inner.0) (answer, new) inner.2 in
    let last : inner.0.1 ≡ new = ap (λ (p : Imported × Replica). p.1) both in
    let more : List Operation = inserts (named_batches first load.batches) in
    let adds : Adds table ops more inner.0.1 =
    merge-adds table ops more old (loaded old load first) inner.0.1 inner.0.0 (ap (λ (r : Replica). r.schema) same) (ap (λ (r : Replica). r.state) same) (sym (state_of-inserts (named_batches first load.batches))) agree (named_agree first load.batches) inner.1 in (
      subst (λ (r : Replica). Adds table ops more r) last adds,
      sym (ap (λ (p : Imported × Replica). p.0) both) ∙ ap (imported_as load first old) last,
      subst (λ (r : Replica). merged old (loaded old load first) ≡ Ok (tt, r)) last inner.1,
    )

pub load_holds : LoadPartHolds
load_holds load words answer part made =
    let parts = bound_parts (chosen_name (empty_replica load.schema).state None words (length load.batches)) (λ (name : BatchName). importing_as load name (empty_replica load.schema)) (answer, part) made in
    let adds = import-adds load parts.0 load.schema [] (empty_replica load.schema) part answer (empty_is load.schema) none_agree parts.2 in
    (parts.0, ap (λ (a : Imported). a.first) adds.1, part_holds load.schema (inserts (named_batches parts.0 load.batches)) part adds.0)

-- ---- next to what a folder holds

agree_unlisted : (held own : State) (names : set.FinSet name_cmp) → Agree held own → Agree held (unlisted_state names own)
agree_unlisted held own names agree name a b has comes =
    elim (set.contains names name) as (λ l. cond l None (map.get own.batches name) ≡ Some b → a ≡ b) [
      | true ↦ λ from. cc
      | false ↦ λ from. agree name a b has from
    ] (sym (get-unlisted names own.batches name) ∙ comes)

pub same_by_state : (ops others : List Operation) → AreAgreeing ops → AreAgreeing others → state_of ops ≡ state_of others → SameOperations ops others
same_by_state ops others here there same op =
    let a : SameOperations (operations_of (state_of ops)) ops = SameOperations-operations ops here in
    let b : SameOperations (operations_of (state_of ops)) others = subst (λ (s : State). SameOperations (operations_of s) others) (sym same) (SameOperations-operations others there) in
    ((λ h. (b op).0 ((a op).1 h)), (λ h. (a op).0 ((b op).1 h)))

held_brings : (table : Table) (ops more : List Operation) (own : Replica) → own.state ≡ state_of more → AreAgreeing ops → AreAgreeing more → Agree (state_of ops) (state_of more)
    → PartBrings (brought_to (replica_of table ops) own) table ops more
held_brings table ops more own state here there agree =
    let held : Replica = replica_of table ops in
    let part : Replica = brought_to held own in
    let extra : List Operation = operations_of part.state in
    let extra_is : state_of extra ≡ part.state = state_of-operations part.state in
    let whole : Agree held.state own.state = subst (λ (s : State). Agree (state_of ops) s) (sym state) agree in
    let some : Agree (state_of ops) (state_of extra) = subst (λ (s : State). Agree (state_of ops) s) (sym extra_is) (agree_unlisted held.state own.state (names_of held.state.batches) whole) in
    let joined : join (state_of ops) part.state ≡ join (state_of ops) own.state = join_unheld held own.state in
    let same : state_of (extra ++ ops) ≡ state_of (more ++ ops) =
    sym (state_of-append ops extra some) ∙ ap (join (state_of ops)) extra_is ∙ joined ∙ ap (join (state_of ops)) state ∙ state_of-append ops more agree in
    let adds : Adds table [] extra part = record {
      schema = refl;
      state = sym extra_is ∙ ap state_of (sym (append_nothing extra));
      agree = subst AreAgreeing (sym (append_nothing extra)) (AreAgreeing-operations part.state);
    } in (
      extra,
      part_holds table extra part adds,
      same_by_state (extra ++ ops) (more ++ ops) (both_agree ops extra here (AreAgreeing-operations part.state) some) (both_agree ops more here there agree) same,
    )

-- a name that was checked is the one that was given
pub name_kept : (s : State) (first name : BatchName) (count : ℕ) → chosen_name s (Some first) [] count ≡ Ok name → name ≡ first
unfolding chosen_name first_name
name_kept s first name count is = of (count == 0) (is_proper_name first) (nat_le (first.number.0 + count) 4294967296) is
  where
    of : (a b c : Bool) → cond a (Ok first) (cond b (cond c (Ok first) (Err NumbersSpent)) (Err BadName)) ≡ Ok name → name ≡ first
    of true b c e = sym (ok_one first name e)
    of false true true e = sym (ok_one first name e)
    of false true false e = cc
    of false false c e = cc

pub named_brings : NamedPartBrings
named_brings load first table ops answer part agree made =
    let held : Replica = replica_of table ops in
    let put : BatchName → Imported × Replica → Imported × Replica = λ name done. (done.0, brought_to held (loaded held load name)) in
    let named = bound_parts (chosen_name held.state (Some first) [] (length load.batches)) (λ (name : BatchName). importing_as load name held >>= λ (done : Imported × Replica). let made : Made Imported = Ok (put name done) in made) (answer, part) made in
    let joins = bound_parts (importing_as load named.0 held) (λ (done : Imported × Replica). let made : Made Imported = Ok (put named.0 done) in made) (answer, part) named.2 in
    let last : brought_to held (loaded held load named.0) ≡ part = ap (λ (p : Imported × Replica). p.1) (ok_one (put named.0 joins.0) (answer, part) joins.2) in
    let kept : named.0 ≡ first = name_kept held.state first named.0 (length load.batches) named.1 in
    let more : List Operation = inserts (named_batches named.0 load.batches) in
    let whole : Adds table ops more joins.0.1 = (import-adds load named.0 table ops held joins.0.1 joins.0.0 refl agree joins.1).0 in
    let brings : PartBrings part table ops more =
    subst (λ (r : Replica). PartBrings r table ops more) last
    (held_brings table ops more (loaded held load named.0) (sym (state_of-inserts (named_batches named.0 load.batches))) agree (named_agree named.0 load.batches) (parts_agree ops more whole.agree)) in
    subst (λ (name : BatchName). PartBrings part table ops (inserts (named_batches name load.batches))) kept brings

-- ---- deletes

pub deletes_hold : DeletesPartHolds
deletes_hold text table ops count part made =
    let parts = bound_parts (condition_names text table (state_of ops)) (λ (names : List RowName). let made : Made ℕ = Ok (length names, with_deleted (empty_replica table) names) in made) (count, part) made in
    let adds : Adds table [] (deletes parts.0) part = delete-adds table [] (empty_replica table) part parts.0 (empty_is table) none_agree (made_of (length parts.0) count (with_deleted (empty_replica table) parts.0) part parts.2) in
    subst (λ (more : List Operation). PartHolds part table more) (ap deletes_found (sym parts.1)) (part_holds table (deletes parts.0) part adds)

pub rows_hold : RowsPartHolds
rows_hold table first last part made =
    let met = ok_unless (delete_fault first last) (Ok (tt, with_deleted (empty_replica table) (rows_between first last))) (tt, part) made in
    let adds : Adds table [] (deletes (rows_between first last)) part =
    delete-adds table [] (empty_replica table) part (rows_between first last) (empty_is table) none_agree (made_of tt tt (with_deleted (empty_replica table) (rows_between first last)) part met.1) in
    part_holds table (deletes (rows_between first last)) part adds

-- ---- offers

later_agree : (more ops : List Operation) → AreAgreeing (more ++ ops) → AreAgreeing ops
later_agree more ops agree n a b g h = agree n a b (among-right (Insert n a) more ops g) (among-right (Insert n b) more ops h)

first_agree : (more ops : List Operation) → AreAgreeing (more ++ ops) → AreAgreeing more
first_agree more ops agree n a b g h = agree n a b (among-left (Insert n a) more ops g) (among-left (Insert n b) more ops h)

-- the states of offers that agree, joined one after another, have all their operations
with_offers-adds : (offers : List OfferForm) (r : Replica) (ops : List Operation) → r.state ≡ state_of ops → AreAgreeing (operations_in offers ++ ops) → (with_offers r offers).state ≡ state_of (operations_in offers ++ ops)
with_offers-adds [] r ops state agree = state
with_offers-adds (offer ∷ offers) r ops state agree =
    let more : List Operation = operations_of offer.state in
    let all : List Operation = operations_in offers in
    let bracketed : AreAgreeing (all ++ (more ++ ops)) = subst AreAgreeing (append_assoc all more ops) agree in
    let here : AreAgreeing (more ++ ops) = later_agree all (more ++ ops) bracketed in
    let joined : join r.state offer.state ≡ state_of (more ++ ops) =
    (λ i. join (state i) (sym (state_of-operations offer.state) i)) ∙ state_of-append ops more (parts_agree ops more here) in
    with_offers-adds offers (joined_with r offer.state) (more ++ ops) joined bracketed ∙ ap state_of (sym (append_assoc all more ops))

pub offers_bring : OffersPartBrings
offers_bring offers table ops answer part agree made =
    let held : Replica = replica_of table ops in
    let more : List Operation = operations_in offers in
    let Counts : Type 0 = ℕ × ℕ × ℕ in
    let own : Replica = with_offers (empty_replica table) offers in
    let put : Counts × Replica → Counts × Replica = λ done. (done.0, brought_to held own) in
    let outer = bound_parts (applying offers held) (λ (done : Counts × Replica). let made : Made Counts = Ok (put done) in made) (answer, part) made in
    let last : brought_to held own ≡ part = ap (λ (p : Counts × Replica). p.1) (ok_one (put outer.0) (answer, part) outer.2) in
    let whole : Adds table ops more outer.0.1 = applied-adds table ops held outer.0.1 offers tt refl refl agree (applies_all held outer.0.1 offers outer.0.0 outer.1) in
    let alone : AreAgreeing more = first_agree more ops whole.agree in
    let state : own.state ≡ state_of more =
    with_offers-adds offers (empty_replica table) [] none_is (subst AreAgreeing (sym (append_nothing more)) alone) ∙ ap state_of (append_nothing more) in
    subst (λ (r : Replica). PartBrings r table ops more) last (held_brings table ops more own state agree alone (parts_agree ops more whole.agree))
