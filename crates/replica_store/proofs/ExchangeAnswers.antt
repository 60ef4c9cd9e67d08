-- What an offer lacks of its server's state is what its summary listed, so beside those batches it is as good as the whole.
use Rattle.std.specs.Prelude.{◌≡◌, ◌≤◌, Bool, true, false, cond, IsTrue, Option, Some, None, is_some, Ok, Err}
use Rattle.std.proofs.Common.{refl, sym, ap, subst, ◌∙◌}
use Rattle.std.specs.FinMap as map
use Rattle.std.specs.FinSet as set
use Rattle.std.proofs.lemmas.Bool.{or_right}
use Rattle.table_model.specs.State.{State, Batch, Agree, join, union_of}
use Rattle.table_model.specs.Table.{same_table}
use Rattle.table_model.specs.declared.names.BatchName.{BatchName}
use Rattle.table_model.specs.declared.names.RowName.{RowName}
use Rattle.table_model.specs.declared.refusal.Refusal.TheVariants.{SchemaDiffers}
use Rattle.table_model.proofs.NameOrder.{row_names_total, exact_row_names}
use Rattle.table_model.proofs.Joins.{or_else, get-union, same_maps, same_states, join-agree}
use Rattle.table_model.proofs.SameTable.{one_table}
use Rattle.replica_store.specs.Replica.{Replica, batch_limit, joined_with, with_join}
use Rattle.replica_store.specs.Exchange.{SummaryForm, OfferForm, summary_of, offering, unlisted_state}
use Rattle.replica_store.specs.ExchangeLaws.{IsOffer, Applies, HoldsListed, HoldsUnlisted, HasGrown, ExchangeLaws}
use Rattle.replica_store.proofs.Growth.{growth_laws_hold, grown_itself, grown_merge}
use Rattle.replica_store.proofs.MergeAnswers.{is_merge, merges}
use Rattle.replica_store.proofs.Names.{contains-names_of}
use Rattle.replica_store.proofs.Offers.{get-unlisted}
use Rattle.replica_store.proofs.Idle.{absorbs}

pub served : (b : Bool) (s t : State) → cond b (Ok s) (Err SchemaDiffers) ≡ Ok t → (b ≡ true) × (s ≡ t)
served true s t is = let same : s ≡ t = cc in (refl, same)
served false s t is = cc

pub what_is_offered : (server : Replica) (summary : SummaryForm) (offer : OfferForm) → IsOffer server summary offer → HoldsUnlisted server summary offer
what_is_offered server summary offer is =
    let done = served (same_table server.schema summary.schema) (unlisted_state summary.names server.state) offer.state is.state in
    record {
      schema = sym (one_table server.schema summary.schema done.0);
      batches = λ name. ap (λ (s : State). map.get s.batches name) (sym done.1) ∙ get-unlisted summary.names server.state.batches name;
      deletions = ap (λ (s : State). s.deleted) (sym done.1);
    }

-- beside what is held, it is the same whether a listed batch comes too
beside_held : (listed : Bool) (held theirs : Option Batch) → (listed ≡ true → is_some held ≡ true) → or_else held (cond listed None theirs) ≡ or_else held theirs
beside_held false held theirs has = refl
beside_held true None theirs has = let no = has refl in cc
beside_held true (Some rows) theirs has = refl

-- where the listed batches are held, the offer joins as the server's whole state
pub joins_whole : (server r : Replica) (summary : SummaryForm) (offer : OfferForm) → IsOffer server summary offer → HoldsListed r summary → join r.state offer.state ≡ join r.state server.state
joins_whole server r summary offer is holds =
    let what = what_is_offered server summary offer is in
    same_states _ _
    (same_maps _ _ (λ q.
    get-union r.state.batches offer.state.batches q
    ∙ ap (or_else (map.get r.state.batches q)) (what.batches q)
    ∙ beside_held (set.contains summary.names q) (map.get r.state.batches q) (map.get server.state.batches q) (holds q)
    ∙ sym (get-union r.state.batches server.state.batches q)))
    (ap (set.union r.state.deleted) what.deletions)

joined_whole : (server r : Replica) (summary : SummaryForm) (offer : OfferForm) → IsOffer server summary offer → HoldsListed r summary → with_join r (offering r.own offer) ≡ joined_with r server.state
joined_whole server r summary offer is holds = λ i. record { schema = r.schema; own = r.own; state = joins_whole server r summary offer is holds i }

pub holding : (server r new : Replica) (summary : SummaryForm) (offer : OfferForm) → IsOffer server summary offer → HoldsListed r summary → Applies r offer new → new ≡ joined_with r server.state
holding server r new summary offer is holds applies =
    let done = is_merge r (offering r.own offer) new applies in
    sym done.made ∙ joined_whole server r summary offer is holds

there : (o : Option Batch) → is_some o ≡ true → (rows : Batch) × (o ≡ Some rows)
there None is = cc
there (Some rows) is = (rows, refl)

-- a replica that has grown holds all that its earlier summary lists
holds_grown : (asked late : Replica) → HasGrown asked late → HoldsListed late (summary_of asked)
holds_grown asked late grown name listed =
    let held = there (map.get asked.state.batches name) (sym (contains-names_of asked.state.batches name) ∙ listed) in
    ap is_some (grown.batches name held.0 held.1)

-- an offer's batches agree with those of a replica that agrees with the server
agrees_offer : (server r : Replica) (summary : SummaryForm) (offer : OfferForm) → IsOffer server summary offer → Agree r.state server.state → Agree r.state offer.state
agrees_offer server r summary offer is agree name a b has comes =
    let what = what_is_offered server summary offer is in
    elim (set.contains summary.names name) as (λ l. cond l None (map.get server.state.batches name) ≡ Some b → a ≡ b) [
      | true ↦ λ from. cc
      | false ↦ λ from. agree name a b has from
    ] (sym (what.batches name) ∙ comes)

taken : (server r : Replica) (summary : SummaryForm) (offer : OfferForm) → IsOffer server summary offer → HoldsListed r summary → Agree r.state server.state → r.schema ≡ server.schema
    → map.len (union_of r.state.batches server.state.batches) ≤ batch_limit → Applies r offer (joined_with r server.state)
taken server r summary offer is holds agree schema limit =
    let joins = joins_whole server r summary offer is holds in
    let room : map.len (union_of r.state.batches offer.state.batches) ≤ batch_limit = subst (λ (s : State). map.len s.batches ≤ batch_limit) (sym joins) limit in
    subst (λ (x : Replica). Applies r offer x) (joined_whole server r summary offer is holds)
    (merges r (offering r.own offer) (schema ∙ sym is.schema) (agrees_offer server r summary offer is agree) room)

-- what a later replica has, it has beside an offer that it took in
nothing_new : (before offered late : Option Batch) → ((rows : Batch) → or_else before offered ≡ Some rows → late ≡ Some rows) → or_else late offered ≡ late
nothing_new None None None kept = refl
nothing_new None None (Some l) kept = refl
nothing_new (Some b) None None kept = refl
nothing_new (Some b) None (Some l) kept = refl
nothing_new before (Some o) (Some l) kept = refl
nothing_new None (Some o) None kept = sym (kept o refl)
nothing_new (Some b) (Some o) None kept = let no = kept b refl in cc

module _ (r new late : Replica) (offer : OfferForm) (applies : Applies r offer new) (grown : HasGrown new late) where
  joined : joined_with r offer.state ≡ new
  joined = let done = is_merge r (offering r.own offer) new applies in done.made

  has_batches : (q : BatchName) (rows : Batch) → or_else (map.get r.state.batches q) (map.get offer.state.batches q) ≡ Some rows → map.get late.state.batches q ≡ Some rows
  has_batches q rows has = grown.batches q rows (ap (λ (x : Replica). map.get x.state.batches q) (sym joined) ∙ get-union r.state.batches offer.state.batches q ∙ has)

  has_deletions : (row : RowName) → IsTrue (set.contains offer.state.deleted row) → IsTrue (set.contains late.state.deleted row)
  has_deletions row has = grown.deletions row
      (ap (λ (x : Replica). set.contains x.state.deleted row) (sym joined)
      ∙ set.contains-union row_names_total r.state.deleted offer.state.deleted row
      ∙ or_right (set.contains r.state.deleted row) (set.contains offer.state.deleted row) has)

  stays : join late.state offer.state ≡ late.state
  stays = same_states _ _
      (same_maps _ _ (λ q.
      get-union late.state.batches offer.state.batches q
      ∙ nothing_new (map.get r.state.batches q) (map.get offer.state.batches q) (map.get late.state.batches q) (has_batches q)))
      (set.same_set row_names_total exact_row_names _ _ (λ row.
      set.contains-union row_names_total late.state.deleted offer.state.deleted row
      ∙ absorbs (set.contains late.state.deleted row) (set.contains offer.state.deleted row) (has_deletions row)))

  agrees : Agree late.state offer.state
  agrees name a b has comes =
      let done = is_merge r (offering r.own offer) new applies in
      let both = join-agree r.state offer.state done.agree in
      let at = there (or_else (map.get r.state.batches name) (map.get offer.state.batches name)) (some_second (map.get r.state.batches name) (map.get offer.state.batches name) b comes) in
      let first : a ≡ at.0 = let same : ◌≡◌ {A = Option Batch} (Some a) (Some at.0) = sym has ∙ has_batches name at.0 at.1 in cc in
      first ∙ both name at.0 b (get-union r.state.batches offer.state.batches name ∙ at.1) comes
    where
      some_second : (o p : Option Batch) (rows : Batch) → p ≡ Some rows → is_some (or_else o p) ≡ true
      some_second None p rows is = ap is_some is
      some_second (Some x) p rows is = refl

  again : map.len late.state.batches ≤ batch_limit → Applies late offer late
  again limit =
      let done = is_merge r (offering r.own offer) new applies in
      let schema : late.schema ≡ offer.schema = grown.schema ∙ ap (λ (x : Replica). x.schema) (sym joined) ∙ done.schema in
      let room : map.len (union_of late.state.batches offer.state.batches) ≤ batch_limit = subst (λ (s : State). map.len s.batches ≤ batch_limit) (sym stays) limit in
      let same : with_join late (offering late.own offer) ≡ late = λ i. record { schema = late.schema; own = late.own; state = stays i } in
      subst (λ (x : Replica). Applies late offer x) same (merges late (offering late.own offer) schema agrees room)

pub exchange_laws_hold : ExchangeLaws
exchange_laws_hold = record {
  growth = growth_laws_hold;
  offer = what_is_offered;
  holding = λ server r new summary offer is holds agree applies. holding server r new summary offer is holds applies;
  catches_up = λ server r new offer is agree applies. holding server r new (summary_of r) offer is (holds_grown r r (grown_itself r)) applies;
  keeps = λ server asked late new offer is grown agree applies. (holding server late new (summary_of asked) offer is (holds_grown asked late grown) applies, grown_merge late (offering late.own offer) new applies);
  taken = taken;
  again = again;
}
