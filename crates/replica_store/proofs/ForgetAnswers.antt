-- A forget drops what it may, and a merge and an offer join what is left.
use Rattle.std.specs.Prelude.{◌≡◌, Bool, true, false, cond, not, Option, None, Ok}
use Rattle.std.proofs.Common.{refl, sym, subst, ◌∙◌}
use Rattle.std.specs.FinMap as map
use Rattle.std.specs.FinSet as set
use Rattle.table_model.specs.Name.{name_cmp}
use Rattle.table_model.specs.State.{State, Batch, Agree, join}
use Rattle.table_model.specs.Table.{same_table}
use Rattle.table_model.proofs.Joins.{same_maps, same_states}
use Rattle.replica_store.specs.Forgotten.{forgotten, IsRestOf}
use Rattle.replica_store.specs.ForgetHistory.{left_out}
use Rattle.replica_store.proofs.Rests.{forgets, then_more, joins}
use Rattle.replica_store.proofs.Histories.{get-left_out, deleted-left_out, offers}
use Rattle.replica_store.specs.Replica.{Replica}
use Rattle.replica_store.specs.Exchange.{SummaryForm, OfferForm, offering, unlisted_state}
use Rattle.replica_store.specs.ExchangeLaws.{IsOffer, Applies}
use Rattle.replica_store.specs.Forgets.{forgotten_batches}
use Rattle.replica_store.specs.ForgetStoreLaws.{AreOf, ForgetStoreLaws}
use Rattle.replica_store.specs.MergeLaws.{Merges}
use Rattle.replica_store.proofs.ExchangeAnswers.{served}
use Rattle.replica_store.proofs.MergeAnswers.{is_merge, made_of}
use Rattle.replica_store.proofs.Offers.{get-unlisted}

forget_leaves : (r new : Replica) (whole : State) → IsRestOf r.state whole → forgotten_batches r ≡ Ok (tt, new) → IsRestOf new.state whole
forget_leaves r new whole rest is =
    let made : record { schema = r.schema; own = r.own; state = forgotten r.state } ≡ new = made_of tt tt (record { schema = r.schema; own = r.own; state = forgotten r.state }) new is in
    subst (λ (x : Replica). IsRestOf x.state whole) made (then_more (forgotten r.state) r.state whole (forgets r.state) rest)

merge_leaves : (r other new : Replica) (whole others : State) → Agree whole others → IsRestOf r.state whole → IsRestOf other.state others → Merges r other new → IsRestOf new.state (join whole others)
merge_leaves r other new whole others agree rest other_rest is =
    subst (λ (x : Replica). IsRestOf x.state (join whole others)) (is_merge r other new is).made (joins r.state other.state whole others agree rest other_rest)

turned : (b : Bool) (o : Option Batch) → cond b None o ≡ cond (not b) o None
turned true o = refl
turned false o = refl

unlisted_is : (names : set.FinSet name_cmp) (s : State) → unlisted_state names s ≡ left_out names s
unlisted_is names s = same_states (unlisted_state names s) (left_out names s)
    (same_maps _ _ (λ q. get-unlisted names s.batches q ∙ turned (set.contains names q) (map.get s.batches q) ∙ sym (get-left_out names s q)))
    (sym (deleted-left_out names s))

apply_leaves : (server r new : Replica) (summary : SummaryForm) (offer : OfferForm) (whole others : State) → IsOffer server summary offer → AreOf summary whole → Agree whole others
    → IsRestOf r.state whole → IsRestOf server.state others → Applies r offer new → IsRestOf new.state (join whole others)
apply_leaves server r new summary offer whole others is listed agree rest other_rest applies =
    let done = served (same_table server.schema summary.schema) (unlisted_state summary.names server.state) offer.state is.state in
    let state : left_out summary.names server.state ≡ offer.state = sym (unlisted_is summary.names server.state) ∙ done.1 in
    let left : IsRestOf (join r.state (left_out summary.names server.state)) (join whole others) = offers r.state server.state whole others summary.names agree rest other_rest listed in
    subst (λ (x : Replica). IsRestOf x.state (join whole others)) (is_merge r (offering r.own offer) new applies).made
    (subst (λ (s : State). IsRestOf (join r.state s) (join whole others)) state left)

pub forget_store_laws_hold : ForgetStoreLaws
forget_store_laws_hold = record { forget = forget_leaves; merge = merge_leaves; apply = apply_leaves }
