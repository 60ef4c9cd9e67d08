-- What is told is what both have.
use Rattle.std.proofs.Common.{◌≡◌, ◌∙◌, ℕ, sym, ap, subst, refl, inr, length, Ok}
use Rattle.std.proofs.lemmas.Result.{err_from_is_err_and}
use Rattle.std.specs.FinMap as map
use Rattle.std.specs.FinSet as set
use Rattle.replica_store.specs.Brought.{IsBrought, both_of}
use Rattle.replica_store.specs.Segments.{StoreForm}
use Rattle.replica_changes.specs.Brings.{BringsTo, offers_brought}
use Rattle.replica_changes.specs.Commands.{applying}
use Rattle.replica_changes.specs.Refusals.{is_refusal_of_merge}
use Rattle.replica_changes.specs.declared.applying.Applied.{Applied}
use Rattle.replica_changes.proofs.CommandsBring.{nothing_lacks, offers_done, offers_stopped}
use Rattle.replica_changes.proofs.bringing.bring_offers.Goals as goal

abbrev told : Applied → ℕ × ℕ × ℕ
told d = (d.batches, d.ranges, d.new)

pub returns-in_err-brought-clause-brings : goal.returns-in_err-brought-clause-brings
returns-in_err-brought-clause-brings c =
    let p = err_from_is_err_and c.from_residual.result c.from_residual.ensures.1 in
    rw (p.1, p.2) (inr (nothing_lacks c.args.held.now.replica.schema c.in_err-brought.field-0.0 c.in_err-brought.ensures.own))

pub returns-in_err-brought-clause-refused : goal.returns-in_err-brought-clause-refused
returns-in_err-brought-clause-refused c =
    let p = err_from_is_err_and c.from_residual.result c.from_residual.ensures.1 in
    rw (p.1, p.2) (ap is_refusal_of_merge (nothing_lacks c.args.held.now.replica.schema c.in_err-brought.field-0.0 c.in_err-brought.ensures.own))

pub returns-in_err-take_all-clause-brings : goal.returns-in_err-take_all-clause-brings
returns-in_err-take_all-clause-brings c =
    let p = err_from_is_err_and c.from_residual-in_err-take_all.result c.from_residual-in_err-take_all.ensures.1 in
    rw (p.1, p.2) (offers_stopped {X = Applied} told (λ (d : Applied). d.is_changed) c.in_ok-brought.brought c.args.held.now c.args.held.now.replica.schema c.args.offers.items c.in_err-take_all.field-0.0 c.in_ok-brought.ensures.held c.in_ok-brought.ensures.own c.in_err-take_all.ensures.applied)

pub returns-clause-brings : goal.returns-clause-brings
returns-clause-brings c =
    let now = c.take_all.new.brought in
    let held = c.args.held.now in
    let offers = c.args.offers.items in
    let ranges = c.ranges-2.result.now in
    let at = c.in_ok-take_all.ensures.held ∙ c.in_ok-brought.ensures.held in
    let answer : Applied = record { batches = c.batches.result; ranges = length ranges; new = c.batches-2.result; is_changed = c.is_more.result } in
    let rows = c.ranges-2.ensures.rows ∙ c.in_ok-deleted.ensures ∙ λ i. set.union ((c.tombs.ensures ∙ ap (λ (s : StoreForm). s.replica.state.deleted) (sym at)) i) ((c.tombs-2.ensures ∙ ap (λ (s : StoreForm). s.replica.state.deleted) c.own.ensures.value) i) in
    let counts : told answer ≡ (map.len (both_of now).state.batches, length ranges, map.len now.own.replica.state.batches) = λ i. (c.batches.ensures.value i, length ranges, (c.batches-2.ensures.value ∙ ap (λ (s : StoreForm). map.len s.replica.state.batches) c.own-2.ensures.value) i) in
    subst (λ (s : StoreForm). BringsTo told (λ (d : Applied). d.is_changed) (Ok (answer, s)) held (offers_brought offers held.replica) (applying offers held.replica)) (sym c.into_own.ensures.value)
    (offers_done told (λ (d : Applied). d.is_changed) answer c.in_ok-brought.brought now held held.replica.schema offers c.in_ok-take_all.field-0 ranges
    c.in_ok-brought.ensures.held c.in_ok-take_all.ensures.held refl c.in_ok-brought.ensures.own c.in_ok-take_all.ensures.applied c.in_ok-take_all.ensures.own
    (subst (IsBrought now.held) c.own.ensures.value c.own.ensures.is_brought) c.is_more.ensures c.ranges-2.ensures.maximal rows counts)
