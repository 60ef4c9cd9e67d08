-- The offer is read, and applied.
use Rattle.std.specs.Prelude.{ℕ, List}
use Rattle.std.proofs.Common.{ap, Bor}
use Rattle.std.proofs.lemmas.Result.{err_from_is_err_and}
use Rattle.lanes_c.specs.TableChanges.{changed_by}
use Rattle.lanes_c.proofs.TableChanging.{offer_refused, offer_there}
use Rattle.lanes_c.proofs.table_changes.apply_offer.Goals as goal

pub returns-in_err-offer-clause-made : goal.returns-in_err-offer-clause-made
returns-in_err-offer-clause-made c =
    let p = err_from_is_err_and c.from_residual.result c.from_residual.ensures.1 in
    rw (p.1, p.2) (offer_refused c.in_err-offer.field-0.0 c.args.offer.now _ c.args.shared.now.store.value.replica (ap (λ (w : Bor (List ℕ) × ℕ). w.0.now) c.new.ensures) c.in_err-offer.ensures.read)

pub returns-clause-made : goal.returns-clause-made
returns-clause-made c =
    offer_there (changed_by c.change.result c.change.new.self.store.value.replica) c.in_ok-offer.offer c.args.offer.now _ c.args.shared.now.store.value.replica c.in_ok-offers.offers.items (ap (λ (w : Bor (List ℕ) × ℕ). w.0.now) c.new.ensures) c.in_ok-offer.ensures.read c.in_ok-offers.ensures.items
    c.change.ensures.made
