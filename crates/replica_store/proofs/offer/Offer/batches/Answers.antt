-- The state has as many batches as the vector.
use Rattle.std.proofs.Common.{arith, sym, ap, subst, ◌∙◌}
use Rattle.std.specs.FinMap as map
use Rattle.replica_store.specs.Exchange.{OfferForm}
use Rattle.replica_store.specs.Replica.{IsWithinLimits}
use Rattle.replica_store.proofs.Maps.{as_map, len-as_map}
use Rattle.replica_store.proofs.RowsIn.{len-rows_in}
use Rattle.replica_store.proofs.Stored.{IsWithinLimits-offered}
use Rattle.replica_store.proofs.offer.Offer.batches.Goals as goal

pub returns-clause-value : goal.returns-clause-value
returns-clause-value c =
    c.len.ensures ∙ c.self.inside.entries.ok.0
    ∙ sym (len-rows_in (as_map c.self.inside.entries.items) ∙ len-as_map c.self.inside.entries.items c.self.invariant.sorted)
    ∙ ap (λ (o : OfferForm). map.len o.state.batches) c.self.view_is

pub returns-clause-limit : goal.returns-clause-limit
returns-clause-limit c = omega (arith, c.len.ensures, c.self.inside.entries.ok.0, c.self.invariant.limit)

pub returns-clause-within : goal.returns-clause-within
returns-clause-within c = subst (λ (o : OfferForm). IsWithinLimits o.schema o.state.batches) c.self.view_is (IsWithinLimits-offered c.self.inside.schema c.self.inside.entries.items c.self.invariant)
