-- The entries of the map are the vector's.
use Rattle.std.proofs.Common.{sym, ap, ◌∙◌}
use Rattle.std.specs.FinMap as map
use Rattle.replica_store.specs.Exchange.{OfferForm}
use Rattle.replica_store.proofs.Maps.{entries-as_map}
use Rattle.replica_store.proofs.offer.Offer.into_parts.Goals as goal

pub returns-clause-value : goal.returns-clause-value
returns-clause-value c = sym (entries-as_map c.self.inside.entries.items c.self.invariant.sorted) ∙ ap (λ (o : OfferForm). map.entries o.segments) c.self.view_is
