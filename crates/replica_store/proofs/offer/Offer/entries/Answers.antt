-- The entries of the map are the vector's.
use Rattle.std.proofs.Common.{sym, ap, subst, ◌∙◌}
use Rattle.std.specs.FinMap as map
use Rattle.replica_store.specs.Exchange.{OfferForm, AreOffered}
use Rattle.replica_store.specs.Segments.{rows_in}
use Rattle.replica_store.proofs.Maps.{entries-as_map}
use Rattle.replica_store.proofs.offer.Offer.entries.Goals as goal

pub returns-clause-value : goal.returns-clause-value
returns-clause-value c = c.as_slice.ensures.value ∙ sym (entries-as_map c.self.inside.entries.items c.self.invariant.sorted) ∙ ap (λ (o : OfferForm). map.entries o.segments) c.self.view_is

pub returns-clause-rows : goal.returns-clause-rows
returns-clause-rows c = ap (λ (o : OfferForm). o.state.batches) (sym c.self.view_is) ∙ ap (λ (o : OfferForm). rows_in o.segments) c.self.view_is

pub returns-clause-offered : goal.returns-clause-offered
returns-clause-offered c = subst (λ (o : OfferForm). AreOffered o.schema c.as_slice.result.now) c.self.view_is (subst (AreOffered c.self.inside.schema) (sym c.as_slice.ensures.value) c.self.invariant)
