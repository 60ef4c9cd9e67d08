-- As many batches as the state has, which is within the limits.
use Rattle.std.proofs.Common.{length, ap, ◌∙◌, subst}
use Rattle.store_view.specs.View.{ViewForm}
use Rattle.store_view.proofs.view.StoreViewColumns.batches.Goals as goal
use Rattle.std.specs.FinMap as finite
use Rattle.query_eval.specs.Vector.{IsWithin}
use Rattle.store_view.proofs.StateLemmas.{within}

pub returns-clause-count : goal.returns-clause-count
returns-clause-count c = c.batches.ensures.value ∙ finite.len-entries c.self.inside.store.now.replica.state.batches ∙ ap (λ (v : ViewForm). length (finite.entries v.state.batches)) c.self.view_is

pub returns-clause-limits : goal.returns-clause-limits
returns-clause-limits c = subst (λ (v : ViewForm). IsWithin v.table v.state) c.self.view_is (within c.self.inside.store.now.replica.schema c.self.inside.store.now.replica.state c.batches.ensures.within)
