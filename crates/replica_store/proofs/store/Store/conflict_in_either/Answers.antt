-- The offer's entries have its batches.
use Rattle.std.proofs.Common.{◌∙◌}
use Rattle.table_model.specs.State.{union_of}
use Rattle.replica_store.specs.Segments.{conflict_in}
use Rattle.replica_store.proofs.Brings.{conflict_brought}
use Rattle.replica_store.proofs.store.Store.conflict_in_either.Goals as goal

pub returns : goal.returns
returns c =
    c.conflict_in_either.ensures
    ∙ (λ i. conflict_in (union_of (c.held.view_is i).replica.state.batches (c.self.view_is i).replica.state.batches) c.entries.result.now)
    ∙ conflict_brought (union_of c.args.held.now.replica.state.batches c.args.self.now.replica.state.batches) c.args.offer.now c.entries.result.now c.entries.ensures.value c.entries.ensures.rows
