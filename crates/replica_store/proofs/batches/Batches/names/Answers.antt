-- The names are kept beside the batches.
use Rattle.std.proofs.Common.{ap, ◌∙◌}
use Rattle.replica_store.specs.Replica.{names_of}
use Rattle.replica_store.specs.Segments.{BatchesForm}
use Rattle.replica_store.proofs.batches.Batches.names.Goals as goal

pub returns : goal.returns
returns c = c.self.invariant.kept.names ∙ ap names_of (ap (λ (b : BatchesForm). b.segments) c.self.view_is)
