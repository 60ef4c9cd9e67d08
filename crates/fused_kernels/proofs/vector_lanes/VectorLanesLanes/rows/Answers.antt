-- A vector's lanes are lanes.
use Rattle.std.proofs.Common.{subst}
use Rattle.fused_kernels.specs.Seen.{AreLanes}
use Rattle.fused_kernels.proofs.VectorLemmas.{vector_is_lanes}
use Rattle.fused_kernels.proofs.vector_lanes.VectorLanesLanes.rows.Goals as goal

pub returns-clause-form : goal.returns-clause-form
returns-clause-form c = subst AreLanes c.self.view_is (vector_is_lanes c.self.inside.vector.now c.self.inside.given c.self.invariant.form)
