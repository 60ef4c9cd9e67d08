-- A vector's lanes are lanes.
use Rattle.std.proofs.Common.{subst}
use Rattle.fused_kernels.specs.Seen.{AreLanes}
use Rattle.fused_kernels.proofs.VectorLemmas.{vector_is_lanes}
use Rattle.fused_kernels.proofs.vector_lanes.VectorLanesLanes.lane_width.Goals as goal

pub returns-in-For-clause-form : goal.returns-in-For-clause-form
returns-in-For-clause-form c = subst AreLanes c.self.view_is (vector_is_lanes c.self.inside.vector.now c.self.inside.given c.self.invariant.form)

pub returns-in-Delta-clause-form : goal.returns-in-Delta-clause-form
returns-in-Delta-clause-form c = subst AreLanes c.self.view_is (vector_is_lanes c.self.inside.vector.now c.self.inside.given c.self.invariant.form)

pub returns-in-Runs-clause-form : goal.returns-in-Runs-clause-form
returns-in-Runs-clause-form c = subst AreLanes c.self.view_is (vector_is_lanes c.self.inside.vector.now c.self.inside.given c.self.invariant.form)

pub returns-in-Dict-clause-form : goal.returns-in-Dict-clause-form
returns-in-Dict-clause-form c = subst AreLanes c.self.view_is (vector_is_lanes c.self.inside.vector.now c.self.inside.given c.self.invariant.form)
