-- The rows looked at are the vector's.
use Rattle.std.proofs.Common.{refl, ◌∙◌}
use Rattle.transpose_order.specs.Mask.{has}
use Rattle.fused_kernels.specs.Seen.{looked_at}
use Rattle.fused_kernels.specs.VectorSeen.{vector_seen}
use Rattle.fused_kernels.proofs.RangeLemmas.{rows_and, rows_and_not}
use Rattle.fused_kernels.proofs.range_rows.parted.Goals as goal

pub returns-clause-yes : goal.returns-clause-yes
returns-clause-yes c =
    c.and.ensures ∙ rows_and (looked_at (vector_seen c.args.vector.now 0) c.args.mask.now) (has c.args.found.now) c.rows_of_vector-rows.result c.args.found.now c.rows_of_vector-rows.ensures (λ n h. refl)

pub returns-clause-no : goal.returns-clause-no
returns-clause-no c =
    c.and_not.ensures ∙ rows_and_not (looked_at (vector_seen c.args.vector.now 0) c.args.mask.now) (has c.args.found.now) c.rows_of_vector-rows.result c.args.found.now c.rows_of_vector-rows.ensures (λ n h. refl)
