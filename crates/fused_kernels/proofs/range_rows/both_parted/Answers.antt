-- The rows looked at are those of both vectors.
use Rattle.std.proofs.Common.{◌≡◌, ◌&&◌, refl, ◌∙◌}
use Rattle.transpose_order.specs.Mask.{rows_of, has}
use Rattle.fused_kernels.specs.Seen.{looked_at}
use Rattle.fused_kernels.specs.VectorSeen.{vector_seen}
use Rattle.fused_kernels.proofs.RangeLemmas.{rows_and, rows_and_not, both_masks}
use Rattle.fused_kernels.proofs.range_rows.both_parted.Goals as goal

both_here : (c : goal.After-and_not) → c.and-rows.result ≡ rows_of (λ n. looked_at (vector_seen c.args.left.now 0) c.args.mask.now n && looked_at (vector_seen c.args.right.now 0) c.args.mask.now n)
both_here c =
    c.and-rows.ensures
    ∙ both_masks (looked_at (vector_seen c.args.left.now 0) c.args.mask.now) (looked_at (vector_seen c.args.right.now 0) c.args.mask.now) c.rows_of_vector.result c.rows_of_vector-2.result c.rows_of_vector.ensures c.rows_of_vector-2.ensures

pub returns-clause-yes : goal.returns-clause-yes
returns-clause-yes c =
    c.and.ensures
    ∙ rows_and (λ n. looked_at (vector_seen c.args.left.now 0) c.args.mask.now n && looked_at (vector_seen c.args.right.now 0) c.args.mask.now n) (has c.args.found.now) c.and-rows.result c.args.found.now (both_here c) (λ n h. refl)

pub returns-clause-no : goal.returns-clause-no
returns-clause-no c =
    c.and_not.ensures
    ∙ rows_and_not (λ n. looked_at (vector_seen c.args.left.now 0) c.args.mask.now n && looked_at (vector_seen c.args.right.now 0) c.args.mask.now n) (has c.args.found.now) c.and-rows.result c.args.found.now (both_here c) (λ n h. refl)
