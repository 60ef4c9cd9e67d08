-- The lanes' values are the vectors'.
use Rattle.std.proofs.Common.{◌≡◌, ◌<◌, ◌&&◌, not, ℕ, ap, ◌∙◌}
use Rattle.table_model.specs.Truth.{compared}
use Rattle.transpose_order.specs.Mask.{rows_of}
use Rattle.bit_interleave.specs.Range.{value_at}
use Rattle.segment_core.specs.Coded.{value_in}
use Rattle.segment_core.proofs.CodedLemmas.{value_at-values_of}
use Rattle.fused_kernels.specs.Seen.{LanesSeen, looked_at}
use Rattle.fused_kernels.specs.VectorSeen.{vector_seen}
use Rattle.fused_kernels.proofs.RangeLemmas.{rows_alike}
use Rattle.fused_kernels.proofs.vector_comparisons.compare_vectors_by_lanes.Goals as goal

same : (c : goal.After-compare_columns) (n : ℕ) → n < 1024 → compared c.args.op (value_at (vector_seen c.args.left.now 0).values n) (value_at (vector_seen c.args.right.now 0).values n) ≡ compared c.args.op (value_in c.args.left.now.coded n) (value_in c.args.right.now.coded n)
same c n h =
    ap (λ v. compared c.args.op v (value_at (vector_seen c.args.right.now 0).values n)) (value_at-values_of c.args.left.now.coded n h)
    ∙ ap (compared c.args.op (value_in c.args.left.now.coded n)) (value_at-values_of c.args.right.now.coded n h)

pub returns-clause-yes : goal.returns-clause-yes
returns-clause-yes c =
    let mask = c.args.mask.now in
    let a : LanesSeen = vector_seen c.args.left.now 0 in
    let b : LanesSeen = vector_seen c.args.right.now 0 in
    c.compare_columns.ensures.yes
    ∙ ap (λ (x : LanesSeen). rows_of (λ n. (looked_at x mask n && looked_at c.new-rights.result mask n) && compared c.args.op (value_at x.values n) (value_at c.new-rights.result.values n))) c.new-lefts.ensures.lanes
    ∙ ap (λ (y : LanesSeen). rows_of (λ n. (looked_at a mask n && looked_at y mask n) && compared c.args.op (value_at a.values n) (value_at y.values n))) c.new-rights.ensures.lanes
    ∙ rows_alike (λ n. looked_at a mask n && looked_at b mask n) (λ n. compared c.args.op (value_at a.values n) (value_at b.values n)) (λ n. compared c.args.op (value_in c.args.left.now.coded n) (value_in c.args.right.now.coded n)) (same c)

pub returns-clause-no : goal.returns-clause-no
returns-clause-no c =
    let mask = c.args.mask.now in
    let a : LanesSeen = vector_seen c.args.left.now 0 in
    let b : LanesSeen = vector_seen c.args.right.now 0 in
    c.compare_columns.ensures.no
    ∙ ap (λ (x : LanesSeen). rows_of (λ n. (looked_at x mask n && looked_at c.new-rights.result mask n) && not (compared c.args.op (value_at x.values n) (value_at c.new-rights.result.values n)))) c.new-lefts.ensures.lanes
    ∙ ap (λ (y : LanesSeen). rows_of (λ n. (looked_at a mask n && looked_at y mask n) && not (compared c.args.op (value_at a.values n) (value_at y.values n)))) c.new-rights.ensures.lanes
    ∙ rows_alike (λ n. looked_at a mask n && looked_at b mask n) (λ n. not (compared c.args.op (value_at a.values n) (value_at b.values n))) (λ n. not (compared c.args.op (value_in c.args.left.now.coded n) (value_in c.args.right.now.coded n))) (λ n h. ap not (same c n h))
