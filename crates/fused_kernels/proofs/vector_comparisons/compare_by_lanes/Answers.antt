-- The lanes' values are the vector's.
use Rattle.std.proofs.Common.{◌≡◌, ◌<◌, ◌&&◌, not, ℕ, to_z, of_z, ap, ◌∙◌}
use Rattle.std.specs.Int.{w128}
use Rattle.std.proofs.lemmas.Int.{to_z-of_z}
use Rattle.table_model.specs.Truth.{compared}
use Rattle.transpose_order.specs.Mask.{rows_of}
use Rattle.bit_interleave.specs.Range.{value_at}
use Rattle.segment_core.specs.Coded.{value_in}
use Rattle.segment_core.proofs.CodedLemmas.{value_at-values_of}
use Rattle.fused_kernels.specs.Seen.{LanesSeen, looked_at}
use Rattle.fused_kernels.specs.VectorSeen.{vector_seen}
use Rattle.fused_kernels.proofs.RangeLemmas.{rows_alike}
use Rattle.fused_kernels.proofs.vector_comparisons.compare_by_lanes.Goals as goal

-- the test as it is passed
passed : (c : goal.After-compare) (n : ℕ) → n < 1024 → compared c.args.op (value_at (vector_seen c.args.vector.now 0).values n) (to_z w128 (of_z w128 c.args.literal)) ≡ compared c.args.op (value_in c.args.vector.now.coded n) c.args.literal
passed c n h =
    ap (λ v. compared c.args.op v (to_z w128 (of_z w128 c.args.literal))) (value_at-values_of c.args.vector.now.coded n h)
    ∙ ap (compared c.args.op (value_in c.args.vector.now.coded n)) (to_z-of_z w128 c.args.literal c.ranges.literal)

pub returns-clause-yes : goal.returns-clause-yes
returns-clause-yes c =
    let literal = to_z w128 (of_z w128 c.args.literal) in
    let mask = c.args.mask.now in
    let s : LanesSeen = vector_seen c.args.vector.now 0 in
    c.compare.ensures.yes
    ∙ ap (λ (x : LanesSeen). rows_of (λ n. looked_at x mask n && compared c.args.op (value_at x.values n) literal)) c.new.ensures.lanes
    ∙ rows_alike (looked_at s mask) (λ n. compared c.args.op (value_at s.values n) literal) (λ n. compared c.args.op (value_in c.args.vector.now.coded n) c.args.literal) (passed c)

pub returns-clause-no : goal.returns-clause-no
returns-clause-no c =
    let literal = to_z w128 (of_z w128 c.args.literal) in
    let mask = c.args.mask.now in
    let s : LanesSeen = vector_seen c.args.vector.now 0 in
    c.compare.ensures.no
    ∙ ap (λ (x : LanesSeen). rows_of (λ n. looked_at x mask n && not (compared c.args.op (value_at x.values n) literal))) c.new.ensures.lanes
    ∙ rows_alike (looked_at s mask) (λ n. not (compared c.args.op (value_at s.values n) literal)) (λ n. not (compared c.args.op (value_in c.args.vector.now.coded n) c.args.literal)) (λ n h. ap not (passed c n h))
