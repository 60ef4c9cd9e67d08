-- The lanes' values are the vector's.
use Rattle.std.proofs.Common.{◌≡◌, ◌<◌, ◌&&◌, not, ℕ, to_z, of_z, ap, ◌∙◌}
use Rattle.std.specs.Int.{w128}
use Rattle.std.proofs.lemmas.Int.{to_z-of_z}
use Rattle.transpose_order.specs.Mask.{rows_of}
use Rattle.bit_interleave.specs.Range.{value_at}
use Rattle.segment_core.specs.Coded.{value_in}
use Rattle.segment_core.proofs.CodedLemmas.{value_at-values_of}
use Rattle.fused_kernels.specs.Seen.{LanesSeen, looked_at, between}
use Rattle.fused_kernels.specs.VectorSeen.{vector_seen}
use Rattle.fused_kernels.proofs.RangeLemmas.{rows_alike}
use Rattle.fused_kernels.proofs.vector_comparisons.compare_range_by_lanes.Goals as goal

-- the test as it is passed
passed : (c : goal.After-compare_range) (n : ℕ) → n < 1024 → between (to_z w128 (of_z w128 c.args.low)) (to_z w128 (of_z w128 c.args.high)) (value_at (vector_seen c.args.vector.now 0).values n) ≡ between c.args.low c.args.high (value_in c.args.vector.now.coded n)
passed c n h =
    ap (between (to_z w128 (of_z w128 c.args.low)) (to_z w128 (of_z w128 c.args.high))) (value_at-values_of c.args.vector.now.coded n h)
    ∙ ap (λ x. between x (to_z w128 (of_z w128 c.args.high)) (value_in c.args.vector.now.coded n)) (to_z-of_z w128 c.args.low c.ranges.low)
    ∙ ap (λ x. between c.args.low x (value_in c.args.vector.now.coded n)) (to_z-of_z w128 c.args.high c.ranges.high)

pub returns-clause-yes : goal.returns-clause-yes
returns-clause-yes c =
    let low = to_z w128 (of_z w128 c.args.low) in
    let high = to_z w128 (of_z w128 c.args.high) in
    let mask = c.args.mask.now in
    let s : LanesSeen = vector_seen c.args.vector.now 0 in
    c.compare_range.ensures.yes
    ∙ ap (λ (x : LanesSeen). rows_of (λ n. looked_at x mask n && between low high (value_at x.values n))) c.new.ensures.lanes
    ∙ rows_alike (looked_at s mask) (λ n. between low high (value_at s.values n)) (λ n. between c.args.low c.args.high (value_in c.args.vector.now.coded n)) (passed c)

pub returns-clause-no : goal.returns-clause-no
returns-clause-no c =
    let low = to_z w128 (of_z w128 c.args.low) in
    let high = to_z w128 (of_z w128 c.args.high) in
    let mask = c.args.mask.now in
    let s : LanesSeen = vector_seen c.args.vector.now 0 in
    c.compare_range.ensures.no
    ∙ ap (λ (x : LanesSeen). rows_of (λ n. looked_at x mask n && not (between low high (value_at x.values n)))) c.new.ensures.lanes
    ∙ rows_alike (looked_at s mask) (λ n. not (between low high (value_at s.values n))) (λ n. not (between c.args.low c.args.high (value_in c.args.vector.now.coded n))) (λ n h. ap not (passed c n h))
