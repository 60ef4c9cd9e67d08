-- The rows found are those whose value is in the range.
use Rattle.std.proofs.Common.{◌≡◌, ◌<◌, not, ℕ, ap, ◌∙◌}
use Rattle.transpose_order.specs.Mask.{has}
use Rattle.segment_core.specs.Coded.{value_in}
use Rattle.fused_kernels.specs.Seen.{looked_at, between}
use Rattle.fused_kernels.specs.VectorSeen.{vector_seen}
use Rattle.fused_kernels.proofs.FoundLemmas.{found_where}
use Rattle.fused_kernels.proofs.RangeLemmas.{rows_alike}
use Rattle.fused_kernels.proofs.vector_comparisons.compare_vector_range.Goals as goal

here : (c : goal.After-parted) (n : ℕ) → n < 1024 → has c.in-Some.found n ≡ between c.args.low c.args.high (value_in c.args.vector.now.coded n)
here c n h =
    found_where c.in-Some.found c.args.low c.args.high c.args.vector.now.coded c.coded.result.now n c.ranges.low c.ranges.high c.coded.ensures c.in-Some.ensures.rows h

pub returns-in-Some-clause-yes : goal.returns-in-Some-clause-yes
returns-in-Some-clause-yes c =
    c.parted.ensures.yes
    ∙ rows_alike (looked_at (vector_seen c.args.vector.now 0) c.args.mask.now) (has c.in-Some.found) (λ n. between c.args.low c.args.high (value_in c.args.vector.now.coded n)) (here c)

pub returns-in-Some-clause-no : goal.returns-in-Some-clause-no
returns-in-Some-clause-no c =
    c.parted.ensures.no
    ∙ rows_alike (looked_at (vector_seen c.args.vector.now 0) c.args.mask.now) (λ n. not (has c.in-Some.found n)) (λ n. not (between c.args.low c.args.high (value_in c.args.vector.now.coded n))) (λ n h. ap not (here c n h))
