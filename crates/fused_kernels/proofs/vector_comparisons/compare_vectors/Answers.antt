-- The rows found are those at which the comparison holds.
use Rattle.std.proofs.Common.{◌≡◌, ◌<◌, ◌&&◌, not, ℕ, ap, ◌∙◌}
use Rattle.table_model.specs.Truth.{compared}
use Rattle.transpose_order.specs.Mask.{has}
use Rattle.transpose_order.specs.MaskWords.{has-rows_of}
use Rattle.segment_core.specs.Coded.{value_in}
use Rattle.segment_core.specs.declared.coded.Coded.{Coded}
use Rattle.fused_kernels.specs.Seen.{looked_at}
use Rattle.fused_kernels.specs.VectorSeen.{vector_seen}
use Rattle.fused_kernels.proofs.RangeLemmas.{rows_alike}
use Rattle.fused_kernels.proofs.vector_comparisons.compare_vectors.Goals as goal

here : (c : goal.After-both_parted) (n : ℕ) → n < 1024 → has c.in-Some.found n ≡ compared c.args.op (value_in c.args.left.now.coded n) (value_in c.args.right.now.coded n)
here c n h =
    ap (λ m. has m n) c.in-Some.ensures.rows ∙ has-rows_of (λ n. compared c.args.op (value_in c.coded.result.now n) (value_in c.coded-2.result.now n)) n h
    ∙ ap (λ (x : Coded). compared c.args.op (value_in x n) (value_in c.coded-2.result.now n)) c.coded.ensures
    ∙ ap (λ (x : Coded). compared c.args.op (value_in c.args.left.now.coded n) (value_in x n)) c.coded-2.ensures

pub returns-in-Some-clause-yes : goal.returns-in-Some-clause-yes
returns-in-Some-clause-yes c =
    c.both_parted.ensures.yes
    ∙ rows_alike (λ n. looked_at (vector_seen c.args.left.now 0) c.args.mask.now n && looked_at (vector_seen c.args.right.now 0) c.args.mask.now n) (has c.in-Some.found) (λ n. compared c.args.op (value_in c.args.left.now.coded n) (value_in c.args.right.now.coded n)) (here c)

pub returns-in-Some-clause-no : goal.returns-in-Some-clause-no
returns-in-Some-clause-no c =
    c.both_parted.ensures.no
    ∙ rows_alike (λ n. looked_at (vector_seen c.args.left.now 0) c.args.mask.now n && looked_at (vector_seen c.args.right.now 0) c.args.mask.now n) (λ n. not (has c.in-Some.found n)) (λ n. not (compared c.args.op (value_in c.args.left.now.coded n) (value_in c.args.right.now.coded n))) (λ n h. ap not (here c n h))
