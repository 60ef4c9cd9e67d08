-- The rows at which the comparison holds are among those looked at in both.
use Rattle.std.proofs.Common.{◌≡◌, ℕ, ◌<◌, ◌&&◌, List, ℤ, ap, ◌∙◌}
use Rattle.table_model.specs.Truth.{compared}
use Rattle.transpose_order.specs.Mask.{rows_of, has}
use Rattle.transpose_order.specs.MaskWords.{has-rows_of}
use Rattle.bit_interleave.specs.Range.{value_at}
use Rattle.segment_core.specs.Coded.{value_in, values_of}
use Rattle.segment_core.specs.declared.coded.Coded.{Coded}
use Rattle.segment_core.proofs.CodedLemmas.{value_at-values_of}
use Rattle.fused_kernels.specs.Seen.{looked_at}
use Rattle.fused_kernels.specs.VectorSeen.{vector_seen}
use Rattle.fused_kernels.proofs.RangeLemmas.{rows_and, rows_and_not, both_masks}
use Rattle.fused_kernels.proofs.vector_comparisons.compare_decoded.Goals as goal

-- a row of what was decoded
decoded : (xs : List ℤ) (coded k : Coded) (n : ℕ) → xs ≡ values_of k → k ≡ coded → n < 1024 → value_at xs n ≡ value_in coded n
decoded xs coded k n is same h = ap (λ (xs : List ℤ). value_at xs n) is ∙ value_at-values_of k n h ∙ ap (λ (x : Coded). value_in x n) same

found_here : (c : goal.After-and_not) (n : ℕ) → n < 1024 → has c.rows_where-found.result n ≡ compared c.args.op (value_in c.args.left.now.coded n) (value_in c.args.right.now.coded n)
found_here c n h =
    ap (λ m. has m n) c.rows_where-found.ensures ∙ has-rows_of (λ n. compared c.args.op (value_at c.decode.new.values n) (value_at c.decode-2.new.values n)) n h
    ∙ ap (λ v. compared c.args.op v (value_at c.decode-2.new.values n)) (decoded c.decode.new.values c.args.left.now.coded c.coded.result.now n c.decode.ensures.values c.coded.ensures h)
    ∙ ap (compared c.args.op (value_in c.args.left.now.coded n)) (decoded c.decode-2.new.values c.args.right.now.coded c.coded-2.result.now n c.decode-2.ensures.values c.coded-2.ensures h)

both_here : (c : goal.After-and_not) → c.and-rows.result ≡ rows_of (λ n. looked_at (vector_seen c.args.left.now 0) c.args.mask.now n && looked_at (vector_seen c.args.right.now 0) c.args.mask.now n)
both_here c =
    c.and-rows.ensures
    ∙ both_masks (looked_at (vector_seen c.args.left.now 0) c.args.mask.now) (looked_at (vector_seen c.args.right.now 0) c.args.mask.now) c.rows_of_vector.result c.rows_of_vector-2.result c.rows_of_vector.ensures c.rows_of_vector-2.ensures

pub returns-clause-yes : goal.returns-clause-yes
returns-clause-yes c =
    c.and.ensures
    ∙ rows_and (λ n. looked_at (vector_seen c.args.left.now 0) c.args.mask.now n && looked_at (vector_seen c.args.right.now 0) c.args.mask.now n) (λ n. compared c.args.op (value_in c.args.left.now.coded n) (value_in c.args.right.now.coded n)) c.and-rows.result c.rows_where-found.result (both_here c) (found_here c)

pub returns-clause-no : goal.returns-clause-no
returns-clause-no c =
    c.and_not.ensures
    ∙ rows_and_not (λ n. looked_at (vector_seen c.args.left.now 0) c.args.mask.now n && looked_at (vector_seen c.args.right.now 0) c.args.mask.now n) (λ n. compared c.args.op (value_in c.args.left.now.coded n) (value_in c.args.right.now.coded n)) c.and-rows.result c.rows_where-found.result (both_here c) (found_here c)
