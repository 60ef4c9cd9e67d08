-- Each row that is looked at has one value.
use Rattle.std.proofs.Common.{◌≡◌, ◌&&◌, not, nat_lt, ℕ, List, Bool, count_by, ap, ◌∙◌, sym, arith}
use Rattle.transpose_order.specs.Mask.{rows_of, has, count_below}
use Rattle.transpose_order.proofs.MaskLemmas.{count_by-rows_of, count_below-le}
use Rattle.fused_kernels.specs.Seen.{looked_at}
use Rattle.fused_kernels.specs.VectorSeen.{vector_seen}
use Rattle.fused_kernels.proofs.CountLemmas.{length-looked_at}
use Rattle.fused_kernels.proofs.counts.count.Goals as goal

counted : (c : goal.After-count) → c.count.result ≡ count_below (looked_at (vector_seen c.args.vector.now 0) c.args.mask.now) 1024
counted c =
    let mask = c.args.mask.now in
    c.count.ensures
    ∙ ap (count_by (λ row. row))
    (c.rows_among.ensures
    ∙ ap (λ (r : ℕ). rows_of (λ n. nat_lt n r && (has mask n && not (has c.null_rows.result n)))) c.rows.ensures.value
    ∙ ap (λ (m : List Bool). rows_of (λ n. nat_lt n c.args.vector.now.rows && (has mask n && not (has m n)))) c.null_rows.ensures)
    ∙ count_by-rows_of (looked_at (vector_seen c.args.vector.now 0) mask)

pub overflow_cast-result : goal.overflow_cast-result
overflow_cast-result c =
    omega (arith, counted c, count_below-le (looked_at (vector_seen c.args.vector.now 0) c.args.mask.now) 1024)

pub returns : goal.returns
returns c = counted c ∙ sym (length-looked_at (vector_seen c.args.vector.now 0) c.args.mask.now)
