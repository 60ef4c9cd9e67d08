-- The rows and the nulls are the vector's.
use Rattle.std.proofs.Common.{◌&&◌, not, nat_lt, ℕ, List, Bool, ap, ◌∙◌}
use Rattle.transpose_order.specs.Mask.{rows_of, has}
use Rattle.fused_kernels.proofs.range_rows.rows_of_vector.Goals as goal

pub returns : goal.returns
returns c =
    let mask = c.args.mask.now in
    c.rows_among.ensures
    ∙ ap (λ (r : ℕ). rows_of (λ n. nat_lt n r && (has mask n && not (has c.null_rows.result n)))) c.rows.ensures.value
    ∙ ap (λ (m : List Bool). rows_of (λ n. nat_lt n c.args.vector.now.rows && (has mask n && not (has m n)))) c.null_rows.ensures
