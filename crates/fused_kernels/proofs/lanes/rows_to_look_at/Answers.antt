-- The rows and the nulls are those of the lanes.
use Rattle.std.proofs.Common.{ℕ, List, Bool, ◌&&◌, not, nat_lt, ap, ◌∙◌}
use Rattle.transpose_order.specs.Mask.{rows_of, has}
use Rattle.fused_kernels.proofs.lanes.rows_to_look_at.Goals as goal

pub returns-clause-rows : goal.returns-clause-rows
returns-clause-rows g c =
    let mask = c.args.mask.now in
    c.rows_among.ensures
    ∙ ap (λ (r : ℕ). rows_of (λ n. nat_lt n r && (has mask n && not (has c.nulls.result n)))) c.rows.ensures.value
    ∙ ap (λ (m : List Bool). rows_of (λ n. nat_lt n (g.L.Lanes.seen c.args.lanes.now).rows && (has mask n && not (has m n)))) c.nulls.ensures
