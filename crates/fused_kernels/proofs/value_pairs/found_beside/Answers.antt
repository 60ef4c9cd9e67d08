-- A comparison holds where its test does, or where it doesn't.
use Rattle.std.proofs.Common.{not, cond, if◌then◌else◌, ℕ, ℤ, sym, ap, ◌∙◌}
use Rattle.table_model.specs.Truth.{compared}
use Rattle.transpose_order.specs.Mask.{has}
use Rattle.transpose_order.specs.MaskWords.{rows_of-like, has-rows_of}
use Rattle.native_lanes.specs.Pairs.{value_passes}
use Rattle.segment_core.specs.Coded.{value_in}
use Rattle.fused_kernels.proofs.value_pairs.found_beside.Goals as goal

pub returns-in-Some-clause-rows : goal.returns-in-Some-clause-rows
returns-in-Some-clause-rows c =
    let l : ℕ → ℤ = value_in c.args.left.now in
    let r : ℕ → ℤ = value_in c.args.right.now in
    let asked = c.of-asked.result in
    let inside = asked.holds in
    c.held.ensures
    ∙ rows_of-like (λ n. if inside then has c.in-Some.found n else not (has c.in-Some.found n)) (λ n. compared c.args.op (l n) (r n))
    (λ n h.
    ap (λ b. if inside then b else not b)
    (ap (λ m. has m n) c.in-Some.ensures.rows ∙ has-rows_of (λ n. value_passes asked.test (cond asked.turned (r n) (l n)) (cond asked.turned (l n) (r n))) n h)
    ∙ sym (c.of-asked.ensures (l n) (r n)))
