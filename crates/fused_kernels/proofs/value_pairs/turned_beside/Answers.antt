-- The two vectors are compared in their order or the other.
use Rattle.std.proofs.Common.{cond, ℕ, ℤ, Bool, sym, ap, ◌∙◌}
use Rattle.transpose_order.specs.Mask.{rows_of}
use Rattle.native_lanes.specs.Pairs.{value_passes}
use Rattle.segment_core.specs.Coded.{value_in}
use Rattle.fused_kernels.proofs.value_pairs.turned_beside.Goals as goal

pub returns-then-turned-clause-rows : goal.returns-then-turned-clause-rows
returns-then-turned-clause-rows c =
    let l : ℕ → ℤ = value_in c.args.left.now in
    let r : ℕ → ℤ = value_in c.args.right.now in
    c.in_ok-found.ensures.rows
    ∙ ap (λ (b : Bool). rows_of (λ n. value_passes c.args.test (cond b (r n) (l n)) (cond b (l n) (r n)))) (sym c.if-turned.true)

pub returns-clause-rows : goal.returns-clause-rows
returns-clause-rows c =
    let l : ℕ → ℤ = value_in c.args.left.now in
    let r : ℕ → ℤ = value_in c.args.right.now in
    c.in_ok-found-2.ensures.rows
    ∙ ap (λ (b : Bool). rows_of (λ n. value_passes c.args.test (cond b (r n) (l n)) (cond b (l n) (r n)))) (sym c.if-turned.false)
