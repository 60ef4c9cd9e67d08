-- The run of the next row is the same, or the next where one starts there.
use Rattle.std.proofs.Common.{◌≡◌, ℕ, suc, ◌+◌, ◌-◌, ◌<◌, Bool, true, false, cond, List, length, refl, sym, ap, ◌∙◌, subst, arith}
use mir.Val.{bool_byte}
use Rattle.transpose_order.specs.Mask.{has}
use Rattle.transpose_order.proofs.MaskLemmas.{count_below-suc}
use Rattle.run_dictionary.specs.Runs.{run_of}
use Rattle.run_dictionary.proofs.RunLemmas.{run_of-within}
use Rattle.run_dictionary.proofs.StepLemmas.{run_of-bound}
use Rattle.fused_kernels.proofs.vector_lanes.run_after.Goals as goal

one_if : (b : Bool) → bool_byte b ≡ cond b 1 0
one_if true = refl
one_if false = refl

run_next : (starts : List Bool) (row before n : ℕ) (b : Bool) → 0 < row → before ≡ run_of starts (row - 1) → n ≡ bool_byte b → b ≡ has starts row → before + n ≡ run_of starts row
run_next starts row before n b some was is here =
    let whole : suc (row - 1) ≡ row = omega arith in
    ap (λ x. x + n) was ∙ ap (λ x. run_of starts (row - 1) + x) (is ∙ one_if b ∙ ap (λ b. cond b 1 0) (here ∙ ap (has starts) (sym whole)))
    ∙ sym (count_below-suc (λ i. has starts (suc i)) (row - 1)) ∙ ap (run_of starts) whole

pub returns-then-known-clause-run : goal.returns-then-known-clause-run
returns-then-known-clause-run c =
    let known = c.requires.before c.if-known.true in
    run_next c.args.form.now.starts c.args.row c.args.before c.from.result c.get.result known.0 known.1 c.from.ensures (c.get.ensures ∙ ap (λ m. has m c.args.row) c.starts.ensures.value)

pub returns-then-known-clause-within : goal.returns-then-known-clause-within
returns-then-known-clause-within c =
    subst (λ (n : ℕ). n < length c.args.form.now.values) (sym (returns-then-known-clause-run c)) (run_of-within c.args.form.now c.starts.ensures.form c.args.row c.requires.row)

pub overflow_add-result : goal.overflow_add-result
overflow_add-result c =
    let known = c.requires.before c.if-known.true in
    let run = run_next c.args.form.now.starts c.args.row c.args.before c.from.result c.get.result known.0 known.1 c.from.ensures (c.get.ensures ∙ ap (λ m. has m c.args.row) c.starts.ensures.value) in
    omega (arith, run, run_of-within c.args.form.now c.starts.ensures.form c.args.row c.requires.row, run_of-bound c.args.form.now c.starts.ensures.form)
