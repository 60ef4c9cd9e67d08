-- One more value.
use Rattle.std.proofs.Common.{rules, ◌≡◌, ℕ, ℤ, FitsSigned, length, to_z, sym, ap, ◌∙◌, arith}
use Rattle.std.specs.Int.{w64, int_max}
use Rattle.std.proofs.lemmas.Int.{to_z-of_z}
use Rattle.bit_interleave.specs.Range.{value_at}
use Rattle.native_lanes.specs.Folds.{fold_to}
use Rattle.native_lanes.proofs.FoldLemmas.{fold_to-zero, fold_to-more}
use Rattle.table_model.specs.Extreme.{turned}
use Rattle.fused_kernels.proofs.ExtremeLemmas.{bottom}
use Rattle.fused_kernels.proofs.run_folds.extreme_of_all.Goals as goal

pub loop-i-init : goal.loop-i-init
loop-i-init c = sym (fold_to-zero int_max bottom (λ i. turned c.args.side (value_at c.args.values.now.values i)))

pub loop-i-preserved : goal.loop-i-preserved
loop-i-preserved c =
    let i = c.loop-i.i in
    let side = c.args.side in
    let numbers : ℕ → ℤ = λ i. turned side (value_at c.args.values.now.values i) in
    let own : FitsSigned w64 c.get.result = search rules in
    let fits : FitsSigned w64 c.turned.result = search rules in
    let after : FitsSigned w64 c.max-greatest.result = search rules in
    to_z-of_z w64 c.max-greatest.result after ∙ c.max-greatest.ensures.value
    ∙ ap (int_max (to_z w64 c.loop-i.greatest-bits)) (to_z-of_z w64 c.turned.result fits ∙ c.turned.ensures ∙ ap (turned side) (to_z-of_z w64 c.get.result own ∙ c.get.ensures.value))
    ∙ ap (λ x. int_max x (numbers i)) c.loop-i.invariant
    ∙ sym (fold_to-more int_max bottom i numbers)

pub returns : goal.returns
returns c =
    let side = c.args.side in
    let numbers : ℕ → ℤ = λ i. turned side (value_at c.args.values.now.values i) in
    let result : FitsSigned w64 c.turned-2.result = search rules in
    let done : c.loop-i.i ≡ length c.args.values.now.values = omega (arith, c.len-i-end.ensures) in
    to_z-of_z w64 c.turned-2.result result ∙ c.turned-2.ensures ∙ ap (turned side) (c.loop-i.invariant ∙ ap (λ k. fold_to int_max bottom k numbers) done)
