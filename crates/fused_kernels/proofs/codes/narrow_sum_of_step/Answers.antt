-- One more lane is added.
use Rattle.std.proofs.Common.{rules, ◌≡◌, ◌==◌, ℕ, ◌+◌, ◌*◌, ◌^◌, cond, Bool, ℤ, pos, ◌+ℤ◌, ◌-ℤ◌, ◌≤ℤ◌, slice_index, FitsSigned, to_z, of_z, sym, ap, subst, ◌∙◌, arith}
use Rattle.std.specs.Int.{bit_at, w32, w64}
use Rattle.std.proofs.lemmas.Int.{ints, to_z-of_z}
use Rattle.std.proofs.lemmas.Nat.Bits.{shr_and_one}
use Rattle.bit_interleave.specs.Range.{value_at}
use Rattle.native_lanes.specs.Folds.{fold_to}
use Rattle.native_lanes.proofs.FoldLemmas.{fold_to-zero, fold_to-more}
use Rattle.fused_kernels.proofs.CodeSumLemmas.{narrow_from, narrow_up_to, sum_kept}
use Rattle.fused_kernels.proofs.codes.narrow_sum_of_step.Goals as goal

pub loop-i-init : goal.loop-i-init
loop-i-init c =
    let term : ℕ → ℤ = λ lane. cond (bit_at (slice_index c.args.rows.now lane) c.args.step == 1) (value_at c.args.values.now (slice_index c.args.codes.now lane)) (pos 0) in
    record { sum = sym (fold_to-zero ◌+ℤ◌ (pos 0) term); least = omega (arith, ints); most = omega (arith, ints) }

pub loop-i-preserved : goal.loop-i-preserved
loop-i-preserved c =
    let i = c.loop-i.i in
    let values = c.args.values.now in
    let code = slice_index c.args.codes.now i in
    let term : ℕ → ℤ = λ lane. cond (bit_at (slice_index c.args.rows.now lane) c.args.step == 1) (value_at values (slice_index c.args.codes.now lane)) (pos 0) in
    let read : ℤ = value_at values c.from.result in
    let fits : FitsSigned w64 read = search rules in
    let taken : Bool = bit_at (slice_index c.args.rows.now i) c.args.step == 1 in
    let one : c.value_if-sum.result ≡ term i =
    c.value_if-sum.ensures ∙ ap (λ (n : ℕ). cond (n == 1) (to_z w64 (of_z w64 read)) (pos 0)) (shr_and_one (slice_index c.args.rows.now i) c.args.step)
    ∙ ap (λ (z : ℤ). cond taken z (pos 0)) (to_z-of_z w64 read fits ∙ ap (λ (k : ℕ). value_at values k) c.from.ensures) in
    let narrow : FitsSigned w32 (value_at values code) = c.requires.narrow code (pos 0) (c.requires.codes i c.loop-i-test.true) in
    let from = narrow_from taken (value_at values code) narrow in
    let up_to = narrow_up_to taken (value_at values code) narrow in
    let before : ℤ = to_z w64 c.loop-i.sum-bits in
    let least : (pos 0 -ℤ pos (2 ^ 31 * (i + 1))) ≤ℤ (before +ℤ c.value_if-sum.result) = omega (arith, ints, c.loop-i.invariant.least, one, from) in
    let most : (before +ℤ c.value_if-sum.result) ≤ℤ pos (2 ^ 31 * (i + 1)) = omega (arith, ints, c.loop-i.invariant.most, one, up_to) in
    let kept = sum_kept before c.value_if-sum.result (omega (arith, ints, one, from, up_to)) (omega (arith, ints, least, most, c.loop-i-test.true)) in
    record {
      sum = kept ∙ ap (λ z. z +ℤ c.value_if-sum.result) c.loop-i.invariant.sum ∙ ap (λ z. fold_to ◌+ℤ◌ (pos 0) i term +ℤ z) one ∙ sym (fold_to-more ◌+ℤ◌ (pos 0) i term);
      least = subst (λ (z : ℤ). (pos 0 -ℤ pos (2 ^ 31 * (i + 1))) ≤ℤ z) (sym kept) least;
      most = subst (λ (z : ℤ). z ≤ℤ pos (2 ^ 31 * (i + 1))) (sym kept) most;
    }
