-- One more lane is added.
use Rattle.std.proofs.Common.{rules, ◌≡◌, ◌==◌, ℕ, ◌^◌, cond, Bool, ℤ, pos, ◌+ℤ◌, slice_index, FitsSigned, to_z, of_z, sym, ap, ◌∙◌, arith}
use Rattle.std.specs.Int.{bit_at, w64}
use Rattle.std.proofs.lemmas.Int.{to_z-of_z}
use Rattle.std.proofs.lemmas.Nat.Bits.{shr_and_one}
use Rattle.bit_interleave.specs.Range.{value_at}
use Rattle.native_lanes.specs.Folds.{fold_to}
use Rattle.native_lanes.proofs.FoldLemmas.{fold_to-zero, fold_to-more}
use Rattle.fused_kernels.proofs.codes.sum_of_step.Goals as goal

pub loop-i-init : goal.loop-i-init
loop-i-init c =
    let term : ℕ → ℤ = λ lane. cond (bit_at (slice_index c.args.rows.now lane) c.args.step == 1) (value_at c.args.values.now (slice_index c.args.codes.now lane) +ℤ pos (2 ^ 63)) (pos 0) in
    record { sum = sym (fold_to-zero ◌+ℤ◌ (pos 0) term); bound = omega arith }

pub loop-i-preserved : goal.loop-i-preserved
loop-i-preserved c =
    let i = c.loop-i.i in
    let term : ℕ → ℤ = λ lane. cond (bit_at (slice_index c.args.rows.now lane) c.args.step == 1) (value_at c.args.values.now (slice_index c.args.codes.now lane) +ℤ pos (2 ^ 63)) (pos 0) in
    let read : ℤ = value_at c.args.values.now c.from.result in
    let fits : FitsSigned w64 read = search rules in
    let taken : Bool = bit_at (slice_index c.args.rows.now i) c.args.step == 1 in
    let one : pos c.from-sum.result ≡ term i =
    ap pos c.from-sum.ensures ∙ c.raised_if.ensures ∙ ap (λ (n : ℕ). cond (n == 1) (to_z w64 (of_z w64 read) +ℤ pos (2 ^ 63)) (pos 0)) (shr_and_one (slice_index c.args.rows.now i) c.args.step)
    ∙ ap (λ (z : ℤ). cond taken (z +ℤ pos (2 ^ 63)) (pos 0)) (to_z-of_z w64 read fits ∙ ap (λ (k : ℕ). value_at c.args.values.now k) c.from.ensures) in
    record {
      sum = ap (λ z. z +ℤ pos c.from-sum.result) c.loop-i.invariant.sum ∙ ap (λ z. fold_to ◌+ℤ◌ (pos 0) i term +ℤ z) one ∙ sym (fold_to-more ◌+ℤ◌ (pos 0) i term);
      bound = omega (arith, c.loop-i.invariant.bound, c.from-sum.ensures);
    }
