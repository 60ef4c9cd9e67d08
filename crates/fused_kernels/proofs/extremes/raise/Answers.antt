-- One more lane is taken in, and the others stay.
use Rattle.std.proofs.Common.{rules, ◌≡◌, ◌==◌, ℕ, ◌<◌, ℤ, cond, pos, length, set, slice_index, FitsSigned, to_z, of_z, ap, ◌∙◌, below_more, arith}
use Rattle.std.specs.Int.{bit_at, w64, int_max}
use Rattle.std.proofs.lemmas.Int.{to_z-of_z}
use Rattle.std.proofs.lemmas.List.{get_or-set_same, get_or-set_other, length-set}
use Rattle.std.proofs.lemmas.Nat.Bits.{shr_and_one}
use Rattle.bit_interleave.specs.Range.{value_at}
use Rattle.table_model.specs.Extreme.{turned}
use Rattle.fused_kernels.proofs.ExtremeLemmas.{passed_greater}
use Rattle.fused_kernels.proofs.extremes.raise.Goals as goal

pub loop-i-preserved : goal.loop-i-preserved
loop-i-preserved c =
    let i = c.loop-i.i in
    let side = c.args.side in
    let number : ℤ = turned side (value_at c.args.numbers.now i) in
    let old = c.loop-i.greatests in
    let value = to_z w64 (of_z w64 c.greater_if.result) in
    let result : FitsSigned w64 c.greater_if.result = search rules in
    let before : FitsSigned w64 (value_at old i) = search rules in
    let own : FitsSigned w64 (value_at c.args.numbers.now i) = search rules in
    let passed : c.turned-number.result ≡ number = c.turned-number.ensures ∙ ap (turned side) (to_z-of_z w64 (value_at c.args.numbers.now i) own) in
    let fits : FitsSigned w64 c.turned-number.result = search rules in
    let inside : i < length old = omega (arith, c.loop-i.invariant.long) in
    let f : ℕ → ℤ = λ k. cond (bit_at (slice_index c.args.words.now k) c.args.place == 1) (int_max (value_at c.args.greatests.now k) (turned side (value_at c.args.numbers.now k))) (value_at c.args.greatests.now k) in
    let taken = ap (λ b. b == 1) (shr_and_one (slice_index c.args.words.now i) c.args.place) in
    record {
      long = length-set old i value ∙ c.loop-i.invariant.long;
      done = below_more (λ k. value_at (set old i value) k ≡ f k) i
          (λ k l. get_or-set_other old i k value (pos 0) (λ e. omega (arith, e)) ∙ c.loop-i.invariant.done k l)
          (get_or-set_same old i value (pos 0) inside
          ∙ passed_greater _ (bit_at (slice_index c.args.words.now i) c.args.place == 1) c.greater_if.result (value_at old i) c.turned-number.result result before fits taken c.greater_if.ensures
          ∙ ap (λ z. cond (bit_at (slice_index c.args.words.now i) c.args.place == 1) (int_max (value_at old i) z) (value_at old i)) passed
          ∙ ap (λ x. cond (bit_at (slice_index c.args.words.now i) c.args.place == 1) (int_max x number) x) (c.loop-i.invariant.rest i (omega arith)));
      rest = λ k h. get_or-set_other old i k value (pos 0) (λ e. omega (arith, e)) ∙ c.loop-i.invariant.rest k (omega arith);
    }
