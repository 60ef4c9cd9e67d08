-- One more word is marked, and the others stay.
use Rattle.std.proofs.Common.{◌≡◌, ◌==◌, ℕ, ◌<◌, ◌&&◌, ◌||◌, Bool, length, slice_index, set, get_or, ap, ◌∙◌, arith, below_more, to_z, of_z, rules, FitsSigned}
use Rattle.std.specs.Int.{bit_at, w64}
use Rattle.std.proofs.lemmas.Int.{to_z-of_z}
use Rattle.std.proofs.lemmas.List.{get_or-set_same, get_or-set_other, length-set}
use Rattle.bit_interleave.specs.Range.{value_at}
use Rattle.fused_kernels.specs.Seen.{between}
use Rattle.fused_kernels.proofs.ranges.mark.Goals as goal

pub loop-i-preserved : goal.loop-i-preserved
loop-i-preserved c =
    let i = c.loop-i.i in
    let old = c.loop-i.found in
    let word = c.with_bit.result in
    let place = c.args.place in
    let inside : i < length old = omega (arith, c.loop-i.invariant.long, c.loop-i-test.true) in
    let low = to_z w64 (of_z w64 c.args.low) in
    let high = to_z w64 (of_z w64 c.args.high) in
    let test : ℕ → Bool = λ j. between low high (value_at c.args.numbers.now j) in
    let fits : FitsSigned w64 (value_at c.args.numbers.now i) = search rules in
    let tested : c.is_between.result ≡ test i =
    c.is_between.ensures ∙ ap (between low high) (to_z-of_z w64 (value_at c.args.numbers.now i) fits) in
    record {
      long = length-set old i word ∙ c.loop-i.invariant.long;
      marked = λ j p h k.
          below_more (λ (j : ℕ). (p : ℕ) → p < 64 → (bit_at (get_or (set old i word) j 0) p == 1) ≡ ((test j && (p == place)) || (bit_at (slice_index c.args.found.now j) p == 1))) i
          (λ j before p k. ap (λ x. bit_at x p == 1) (get_or-set_other old i j word 0 (λ e. omega (arith, e))) ∙ c.loop-i.invariant.marked j p before k)
          (λ p k. ap (λ x. bit_at x p == 1) (get_or-set_same old i word 0 inside) ∙ c.with_bit.ensures p k
          ∙ ap (λ b. (b && (p == place)) || (bit_at (slice_index old i) p == 1)) tested
          ∙ ap (λ x. (test i && (p == place)) || (bit_at x p == 1)) (c.loop-i.invariant.rest i (omega arith)))
          j h p k;
      rest = λ j h. get_or-set_other old i j word 0 (λ e. omega (arith, e)) ∙ c.loop-i.invariant.rest j (omega arith);
    }
