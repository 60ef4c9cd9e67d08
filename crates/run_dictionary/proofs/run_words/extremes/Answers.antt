-- A value more is not below the least and not above the greatest.
use Rattle.std.proofs.Common.{rules, below_more, ℕ, ◌+◌, ◌<◌, ℤ, ◌≤ℤ◌, List, length, FitsSigned, sym, ◌∙◌, subst, arith}
use Rattle.std.specs.Int.{w64}
use Rattle.std.proofs.lemmas.Int.{ints, to_z-of_z}
use Rattle.bit_interleave.specs.Range.{value_at}
use Rattle.run_dictionary.proofs.ExtremeLemmas.{reached_min, reached_max}
use Rattle.run_dictionary.proofs.run_words.extremes.Goals as goal

through : (x y z : ℤ) → x ≤ℤ y → y ≤ℤ z → x ≤ℤ z
through x y z l m = omega (arith, ints)

pub loop-k-preserved : goal.loop-k-preserved
loop-k-preserved c =
    let values : List ℤ = c.args.values.now.values in
    let k = c.loop-k.k in
    let value : ℤ = value_at values k in
    let read_fits : FitsSigned w64 c.get-value.result = search rules in
    let least_fits : FitsSigned w64 c.min-least.result = search rules in
    let greatest_fits : FitsSigned w64 c.max-greatest.result = search rules in
    let here = to_z-of_z w64 c.get-value.result read_fits ∙ c.get-value.ensures.value in
    let least = to_z-of_z w64 c.min-least.result least_fits in
    let greatest = to_z-of_z w64 c.max-greatest.result greatest_fits in
    let within : k < length values = omega (arith, c.loop-k-test.true, c.len-k-end.ensures) in
    let value_low : c.min-least.result ≤ℤ value = subst (λ (z : ℤ). c.min-least.result ≤ℤ z) here c.min-least.ensures.other_bound in
    let value_high : value ≤ℤ c.max-greatest.result = subst (λ (z : ℤ). z ≤ℤ c.max-greatest.result) here c.max-greatest.ensures.other_bound in
    let lower = reached_min values _ _ k within (sym here) c.loop-k.invariant.least in
    let higher = reached_max values _ _ k within (sym here) c.loop-k.invariant.greatest in
    record {
      low = subst (λ (z : ℤ). (i : ℕ) → i < k + 1 → z ≤ℤ value_at values i) (sym least) (below_more (λ (i : ℕ). c.min-least.result ≤ℤ value_at values i) k (λ i h. through _ _ _ c.min-least.ensures.self_bound (c.loop-k.invariant.low i h)) value_low);
      high = subst (λ (z : ℤ). (i : ℕ) → i < k + 1 → value_at values i ≤ℤ z) (sym greatest) (below_more (λ (i : ℕ). value_at values i ≤ℤ c.max-greatest.result) k (λ i h. through _ _ _ (c.loop-k.invariant.high i h) c.max-greatest.ensures.self_bound) value_high);
      least = (lower.0, lower.1, lower.2 ∙ sym c.min-least.ensures.value ∙ sym least);
      greatest = (higher.0, higher.1, higher.2 ∙ sym c.max-greatest.ensures.value ∙ sym greatest);
    }
