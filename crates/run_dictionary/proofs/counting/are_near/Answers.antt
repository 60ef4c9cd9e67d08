-- A value more is not below the least and not above the greatest.
use Rattle.std.proofs.Common.{rules, below_more, ℕ, ◌+◌, ◌<◌, ℤ, pos, negsuc, ◌≤ℤ◌, ◌+ℤ◌, FitsSigned, slice_index_or, of_z, to_z, sym, subst, arith}
use Rattle.std.specs.Int.{w64, int_gap, int_min, int_max}
use Rattle.std.proofs.lemmas.Int.{ints, clamps, to_z-of_z}
use Rattle.std.proofs.lemmas.Bool.{ltb-true, lt-ltb}
use Rattle.bit_interleave.specs.Range.{value_at}
use Rattle.run_dictionary.proofs.KeyLemmas.{same_key_between}
use Rattle.run_dictionary.proofs.counting.are_near.Goals as goal

through : (x y z : ℤ) → x ≤ℤ y → y ≤ℤ z → x ≤ℤ z
through x y z l m = omega (arith, ints)

both_over : (b x y : ℤ) → b ≤ℤ x → b ≤ℤ y → b ≤ℤ int_min x y
both_over b x y l m = omega (arith, ints, clamps)

both_under : (b x y : ℤ) → x ≤ℤ b → y ≤ℤ b → int_max x y ≤ℤ b
both_under b x y l m = omega (arith, ints, clamps)

-- from the least to the greatest is less than 65,536 where all values are among so many neighbours
near_gap : (low x y : ℤ) → low ≤ℤ x → y ≤ℤ (low +ℤ pos 65535) → int_gap x y < 65536
near_gap low (pos a) (pos b) l m = omega (arith, ints)
near_gap low (pos a) (negsuc b) l m = omega arith
near_gap low (negsuc a) (pos b) l m = omega (arith, ints)
near_gap low (negsuc a) (negsuc b) l m = omega (arith, ints)

pub loop-value-init : goal.loop-value-init
loop-value-init c =
    let values = c.args.values.now in
    let first : FitsSigned w64 (slice_index_or values 0 (pos 0)) = search rules in
    let same = to_z-of_z w64 (value_at values 0) first in
    record {
      order = omega (arith, ints);
      low = λ k h. absurd (omega (arith, h));
      high = λ k h. absurd (omega (arith, h));
      lower = λ b f all. subst (λ (z : ℤ). b ≤ℤ z) (sym same) f;
      upper = λ b f all. subst (λ (z : ℤ). z ≤ℤ b) (sym same) f;
      fit = λ k h. absurd (omega (arith, h));
    }

pub loop-value-preserved : goal.loop-value-preserved
loop-value-preserved c =
    let values = c.args.values.now in
    let i = c.loop-value.value-index in
    let value : ℤ = value_at values i in
    let value_fits : FitsSigned w64 value = search rules in
    let least_fits : FitsSigned w64 c.min-least.result = search rules in
    let greatest_fits : FitsSigned w64 c.max-greatest.result = search rules in
    let here = to_z-of_z w64 value value_fits in
    let least = to_z-of_z w64 c.min-least.result least_fits in
    let greatest = to_z-of_z w64 c.max-greatest.result greatest_fits in
    let value_low : c.min-least.result ≤ℤ value = subst (λ (z : ℤ). c.min-least.result ≤ℤ z) here c.min-least.ensures.other_bound in
    let value_high : value ≤ℤ c.max-greatest.result = subst (λ (z : ℤ). z ≤ℤ c.max-greatest.result) here c.max-greatest.ensures.other_bound in
    record {
      order = subst (λ (z : ℤ). z ≤ℤ to_z w64 (of_z w64 c.max-greatest.result)) (sym least) (subst (λ (z : ℤ). c.min-least.result ≤ℤ z) (sym greatest) (through _ _ _ value_low value_high));
      low = subst (λ (z : ℤ). (k : ℕ) → k < i + 1 → z ≤ℤ value_at values k) (sym least) (below_more (λ (k : ℕ). c.min-least.result ≤ℤ value_at values k) i (λ k h. through _ _ _ c.min-least.ensures.self_bound (c.loop-value.invariant.low k h)) value_low);
      high = subst (λ (z : ℤ). (k : ℕ) → k < i + 1 → value_at values k ≤ℤ z) (sym greatest) (below_more (λ (k : ℕ). value_at values k ≤ℤ c.max-greatest.result) i (λ k h. through _ _ _ (c.loop-value.invariant.high k h) c.max-greatest.ensures.self_bound) value_high);
      lower = λ b f all. subst (λ (z : ℤ). b ≤ℤ z) (sym least) (subst (λ (z : ℤ). b ≤ℤ z) (sym c.min-least.ensures.value)
          (both_over b _ _ (c.loop-value.invariant.lower b f (λ k h. all k (omega arith))) (subst (λ (z : ℤ). b ≤ℤ z) (sym here) (all i (omega arith)))));
      upper = λ b f all. subst (λ (z : ℤ). z ≤ℤ b) (sym greatest) (subst (λ (z : ℤ). z ≤ℤ b) (sym c.max-greatest.ensures.value)
          (both_under b _ _ (c.loop-value.invariant.upper b f (λ k h. all k (omega arith))) (subst (λ (z : ℤ). z ≤ℤ b) (sym here) (all i (omega arith)))));
      fit = below_more (λ (k : ℕ). FitsSigned w64 (value_at values k)) i (λ k h. c.loop-value.invariant.fit k h) value_fits;
    }

pub returns-clause-apart : goal.returns-clause-apart
returns-clause-apart c = λ t m n h l key.
    let near : c.gap.result < 65536 = ltb-true _ _ t in
    same_key_between _ _ _ _ (omega (arith, near, c.gap.ensures)) (c.loop-value.invariant.low m (omega arith)) (c.loop-value.invariant.high m (omega arith)) (c.loop-value.invariant.low n (omega arith)) (c.loop-value.invariant.high n (omega arith))
    (c.loop-value.invariant.fit m (omega arith)) (c.loop-value.invariant.fit n (omega arith)) key

pub returns-clause-near : goal.returns-clause-near
returns-clause-near c = λ low above below.
    let least = c.loop-value.invariant.lower low (above 0 (omega arith)) (λ k h. above k (omega arith)) in
    let greatest = c.loop-value.invariant.upper (low +ℤ pos 65535) (below 0 (omega arith)) (λ k h. below k (omega arith)) in
    lt-ltb _ _ (omega (arith, c.gap.ensures, near_gap low _ _ least greatest))
