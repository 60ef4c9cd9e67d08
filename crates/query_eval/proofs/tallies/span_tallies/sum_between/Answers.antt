-- One row more.
use Rattle.std.proofs.Common.{◌≡◌, ◌+◌, ◌-◌, ◌*◌, ◌^◌, ◌<◌, ℕ, Bool, List, ℤ, get_or, take, drop, pos, ◌+ℤ◌, ◌-ℤ◌, ◌≤ℤ◌, ◌<ℤ◌, FitsSigned, w64, to_z, of_z, sym, ap, subst, ◌∙◌, arith}
use Rattle.std.proofs.lemmas.Int.{ints, to_z-of_z}
use Rattle.transpose_order.specs.Mask.{has}
use Rattle.query_eval.specs.Packed.{ArePacked, packed_sum}
use Rattle.query_eval.specs.Slices.{rows_between, values_below}
use Rattle.query_eval.proofs.FormLemmas.{packed_more}
use Rattle.query_eval.proofs.SpanTallyLemmas.{between_all, between_first, between_has, part_at, part_end}
use Rattle.query_eval.proofs.tallies.span_tallies.sum_between.Goals as goal

pub loop-value-init : goal.loop-value-init
loop-value-init c = record {
  low = omega (arith, ints);
  high = omega (arith, ints);
  sum = λ rows values are.
      let start : c.args.first ≡ c.args.first + 0 = omega arith in
      ap packed_sum (sym (between_first rows c.args.first c.args.end c.requires.within c.requires.order values)) ∙ ap (λ k. packed_sum (values_below k (rows_between rows c.args.first c.args.end) values)) start;
}

pub loop-value-preserved : goal.loop-value-preserved
loop-value-preserved c = record { low = low; high = high; sum = sum }
  where
    first : ℕ
    first = c.args.first

    end : ℕ
    end = c.args.end

    packed : List ℤ
    packed = c.args.packed.now

    i : ℕ
    i = c.loop-value.value-index

    s : ℤ
    s = to_z w64 c.loop-value.sum-bits

    x : ℤ
    x = get_or (take (end - first) (drop first packed)) i (pos 0)

    there : (i < end - first) × (x ≡ get_or packed (first + i) (pos 0))
    there = part_at first end i packed c.loop-value-test.true

    row : first + i < 1024
    row = omega (arith, there.0, c.requires.order, c.requires.within)

    small : ((pos 0 -ℤ pos (2 ^ 52)) ≤ℤ x) × (x <ℤ pos (2 ^ 52))
    small = subst (λ (z : ℤ). ((pos 0 -ℤ pos (2 ^ 52)) ≤ℤ z) × (z <ℤ pos (2 ^ 52))) (sym there.1) (c.requires.summable (first + i) row)

    fits : FitsSigned w64 x
    fits = omega (arith, ints, small.0, small.1)

    passed : to_z w64 (of_z w64 x) ≡ x
    passed = to_z-of_z w64 x fits

    within : FitsSigned w64 (s +ℤ to_z w64 (of_z w64 x))
    within = omega (arith, ints, passed, small.0, small.1, c.loop-value.invariant.low, c.loop-value.invariant.high, row)

    added : to_z w64 (of_z w64 (s +ℤ to_z w64 (of_z w64 x))) ≡ s +ℤ x
    added = to_z-of_z w64 (s +ℤ to_z w64 (of_z w64 x)) within ∙ ap (λ z. s +ℤ z) passed

    low : (pos 0 -ℤ pos (2 ^ 52 * (i + 1))) ≤ℤ to_z w64 (of_z w64 (s +ℤ to_z w64 (of_z w64 x)))
    low = rw added (omega (arith, ints, small.0, c.loop-value.invariant.low))

    high : to_z w64 (of_z w64 (s +ℤ to_z w64 (of_z w64 x))) ≤ℤ pos (2 ^ 52 * (i + 1))
    high = rw added (omega (arith, ints, small.1, c.loop-value.invariant.high))

    sum : (rows : List Bool) (values : List ℤ) → ArePacked rows values packed → to_z w64 (of_z w64 (s +ℤ to_z w64 (of_z w64 x))) ≡ packed_sum (values_below (first + (i + 1)) (rows_between rows first end) values)
    sum rows values are =
        let has_row = between_has rows first end c.requires.within (first + i) (omega arith) (omega (arith, there.0, c.requires.order)) in
        let next : first + i + 1 ≡ first + (i + 1) = omega arith in
        added
        ∙ packed_more (first + i) (rows_between rows first end) values (has rows (first + i)) s x has_row (c.loop-value.invariant.sum rows values are) (there.1 ∙ are (first + i) row)
        ∙ ap (λ k. packed_sum (values_below k (rows_between rows first end) values)) next

pub returns : goal.returns
returns c = λ rows values are.
    let last = part_end c.args.first c.args.end c.loop-value.value-index c.args.packed.now c.told-packed c.requires.order c.requires.within c.loop-value-test.false c.loop-value.auto.value-index-end in
    c.loop-value.invariant.sum rows values are
    ∙ ap (λ k. packed_sum (values_below k (rows_between rows c.args.first c.args.end) values)) last ∙ ap packed_sum (between_all rows c.args.first c.args.end c.requires.within values)
