-- So many times the reference, and the numbers, fit 128 bits together.
use Rattle.std.proofs.Common.{rules, ◌≡◌, ℕ, ◌*◌, ◌^◌, ◌≤◌, ℤ, pos, neg_ℤ, ◌+ℤ◌, ◌*ℤ◌, ◌≤ℤ◌, FitsSigned, to_z, of_z, sym, ap, ◌∙◌, subst, arith}
use Rattle.std.specs.Int.{w64, w128}
use Rattle.std.proofs.lemmas.Int.{ints, to_z-of_z}
use Rattle.transpose_order.specs.Mask.{has}
use Rattle.transpose_order.proofs.MaskLemmas.{count_below-le}
use Rattle.native_lanes.proofs.TimesLemmas.{times_bound}
use Rattle.native_lanes.proofs.short_frames.sum_above.Goals as goal

few : (c : goal.After-count_below) → c.count_below.result ≤ 1024
few c = omega (arith, c.count_below.ensures, count_below-le (has c.args.rows.now) 1024)

pub times-requires : goal.times-requires
times-requires c = few c

whole : (c : goal.After-times) → to_z w128 (of_z w128 c.times.result) +ℤ to_z w128 c.args.numbers ≡ c.args.reference *ℤ pos c.count_below.result +ℤ pos c.args.numbers
whole c =
    let fits : FitsSigned w128 c.times.result = search rules in
    let numbers : to_z w128 c.args.numbers ≡ pos c.args.numbers = omega (arith, ints, c.requires) in
    ap (λ z. z +ℤ to_z w128 c.args.numbers) (to_z-of_z w128 c.times.result fits ∙ c.times.ensures ∙ ap (λ z. z *ℤ pos c.count_below.result) (to_z-of_z w64 c.args.reference c.ranges.reference))
    ∙ ap (λ z. c.args.reference *ℤ pos c.count_below.result +ℤ z) numbers

fits_sum : (z : ℤ) (n m : ℕ) → n ≤ 1024 → m ≤ 2 ^ 68 → (neg_ℤ (pos (2 ^ 63 * n)) ≤ℤ z) × (z ≤ℤ pos (2 ^ 63 * n)) → FitsSigned w128 (z +ℤ pos m)
fits_sum z n m h l within = record { sfits = (let a = within.0 in let b = within.1 in grind (arith, ints)) }

pub overflow_add-result : goal.overflow_add-result
overflow_add-result c =
    subst (λ z. FitsSigned w128 z) (sym (whole c))
    (fits_sum (c.args.reference *ℤ pos c.count_below.result) c.count_below.result c.args.numbers (omega (arith, c.count_below.ensures, count_below-le (has c.args.rows.now) 1024)) c.requires
    (times_bound c.args.reference c.count_below.result c.ranges.reference))

pub returns : goal.returns
returns c =
    to_z-of_z w128 _ (overflow_add-result c) ∙ whole c
    ∙ ap (λ n. c.args.reference *ℤ pos n +ℤ pos c.args.numbers) c.count_below.ensures
