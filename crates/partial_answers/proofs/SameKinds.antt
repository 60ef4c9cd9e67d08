-- What two partial answers keep of the same kind, added.
use Rattle.std.proofs.Common.{◌≡◌, ℕ, ◌+◌, ◌<◌, ◌^◌, List, Option, None, ℤ, pos, ◌+ℤ◌, FitsSigned, refl, ap, ◌∙◌, arith}
use Rattle.std.specs.Int.{w128}
use Rattle.table_model.specs.Values.{lesser, greater}
use Rattle.partial_answers.specs.Kept.{HasValuesOf, tally_in}
use Rattle.partial_answers.specs.PartialAnswer.{Seen, plus, set_of}
use Rattle.partial_answers.specs.Refusing.{Fits, kept_kind}
use Rattle.partial_answers.specs.declared.kept.Kept.{Kept}
use Rattle.partial_answers.specs.declared.kept.Kept.TheVariants.{Count, Sum, Least, Greatest, Distinct}
use Rattle.partial_answers.specs.declared.kept.Sums.{Sums}
use Rattle.partial_answers.proofs.ByKind.{count_both, lowest_both, highest_both, seen_both}

-- a count and another count
pub count_is : (m n : ℕ) (other : Kept) → kept_kind other ≡ 0 → n ≡ m + (tally_in other).count → tally_in (Count n) ≡ plus (tally_in (Count m)) (tally_in other)
count_is m n (Count k) e is = count_both m k n (pos 0) (pos 0) (pos 0) is refl
count_is m n (Sum sums) e is = absurd (omega (arith, e))
count_is m n (Least o) e is = absurd (omega (arith, e))
count_is m n (Greatest o) e is = absurd (omega (arith, e))
count_is m n (Distinct values) e is = absurd (omega (arith, e))

-- a sum and another sum
pub sums_is : (mine both : Sums) (other : Kept) → kept_kind other ≡ 1 → both.count ≡ mine.count + (tally_in other).count → both.sum ≡ mine.sum +ℤ (tally_in other).sum → tally_in (Sum both) ≡ plus (tally_in (Sum mine)) (tally_in other)
sums_is mine both (Count k) e is also = absurd (omega (arith, e))
sums_is mine both (Sum sums) e is also = count_both mine.count sums.count both.count both.sum mine.sum sums.sum is also
sums_is mine both (Least o) e is also = absurd (omega (arith, e))
sums_is mine both (Greatest o) e is also = absurd (omega (arith, e))
sums_is mine both (Distinct values) e is also = absurd (omega (arith, e))

pub least_is : (a o : Option ℤ) (other : Kept) → kept_kind other ≡ 2 → o ≡ lesser a (tally_in other).lowest → tally_in (Least o) ≡ plus (tally_in (Least a)) (tally_in other)
least_is a o (Count k) e is = absurd (omega (arith, e))
least_is a o (Sum sums) e is = absurd (omega (arith, e))
least_is a o (Least b) e is = lowest_both o a b is
least_is a o (Greatest b) e is = absurd (omega (arith, e))
least_is a o (Distinct values) e is = absurd (omega (arith, e))

pub greatest_is : (a o : Option ℤ) (other : Kept) → kept_kind other ≡ 3 → o ≡ greater a (tally_in other).highest → tally_in (Greatest o) ≡ plus (tally_in (Greatest a)) (tally_in other)
greatest_is a o (Count k) e is = absurd (omega (arith, e))
greatest_is a o (Sum sums) e is = absurd (omega (arith, e))
greatest_is a o (Least b) e is = absurd (omega (arith, e))
greatest_is a o (Greatest b) e is = highest_both o a b is
greatest_is a o (Distinct values) e is = absurd (omega (arith, e))

pub values_is : (xs ys both : List ℤ) (other : Kept) → kept_kind other ≡ 4 → set_of ys ≡ (tally_in other).seen → HasValuesOf both xs ys → tally_in (Distinct both) ≡ plus (tally_in (Distinct xs)) (tally_in other)
values_is xs ys both (Count k) e is h = absurd (omega (arith, e))
values_is xs ys both (Sum sums) e is h = absurd (omega (arith, e))
values_is xs ys both (Least b) e is h = absurd (omega (arith, e))
values_is xs ys both (Greatest b) e is h = absurd (omega (arith, e))
values_is xs ys both (Distinct zs) e is h = seen_both both xs ys h ∙ ap (λ (s : Seen). plus (tally_in (Distinct xs)) (record { count = 0; sum = pos 0; lowest = None; highest = None; seen = s })) is

pub too_many : (m : ℕ) (one other : Kept) → (tally_in one).count ≡ m → (m + (tally_in other).count < 2 ^ 64 → ⊥) → Fits (plus (tally_in one) (tally_in other)) → ⊥
too_many m one other is h fits = h (rw (← is) fits.0)

pub sum_too_many : (z : ℤ) (one other : Kept) → (tally_in one).sum ≡ z → (FitsSigned w128 (z +ℤ (tally_in other).sum) → ⊥) → Fits (plus (tally_in one) (tally_in other)) → ⊥
sum_too_many z one other is h fits = h (rw (← is) fits.1)
