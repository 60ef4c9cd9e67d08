-- The bytes of a dictionary grow with its values, and a vector has at most 1024.
use Rattle.std.proofs.Common.{◌≡◌, ℕ, ◌+◌, ◌-◌, ◌*◌, ◌/◌, ◌^◌, ◌<◌, ◌≤◌, ◌⊎◌, inl, inr, min, max, subst, refl, Bool, true, false, cond, ◌==◌, nat_lt, ℤ, List, length, arith}
use Rattle.std.proofs.Math.Pow.{pow-lt}
use Rattle.std.specs.declared.cmp.Ordering.TheVariants.{Less, Equal, Greater}
use Rattle.std.specs.Ordering.{ord_min, nat_cmp, is_lt}
use Rattle.std.proofs.lemmas.Bool.{cases_lt, ltb-true, ltb-false}
use Rattle.transpose_order.specs.Place.{IsLaneWidth}
use Rattle.transpose_order.proofs.WidthLemmas.{at_widths}
use Rattle.bit_interleave.specs.Arithmetic.{least_width}
use Rattle.bit_interleave.proofs.LeastWidthLemmas.{least_width-holds, least_width-least}
use Rattle.run_dictionary.specs.Dict.{distinct, least_dict, dict_bytes}
use Rattle.run_dictionary.proofs.OrderLemmas.{length-distinct}
use Rattle.run_dictionary.proofs.DictLemmas.{least_code_width-le}

-- more values than a width and its bytes below the bound allow
too_many : (t : ℕ) → IsLaneWidth t → (bound most count width codes : ℕ) → min codes ((bound - (128 * width + 1)) / (t / 8)) ≤ most → most < count → count ≤ codes → bound ≤ count * t / 8 + 128 * width
too_many =
    at_widths (λ t. (bound most count width codes : ℕ) → min codes ((bound - (128 * width + 1)) / (t / 8)) ≤ most → most < count → count ≤ codes → bound ≤ count * t / 8 + 128 * width)
    (λ bound most count width codes f m h. omega arith) (λ bound most count width codes f m h. omega arith) (λ bound most count width codes f m h. omega arith) (λ bound most count width codes f m h. omega arith)

-- a dictionary of more values than each width has below the bound is not below it
pub not_below : (t bound most count : ℕ) → IsLaneWidth t → ((w : ℕ) → w < 11 → min (2 ^ w) ((bound - (128 * w + 1)) / (t / 8)) ≤ most) → most < count → count ≤ 1024 → bound ≤ count * t / 8 + 128 * least_width (count - 1)
not_below t bound most count lanes each many few =
    let narrow : least_width (count - 1) < 11 = omega (arith, least_width-least (count - 1) 10 (omega arith) (omega arith)) in
    let holds : count - 1 < 2 ^ least_width (count - 1) = least_width-holds (count - 1) (omega arith) in
    too_many t lanes bound most count (least_width (count - 1)) (2 ^ least_width (count - 1)) (each (least_width (count - 1)) narrow) many (omega (arith, holds))

-- the lesser of two numbers in their order is their minimum
pub ord_min-nat : (a b : ℕ) → ord_min nat_cmp a b ≡ min a b
ord_min-nat a b = by_tests (nat_lt b a) (b == a) (ltb-true b a) (ltb-false b a)
  where
    by_tests : (less same : Bool) → (less ≡ true → b < a) → (less ≡ false → a ≤ b) → cond (is_lt (cond less Less (cond same Equal Greater))) b a ≡ min a b
    by_tests true same f g = omega (arith, f refl)
    by_tests false true f g = omega (arith, g refl)
    by_tests false false f g = omega (arith, g refl)

-- a dictionary of so many values, where there is one, is below a bound
abbrev pub IsBelow : ℕ → ℕ → ℕ → Type 0
IsBelow t bound count = 0 < count → count * t / 8 + 128 * least_width (count - 1) < bound

-- as many values as a width leaves room for below a bound are below it at a narrower width too
few_enough : (t : ℕ) → IsLaneWidth t → (bound count width narrow : ℕ) → 0 < count → narrow ≤ width → count ≤ (bound - (128 * width + 1)) / (t / 8) → count * t / 8 + 128 * narrow < bound
few_enough =
    at_widths (λ t. (bound count width narrow : ℕ) → 0 < count → narrow ≤ width → count ≤ (bound - (128 * width + 1)) / (t / 8) → count * t / 8 + 128 * narrow < bound)
    (λ bound count width narrow some h f. omega arith) (λ bound count width narrow some h f. omega arith) (λ bound count width narrow some h f. omega arith) (λ bound count width narrow some h f. omega arith)

-- the values that a width allows below a bound are below it
pub IsBelow-at : (t bound width : ℕ) → IsLaneWidth t → width < 11 → IsBelow t bound (min (2 ^ width) ((bound - (128 * width + 1)) / (t / 8)))
IsBelow-at t bound width lanes few = λ some.
    let count : ℕ = min (2 ^ width) ((bound - (128 * width + 1)) / (t / 8)) in
    let small : 2 ^ width < 2 ^ 11 = pow-lt few in
    let under : count ≤ 2 ^ width = omega arith in
    let room : count ≤ (bound - (128 * width + 1)) / (t / 8) = omega arith in
    few_enough t lanes bound count width (least_width (count - 1)) some (least_width-least (count - 1) width (omega (arith, small, under)) (omega (arith, under, some))) room

-- of two counts below a bound the greater is below it
pub IsBelow-max : (t bound count other : ℕ) → IsBelow t bound count → IsBelow t bound other → IsBelow t bound (max count other)
IsBelow-max t bound count other h g = by_order (cases_lt count other)
  where
    by_order : (count < other) ⊎ (other ≤ count) → IsBelow t bound (max count other)
    by_order (inl less) = subst (λ (n : ℕ). IsBelow t bound n) (omega (arith, less)) g
    by_order (inr more) = subst (λ (n : ℕ). IsBelow t bound n) (omega (arith, more)) h

few_bytes : (t : ℕ) → IsLaneWidth t → (count width : ℕ) → count ≤ 1024 → width ≤ 10 → count * t / 8 + 128 * width < 65535
few_bytes =
    at_widths (λ t. (count width : ℕ) → count ≤ 1024 → width ≤ 10 → count * t / 8 + 128 * width < 65535) (λ count width h l. omega arith) (λ count width h l. omega arith) (λ count width h l. omega arith)
    (λ count width h l. omega arith)

pub dict_bytes-least : (t : ℕ) (values : List ℤ) → IsLaneWidth t → length values ≡ 1024 → dict_bytes (least_dict t values) < 65535
dict_bytes-least t values lanes long =
    few_bytes t lanes (length (distinct values)) (least_width (length (distinct values) - 1)) (omega (arith, length-distinct values)) (least_code_width-le values long)
