-- Runs and dictionaries take fewer bytes than a bound where changes and distinct values are few enough.
use Rattle.std.proofs.Common.{◌≡◌, ℕ, suc, ◌+◌, ◌-◌, ◌*◌, ◌/◌, ◌^◌, ◌<◌, ◌≤◌, ◌↔◌, Bool, true, false, not, IsTrue, ℤ, pos, List, length, ◌⊎◌, inl, inr, refl, sym, ap, ◌∙◌, arith}
use Rattle.std.proofs.lemmas.Bool.{cases_lt, cases_Bool, both_ways}
use Rattle.transpose_order.specs.Mask.{count_below}
use Rattle.transpose_order.proofs.MaskLemmas.{count_below-same}
use Rattle.transpose_order.specs.Place.{IsLaneWidth}
use Rattle.transpose_order.proofs.WidthLemmas.{at_widths}
use Rattle.bit_interleave.specs.Arithmetic.{least_width}
use Rattle.bit_interleave.proofs.LeastWidthLemmas.{least_width-holds, least_width-least}
use Rattle.bit_interleave.specs.Places.{by_place}
use Rattle.bit_interleave.specs.Range.{value_at}
use Rattle.run_dictionary.specs.Runs.{changes_at, least_runs, run_bytes}
use Rattle.run_dictionary.specs.Dict.{distinct, least_dict, dict_bytes}
use Rattle.run_dictionary.proofs.OrderLemmas.{length-distinct}
use Rattle.run_dictionary.proofs.DictLemmas.{some_distinct}
use Rattle.run_dictionary.proofs.RunLemmas.{changes_at-not, changes_at-differs, changes_at-same, length-changed_values}

-- what is not reached is below
pub below_if_not_reached : (b : Bool) (most count : ℕ) → (IsTrue b ↔ (most ≤ count)) → IsTrue (not b) ↔ (count < most)
below_if_not_reached b most count reached = (λ t. by_order (cases_lt count most) t, λ l. by_test (cases_Bool b) l)
  where
    by_order : (count < most) ⊎ (most ≤ count) → IsTrue (not b) → count < most
    by_order (inl l) t = l
    by_order (inr l) t = absurd (both_ways false refl (sym (ap not (reached.1 l)) ∙ t))

    by_test : (b ≡ true) ⊎ (b ≡ false) → count < most → IsTrue (not b)
    by_test (inl e) l = absurd (omega (arith, l, reached.0 e))
    by_test (inr e) l = ap not e

-- ---- runs
changes-alike : (v w : ℕ → ℤ) (i : ℕ) → ((v (suc i) ≡ v i) ↔ (w (suc i) ≡ w i)) → changes_at v (suc i) ≡ changes_at w (suc i)
changes-alike v w i same = by_test (cases_Bool (changes_at w (suc i)))
  where
    by_test : (changes_at w (suc i) ≡ true) ⊎ (changes_at w (suc i) ≡ false) → changes_at v (suc i) ≡ changes_at w (suc i)
    by_test (inr e) = changes_at-same v i (same.1 (changes_at-not w i e)) ∙ sym e
    by_test (inl e) = changes_at-differs v i (λ h. both_ways _ (changes_at-same w i (same.0 h)) e) ∙ sym e

-- numbers that are equal exactly where values are
abbrev pub AlikeByPlaces : List ℕ → List ℤ → Type 0
AlikeByPlaces numbers values = (m n : ℕ) → m < 1024 → n < 1024 → (by_place numbers m ≡ by_place numbers n) ↔ (value_at values m ≡ value_at values n)

pub changes_by_places : (numbers : List ℕ) (values : List ℤ) → AlikeByPlaces numbers values → count_below (λ i. changes_at (λ n. pos (by_place numbers n)) (suc i)) 1023 ≡ count_below (λ i. changes_at (value_at values) (suc i)) 1023
changes_by_places numbers values same =
    count_below-same (λ i. changes_at (λ n. pos (by_place numbers n)) (suc i)) (λ i. changes_at (value_at values) (suc i)) 1023
    (λ i h. changes-alike (λ n. pos (by_place numbers n)) (value_at values) i (λ e. (same (suc i) i (omega (arith, h)) (omega (arith, h))).0 (bare _ _ e), λ e. ap pos ((same (suc i) i (omega (arith, h)) (omega (arith, h))).1 e)))
  where
    bare : (a b : ℕ) → pos a ≡ pos b → a ≡ b
    bare a b e = cc

run_bytes-below : (t : ℕ) → IsLaneWidth t → (bound changes most : ℕ) → most ≡ (bound - 129) / (t / 8) → (changes < most) ↔ (128 + (changes + 1) * t / 8 < bound)
run_bytes-below =
    at_widths (λ t. (bound changes most : ℕ) → most ≡ (bound - 129) / (t / 8) → (changes < most) ↔ (128 + (changes + 1) * t / 8 < bound))
    (λ bound changes most e. (λ h. omega (arith, e, h), λ h. omega (arith, e, h))) (λ bound changes most e. (λ h. omega (arith, e, h), λ h. omega (arith, e, h)))
    (λ bound changes most e. (λ h. omega (arith, e, h), λ h. omega (arith, e, h))) (λ bound changes most e. (λ h. omega (arith, e, h), λ h. omega (arith, e, h)))

pub runs_below : (t : ℕ) (values : List ℤ) (bound most count : ℕ) (b : Bool) → IsLaneWidth t → most ≡ (bound - 129) / (t / 8) → count ≡ count_below (λ i. changes_at (value_at values) (suc i)) 1023 → (IsTrue b ↔ (most ≤ count)) → IsTrue (not b) ↔ (run_bytes (least_runs t values) < bound)
runs_below t values bound most count b lanes room is reached =
    let bytes : run_bytes (least_runs t values) ≡ 128 + (count + 1) * t / 8 = ap (λ k. 128 + k * t / 8) (length-changed_values (value_at values) 1023 ∙ ap (λ k. k + 1) (sym is)) in
    let below = below_if_not_reached b most count reached in
    let fewer = run_bytes-below t lanes bound count most room in
    (λ yes. omega (arith, bytes, fewer.0 (below.0 yes)), λ l. below.1 (fewer.1 (omega (arith, bytes, l))))

-- ---- dictionaries
value_bytes-rise : (t : ℕ) → IsLaneWidth t → (a b : ℕ) → a ≤ b → a * t / 8 ≤ b * t / 8
value_bytes-rise =
    at_widths (λ t. (a b : ℕ) → a ≤ b → a * t / 8 ≤ b * t / 8) (λ a b h. omega (arith, h)) (λ a b h. omega (arith, h)) (λ a b h. omega (arith, h)) (λ a b h. omega (arith, h))

dict_bytes-rise : (t : ℕ) → IsLaneWidth t → (a b : ℕ) → a ≤ b → b ≤ 1024 → a * t / 8 + 128 * least_width (a - 1) ≤ b * t / 8 + 128 * least_width (b - 1)
dict_bytes-rise t lanes a b h many =
    let holds : b - 1 < 2 ^ least_width (b - 1) = least_width-holds (b - 1) (omega (arith, many)) in
    let narrow : least_width (a - 1) ≤ least_width (b - 1) = least_width-least (a - 1) (least_width (b - 1)) (omega (arith, h, many)) (omega (arith, h, holds)) in
    omega (arith, narrow, value_bytes-rise t lanes a b h)

pub dictionary_below : (t : ℕ) (values : List ℤ) (bound most count : ℕ) (b : Bool) → IsLaneWidth t → 0 < length values → length values ≤ 1024 → count ≡ length (distinct values)
    → ((count : ℕ) → most < count → count ≤ 1024 → bound ≤ count * t / 8 + 128 * least_width (count - 1)) → most ≤ 1024 → (0 < most → most * t / 8 + 128 * least_width (most - 1) < bound)
    → (IsTrue b ↔ (most < count)) → IsTrue (not b) ↔ (dict_bytes (least_dict t values) < bound)
dictionary_below t values bound most count b lanes some long is enough many reached more =
    let bytes : dict_bytes (least_dict t values) ≡ count * t / 8 + 128 * least_width (count - 1) = ap (λ k. k * t / 8 + 128 * least_width (k - 1)) (sym is) in
    let few : count ≤ 1024 = omega (arith, is, length-distinct values, long) in
    let one : 0 < count = omega (arith, is, some_distinct values some) in
    let below = below_if_not_reached b (suc most) count (λ yes. omega (arith, more.0 yes), λ l. more.1 (omega (arith, l))) in (
      λ yes.
          let within : count ≤ most = omega (arith, below.0 yes) in
          omega (arith, bytes, dict_bytes-rise t lanes count most within many, reached (omega (arith, one, within))),
      λ l. below.1 (by_order (cases_lt most count) bytes few l),
    )
  where
    by_order : (most < count) ⊎ (count ≤ most) → dict_bytes (least_dict t values) ≡ count * t / 8 + 128 * least_width (count - 1) → count ≤ 1024 → dict_bytes (least_dict t values) < bound → count < suc most
    by_order (inl m) bytes few l = absurd (omega (arith, bytes, l, enough count m few))
    by_order (inr m) bytes few l = omega (arith, m)
