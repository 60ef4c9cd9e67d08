-- A vector is filled exactly where each row that has no value, and the first that has one, repeats the row before.
use Rattle.std.proofs.Common.{◌≡◌, ◌↔◌, ℕ, zero, suc, ◌-◌, ◌<◌, ◌≤◌, ◌⊎◌, inl, inr, Bool, true, false, not, cond, ◌&&◌, ◌||◌, nat_lt, nat_le, ℤ, pos, List, [], take, length, Option, Some, None, refl, sym, ◌∙◌, ap, arith}
use Rattle.std.proofs.lemmas.List.{take_all}
use Rattle.std.proofs.lemmas.Bool.{cases_lt}
use Rattle.std.proofs.lemmas.Bool.Decides.{nat_tests}
use Rattle.transpose_order.specs.Mask.{has}
use Rattle.bit_interleave.specs.Range.{value_at}
use Rattle.table_model.specs.Values.{present}
use Rattle.segment_core.specs.Fill.{first_or, last_or, filled_at, filled, cells_under}
use Rattle.segment_core.specs.Repeats.{Repeats}
use Rattle.segment_core.proofs.FillLemmas.{length-cells_under, get_or-cells_under, value_at-filled, filled_is, filled_at-some, latest_after, none_more, first_found, none_at_all}

-- row n has no value: it is past the rows, or null
abbrev pub is_hole : ℕ → List Bool → ℕ → Bool
is_hole rows nulls n = nat_le rows n || has nulls n

-- a row that has a value
record HasValue (rows : ℕ) (nulls : List Bool) (n : ℕ) : Type 0 where
  within : n < rows
  some : has nulls n ≡ false

has_value_at : (rows : ℕ) (nulls : List Bool) (n : ℕ) (b : Bool) → has nulls n ≡ b → is_hole rows nulls n ≡ false → (n < rows) ⊎ (rows ≤ n) → HasValue rows nulls n
has_value_at rows nulls n false e h (inl l) = record { within = l; some = e }
has_value_at rows nulls n true e h (inl l) = absurd (let t : nat_le rows n ≡ false = grind (arith, nat_tests) in cc)
has_value_at rows nulls n b e h (inr l) = absurd (let t : nat_le rows n ≡ true = grind (arith, nat_tests) in let f : true ≡ false = sym (ap (λ x. x || has nulls n) t) ∙ h in cc)

has_value : (rows : ℕ) (nulls : List Bool) (n : ℕ) → is_hole rows nulls n ≡ false → HasValue rows nulls n
has_value rows nulls n h = has_value_at rows nulls n (has nulls n) refl h (cases_lt n rows)

-- ---- what the cells before a row give
test_of_hole : (rows : ℕ) (nulls : List Bool) (n : ℕ) → is_hole rows nulls n ≡ true → (n < rows) ⊎ (rows ≤ n) → (nat_lt n rows && not (has nulls n)) ≡ false
test_of_hole rows nulls n h (inl l) =
    let t : nat_le rows n ≡ false = grind (arith, nat_tests) in
    let u : nat_lt n rows ≡ true = grind (arith, nat_tests) in
    let null : has nulls n ≡ true = sym (ap (λ x. x || has nulls n) t) ∙ h in
    ap (λ x. x && not (has nulls n)) u ∙ ap not null
test_of_hole rows nulls n h (inr l) =
    let u : nat_lt n rows ≡ false = grind (arith, nat_tests) in
    ap (λ x. x && not (has nulls n)) u

-- a row without a value has that of the row before
filled_hole : (rows : ℕ) (nulls : List Bool) (values : List ℤ) (n : ℕ) → is_hole rows nulls (suc n) ≡ true → filled_at (cells_under rows nulls values) (suc n) ≡ filled_at (cells_under rows nulls values) n
unfolding filled_at
filled_hole rows nulls values n h =
    let cells : List (Option ℤ) = cells_under rows nulls values in
    let d : ℤ = first_or (pos 0) (present cells) in
    let latest : ℤ = last_or d (present (take (suc n) cells)) in
    sym (sym (ap (λ b. cond b (value_at values (suc n)) latest) (test_of_hole rows nulls (suc n) h (cases_lt (suc n) rows)))
    ∙ latest_after rows nulls values (suc n) d latest refl)

filled_value : (rows : ℕ) (nulls : List Bool) (values : List ℤ) (n : ℕ) → HasValue rows nulls n → filled_at (cells_under rows nulls values) n ≡ value_at values n
filled_value rows nulls values n h =
    let within = h.within in
    filled_at-some (cells_under rows nulls values) n (value_at values n) (omega (arith, length-cells_under rows nulls values))
    (get_or-cells_under rows nulls values n None within ∙ ap (λ b. cond b None (Some (value_at values n))) h.some)

none_step : (rows : ℕ) (nulls : List Bool) (values : List ℤ) (n : ℕ) → is_hole rows nulls n ≡ true → present (take n (cells_under rows nulls values)) ≡ [] → (n < rows) ⊎ (rows ≤ n) → present (take (suc n) (cells_under rows nulls values)) ≡ []
none_step rows nulls values n h none (inl l) =
    let t : nat_le rows n ≡ false = grind (arith, nat_tests) in
    none_more rows nulls values n l (sym (ap (λ x. x || has nulls n) t) ∙ h) none
none_step rows nulls values n h none (inr l) =
    let cells : List (Option ℤ) = cells_under rows nulls values in
    let whole : take n cells ≡ cells = take_all n cells (omega (arith, length-cells_under rows nulls values)) in
    let after : take (suc n) cells ≡ cells = take_all (suc n) cells (omega (arith, length-cells_under rows nulls values)) in
    ap present (after ∙ sym whole) ∙ none

none_before : (rows : ℕ) (nulls : List Bool) (values : List ℤ) (first : ℕ) → ((n : ℕ) → n < first → is_hole rows nulls n ≡ true) → (k : ℕ) → k ≤ first → present (take k (cells_under rows nulls values)) ≡ []
none_before rows nulls values first holes zero l = refl
none_before rows nulls values first holes (suc k) l =
    none_step rows nulls values k (holes k (omega arith)) (none_before rows nulls values first holes k (omega arith)) (cases_lt k rows)

-- ---- the first row that has a value, and the rows that repeat
-- `first` is the first row that has a value, or 1024, and the mask has the rows up to it and those that have no value
pub record IsRepeating (rows : ℕ) (nulls mask : List Bool) (first : ℕ) : Type 0 where
  pub limit : rows ≤ 1024
  pub within : first ≤ 1024
  pub holes : (n : ℕ) → n < first → is_hole rows nulls n ≡ true
  pub here : first < 1024 → is_hole rows nulls first ≡ false
  pub mask_is : (n : ℕ) → n < 1024 → has mask n ≡ (nat_le n first || is_hole rows nulls n)

-- the value before all is that of the first row that has one
first_value : (rows : ℕ) (nulls mask : List Bool) (values : List ℤ) (first : ℕ) → IsRepeating rows nulls mask first → first < 1024 → first_or (pos 0) (present (cells_under rows nulls values)) ≡ value_at values first
first_value rows nulls mask values first r l =
    let h = has_value rows nulls first (r.here l) in
    first_found rows nulls values first (pos 0) h.within h.some (none_before rows nulls values first r.holes first (omega arith))

no_value : (rows : ℕ) (nulls mask : List Bool) (values : List ℤ) (first : ℕ) → IsRepeating rows nulls mask first → first ≡ 1024 → first_or (pos 0) (present (cells_under rows nulls values)) ≡ pos 0
no_value rows nulls mask values first r e =
    let limit = r.limit in
    none_at_all rows nulls values first (pos 0) (omega arith) (none_before rows nulls values first r.holes first (omega arith))

-- up to the first row that has a value all have the first value
filled_front : (rows : ℕ) (nulls mask : List Bool) (values : List ℤ) (first n : ℕ) → IsRepeating rows nulls mask first → n < first → filled_at (cells_under rows nulls values) n ≡ first_or (pos 0) (present (cells_under rows nulls values))
unfolding filled_at
filled_front rows nulls mask values first n r l =
    ap (λ xs. last_or (first_or (pos 0) (present (cells_under rows nulls values))) xs) (none_before rows nulls values first r.holes (suc n) (omega arith))

or_false : (a b : Bool) → b ≡ false → (a || b) ≡ true → a ≡ true
or_false true b e h = refl
or_false false b e h = absurd (cc)

or_true : (a b : Bool) → b ≡ true → (a || b) ≡ true
or_true true b e = refl
or_true false b e = e

at_first : (rows : ℕ) (nulls mask : List Bool) (first n : ℕ) → IsRepeating rows nulls mask first → is_hole rows nulls n ≡ false → n ≤ first → (n < first) ⊎ (first ≤ n) → n ≡ first
at_first rows nulls mask first n r h l (inl m) = absurd (let e = r.holes n m in cc)
at_first rows nulls mask first n r h l (inr m) = omega arith

zeroth_hole : (rows : ℕ) (nulls mask : List Bool) (first : ℕ) → IsRepeating rows nulls mask first → is_hole rows nulls 0 ≡ true → (0 < first) ⊎ (first ≤ 0) → 0 < first
zeroth_hole rows nulls mask first r e (inl l) = l
zeroth_hole rows nulls mask first r e (inr l) =
    absurd (let same : first ≡ 0 = omega arith in let f : is_hole rows nulls 0 ≡ false = ap (is_hole rows nulls) (sym same) ∙ r.here (omega arith) in cc)

-- ---- a filled vector repeats
repeats_at : (rows : ℕ) (nulls mask : List Bool) (values : List ℤ) (first n : ℕ) → IsRepeating rows nulls mask first → values ≡ filled (cells_under rows nulls values) → suc n < 1024 → has mask (suc n) ≡ true → (b : Bool) → is_hole rows nulls (suc n) ≡ b → value_at values (suc n) ≡ value_at values n
repeats_at rows nulls mask values first n r e l m true h =
    let cells : List (Option ℤ) = cells_under rows nulls values in
    ap (λ (xs : List ℤ). value_at xs (suc n)) e ∙ value_at-filled cells (suc n) l ∙ filled_hole rows nulls values n h
    ∙ sym (value_at-filled cells n (omega arith)) ∙ ap (λ (xs : List ℤ). value_at xs n) (sym e)
repeats_at rows nulls mask values first n r e l m false h =
    let cells : List (Option ℤ) = cells_under rows nulls values in
    let upto : nat_le (suc n) first ≡ true = or_false (nat_le (suc n) first) (is_hole rows nulls (suc n)) h (sym (r.mask_is (suc n) l) ∙ m) in
    let below : suc n ≤ first = grind (arith, nat_tests) in
    let same : suc n ≡ first = at_first rows nulls mask first (suc n) r h below (cases_lt (suc n) first) in
    ap (value_at values) same
    ∙ sym (first_value rows nulls mask values first r (omega arith))
    ∙ sym (filled_front rows nulls mask values first n r (omega arith))
    ∙ sym (value_at-filled cells n (omega arith)) ∙ ap (λ (xs : List ℤ). value_at xs n) (sym e)

repeats_suc : (rows : ℕ) (nulls mask : List Bool) (values : List ℤ) (first n : ℕ) → IsRepeating rows nulls mask first → values ≡ filled (cells_under rows nulls values) → 0 < n → n < 1024 → has mask n ≡ true → value_at values n ≡ value_at values (n - 1)
repeats_suc rows nulls mask values first zero r e some l m = absurd (omega arith)
repeats_suc rows nulls mask values first (suc n) r e some l m =
    let back : suc n - 1 ≡ n = omega arith in
    repeats_at rows nulls mask values first n r e l m (is_hole rows nulls (suc n)) refl ∙ ap (value_at values) (sym back)

zero_at : (rows : ℕ) (nulls mask : List Bool) (values : List ℤ) (first : ℕ) → IsRepeating rows nulls mask first → values ≡ filled (cells_under rows nulls values) → first ≡ 1024 → value_at values 0 ≡ pos 0
zero_at rows nulls mask values first r e f =
    let cells : List (Option ℤ) = cells_under rows nulls values in
    ap (λ (xs : List ℤ). value_at xs 0) e ∙ value_at-filled cells 0 (omega arith) ∙ filled_front rows nulls mask values first 0 r (omega arith)
    ∙ no_value rows nulls mask values first r f

-- ---- a vector that repeats is filled
same_front : (rows : ℕ) (nulls mask : List Bool) (values : List ℤ) (valueless : Bool) (first : ℕ) → IsRepeating rows nulls mask first → Repeats mask valueless values → (k : ℕ) → k ≤ first → k < 1024 → value_at values k ≡ value_at values 0
same_front rows nulls mask values valueless first r h zero l m = refl
same_front rows nulls mask values valueless first r h (suc k) l m =
    let test : nat_le (suc k) first ≡ true = grind (arith, nat_tests) in
    let marked : has mask (suc k) ≡ true = r.mask_is (suc k) m ∙ ap (λ x. x || is_hole rows nulls (suc k)) test in
    let back : suc k - 1 ≡ k = omega arith in
    h.each (suc k) (omega arith) m marked ∙ ap (value_at values) back ∙ same_front rows nulls mask values valueless first r h k (omega arith) (omega arith)

first_is_zeroth : (rows : ℕ) (nulls mask : List Bool) (values : List ℤ) (valueless : Bool) (first : ℕ) → IsRepeating rows nulls mask first → (first ≡ 1024 → valueless ≡ true) → Repeats mask valueless values → (first < 1024) ⊎ (1024 ≤ first) → value_at values 0 ≡ first_or (pos 0) (present (cells_under rows nulls values))
first_is_zeroth rows nulls mask values valueless first r none h (inl l) =
    sym (first_value rows nulls mask values first r l ∙ same_front rows nulls mask values valueless first r h first (omega arith) l)
first_is_zeroth rows nulls mask values valueless first r none h (inr l) =
    let within = r.within in
    let all : first ≡ 1024 = omega arith in
    h.zero (none all) ∙ sym (no_value rows nulls mask values first r all)

filled_upto_row : (rows : ℕ) (nulls mask : List Bool) (values : List ℤ) (valueless : Bool) (first : ℕ) → IsRepeating rows nulls mask first → (first ≡ 1024 → valueless ≡ true) → Repeats mask valueless values → (n : ℕ) → n < 1024 → (b : Bool) → is_hole rows nulls n ≡ b → value_at values n ≡ filled_at (cells_under rows nulls values) n
filled_upto_row rows nulls mask values valueless first r none h n l false e = sym (filled_value rows nulls values n (has_value rows nulls n e))
filled_upto_row rows nulls mask values valueless first r none h zero l true e =
    first_is_zeroth rows nulls mask values valueless first r none h (cases_lt first 1024)
    ∙ sym (filled_front rows nulls mask values first 0 r (zeroth_hole rows nulls mask first r e (cases_lt 0 first)))
filled_upto_row rows nulls mask values valueless first r none h (suc n) l true e =
    let marked : has mask (suc n) ≡ true = r.mask_is (suc n) l ∙ or_true (nat_le (suc n) first) (is_hole rows nulls (suc n)) e in
    let back : suc n - 1 ≡ n = omega arith in
    h.each (suc n) (omega arith) l marked ∙ ap (value_at values) back
    ∙ filled_upto_row rows nulls mask values valueless first r none h n (omega arith) (is_hole rows nulls n) refl
    ∙ sym (filled_hole rows nulls values n e)

pub filled_where_repeats : (rows : ℕ) (nulls mask : List Bool) (valueless : Bool) (first : ℕ) → IsRepeating rows nulls mask first → (valueless ≡ true → first ≡ 1024) → (first ≡ 1024 → valueless ≡ true) → (values : List ℤ) → length values ≡ 1024 → (values ≡ filled (cells_under rows nulls values)) ↔ Repeats mask valueless values
filled_where_repeats rows nulls mask valueless first r is none values long = (
  λ e. record {
    each = λ n some l m. repeats_suc rows nulls mask values first n r e some l m;
    zero = λ v. zero_at rows nulls mask values first r e (is v);
  },
  λ h. filled_is (cells_under rows nulls values) values long
      (λ n l. filled_upto_row rows nulls mask values valueless first r none h n l (is_hole rows nulls n) refl),
)
