-- The loop over the runs of a vector: where it stands, and the rows of a run.
use Rattle.std.proofs.Common.{◌≡◌, ◌==◌, ℕ, suc, ◌+◌, ◌-◌, ◌*◌, ◌/◌, ◌%◌, ◌<◌, ◌≤◌, ◌&&◌, ◌||◌, ◌⊎◌, inl, inr, Bool, true, false, nat_le, nat_lt, min, zero, ℤ, pos, List, [], ◌∷◌, length, replicate, slice_index_or, refl, sym, ap, ◌∙◌, arith}
use Rattle.std.proofs.lemmas.Bool.{cases_lt, false≢true}
use Rattle.std.specs.List.{list_any}
use Rattle.std.proofs.lemmas.Bool.Decides.{nat_tests}
use Rattle.std.specs.Int.{bit_at}
use Rattle.std.proofs.lemmas.Nat.Bits.{bit_at-zero}
use Rattle.std.proofs.lemmas.List.{get_or-replicate}
use Rattle.std.proofs.Math.Bool.{and-false, or-false}
use Rattle.transpose_order.specs.Mask.{has, truth_at}
use Rattle.transpose_order.proofs.MaskLemmas.{count_below-zero}
use Rattle.run_dictionary.specs.Runs.{RunForm, IsRunForm, run_of, run_value}
use Rattle.run_dictionary.proofs.CountLemmas.{count_below-rises}
use Rattle.run_dictionary.proofs.StepLemmas.{run_stays, run_begins}

-- ---- the rows of a run, in words
pub in_word : (first end k p : ℕ) → p < 64 → (nat_le (first - 64 * k) p && nat_lt p (min (end - 64 * k) 64)) ≡ (nat_le first (64 * k + p) && nat_lt (64 * k + p) end)
in_word first end k p h =
    ap (λ x. x && nat_lt p (min (end - 64 * k) 64)) (low first k p) ∙ ap (λ y. nat_le first (64 * k + p) && y) (high end k p h)
  where
    low : (first k p : ℕ) → nat_le (first - 64 * k) p ≡ nat_le first (64 * k + p)
    low first k p = grind (arith, nat_tests)

    high : (end k p : ℕ) → p < 64 → nat_lt p (min (end - 64 * k) 64) ≡ nat_lt (64 * k + p) end
    high end k p h = grind (arith, nat_tests)

-- a word before the first row's, or after the last row's, has no row of the run
pub not_in_word : (first end k p : ℕ) → (k < first / 64) ⊎ ((end + 63) / 64 ≤ k) → p < 64 → (nat_le first (64 * k + p) && nat_lt (64 * k + p) end) ≡ false
not_in_word first end k p (inl l) h =
    let before : nat_le first (64 * k + p) ≡ false = grind (arith, nat_tests) in
    ap (λ x. x && nat_lt (64 * k + p) end) before
not_in_word first end k p (inr l) h =
    let after : nat_lt (64 * k + p) end ≡ false = grind (arith, nat_tests) in
    ap (λ y. nat_le first (64 * k + p) && y) after ∙ and-false (nat_le first (64 * k + p))

pub at_row : (words : List ℕ) (n : ℕ) (f : ℕ → Bool) → ((k p : ℕ) → p < 64 → truth_at words (64 * k + p) ≡ f (64 * k + p)) → truth_at words n ≡ f n
at_row words n f h =
    let whole : 64 * (n / 64) + n % 64 ≡ n = omega arith in
    ap (truth_at words) (sym whole) ∙ h (n / 64) (n % 64) (omega arith) ∙ ap f whole

-- ---- the loop over the runs
-- the row begins the run at the index, or is past the last
pub record BeginsRun (form : RunForm) (row index : ℕ) : Type 0 where
  pub within : row ≤ 1024
  pub begins : row < 1024 → run_of form.starts row ≡ index
  pub last : row ≡ 1024 → index ≡ length form.values

pub first_run : (form : RunForm) → BeginsRun form 0 0
first_run form = record {
  within = omega arith;
  begins = λ _. count_below-zero (λ i. has form.starts (suc i));
  last = λ e. absurd (omega arith);
}

-- while a run is left its row is there
pub run_left : (form : RunForm) (row index : ℕ) → BeginsRun form row index → index < length form.values → row < 1024
run_left form row index at left = by_row (cases_lt row 1024)
  where
    by_row : (row < 1024) ⊎ (1024 ≤ row) → row < 1024
    by_row (inl l) = l
    by_row (inr l) = absurd (omega (arith, at.last (omega (arith, at.within))))

pub next_run : (form : RunForm) (row end index : ℕ) → IsRunForm form → BeginsRun form row index → index < length form.values → row + 1 ≤ end → end ≤ 1024
    → ((i : ℕ) → row + 1 ≤ i → i < end → has form.starts i ≡ false) → (end < 1024 → has form.starts end ≡ true) → BeginsRun form end (index + 1)
next_run form row end index is at left order within none start =
    let here : run_of form.starts row ≡ index = at.begins (run_left form row index at left) in
    record {
      within = within;
      begins = λ l. run_begins form.starts row end none (omega arith) (start l) ∙ ap (λ k. k + 1) here;
      last = λ e. omega (arith, is.count, run_stays form.starts row end 1023 none (omega arith) (omega arith), here);
    }

-- the rows of a run have its value
pub value_of_run : (form : RunForm) (row end index n : ℕ) → BeginsRun form row index → index < length form.values → ((i : ℕ) → row + 1 ≤ i → i < end → has form.starts i ≡ false) → row ≤ n → n < end → run_value form n ≡ slice_index_or form.values index (pos 0)
value_of_run form row end index n at left none from below =
    ap (λ k. slice_index_or form.values k (pos 0)) (run_stays form.starts row end n none from below ∙ at.begins (run_left form row index at left))

pub all_runs : (form : RunForm) (row index : ℕ) → IsRunForm form → BeginsRun form row index → length form.values ≤ index → row ≡ 1024
all_runs form row index is at done = by_row (cases_lt row 1024)
  where
    by_row : (row < 1024) ⊎ (1024 ≤ row) → row ≡ 1024
    by_row (inl l) = absurd (omega (arith, is.count, at.begins l, count_below-rises (λ i. has form.starts (suc i)) row 1023 (omega arith)))
    by_row (inr l) = omega (arith, at.within)

-- ---- values that no run has
none_is : (p : ℤ → Bool) (xs : List ℤ) (i : ℕ) → i < length xs → list_any p xs ≡ false → p (slice_index_or xs i (pos 0)) ≡ false
none_is p [] i l e = absurd (omega (arith, l))
none_is p (x ∷ xs) zero l e = first (p x) e
  where
    first : (b : Bool) → (b || list_any p xs) ≡ false → b ≡ false
    first true f = f
    first false f = refl
none_is p (x ∷ xs) (suc i) l e = none_is p xs i (omega (arith, l)) (rest (p x) e)
  where
    rest : (b : Bool) → (b || list_any p xs) ≡ false → list_any p xs ≡ false
    rest true f = absurd (false≢true (sym f))
    rest false f = f

-- what is true of no run's value is true of no row's
pub no_run : (form : RunForm) (p : ℤ → Bool) (n : ℕ) → IsRunForm form → n < 1024 → list_any p form.values ≡ false → p (run_value form n) ≡ false
no_run form p n is h none =
    none_is p form.values (run_of form.starts n) (omega (arith, is.count, count_below-rises (λ i. has form.starts (suc i)) n 1023 (omega (arith, h)))) none

-- ---- the rows found so far
-- one more run, which is found or not
pub found_more : (row end n : ℕ) (test b : Bool) → row ≤ end → (row ≤ n → n < end → b ≡ test) → ((nat_le row n && nat_lt n end && test) || (nat_lt n row && b)) ≡ (nat_lt n end && b)
found_more row end n test b order same = by_row (cases_lt n row) (cases_lt n end)
  where
    by_row : (n < row) ⊎ (row ≤ n) → (n < end) ⊎ (end ≤ n) → ((nat_le row n && nat_lt n end && test) || (nat_lt n row && b)) ≡ (nat_lt n end && b)
    by_row (inl l) (inl m) =
        let x : nat_le row n ≡ false = grind (arith, nat_tests) in
        let y : nat_lt n row ≡ true = grind (arith, nat_tests) in
        let z : nat_lt n end ≡ true = grind (arith, nat_tests) in
        ap (λ t. (t && nat_lt n end && test) || (nat_lt n row && b)) x ∙ ap (λ t. t && b) y ∙ sym (ap (λ t. t && b) z)
    by_row (inl l) (inr m) = absurd (omega arith)
    by_row (inr l) (inl m) =
        let x : nat_le row n ≡ true = grind (arith, nat_tests) in
        let y : nat_lt n row ≡ false = grind (arith, nat_tests) in
        let z : nat_lt n end ≡ true = grind (arith, nat_tests) in
        ap (λ t. (t && nat_lt n end && test) || (nat_lt n row && b)) x ∙ ap (λ t. (t && test) || (nat_lt n row && b)) z ∙ ap (λ t. test || (t && b)) y
        ∙ or-false test ∙ sym (same l m) ∙ sym (ap (λ t. t && b) z)
    by_row (inr l) (inr m) =
        let x : nat_le row n ≡ true = grind (arith, nat_tests) in
        let y : nat_lt n row ≡ false = grind (arith, nat_tests) in
        let z : nat_lt n end ≡ false = grind (arith, nat_tests) in
        ap (λ t. (t && nat_lt n end && test) || (nat_lt n row && b)) x ∙ ap (λ t. (t && test) || (nat_lt n row && b)) z ∙ ap (λ t. t && b) y ∙ sym (ap (λ t. t && b) z)

-- sixteen words of zeros have no row
pub no_truth : (n : ℕ) → n < 1024 → truth_at (replicate 16 0) n ≡ false
no_truth n h =
    ap (λ (w : ℕ). bit_at w (n % 64) == 1) (get_or-replicate 16 (n / 64) 0 0 (omega arith)) ∙ ap (λ b. b == 1) (bit_at-zero (n % 64))
