-- The count over all rows of those that pass a test is the sum of the counts over the rows of each place.
use Rattle.std.proofs.Common.{◌≡◌, ℕ, zero, suc, ◌+◌, ◌-◌, ◌*◌, ◌/◌, ◌%◌, ◌<◌, ◌≤◌, Bool, true, false, cond, not, eqb, ℤ, pos, List, get_or, ◌⊎◌, inl, inr, refl, sym, ap, ◌∙◌, arith}
use Rattle.std.specs.Ordering.{int_eq}
use Rattle.std.proofs.lemmas.Bool.{cases_Bool, eqb-true, eqb-false, false_from_ne_true}
use Rattle.std.proofs.lemmas.Bool.Decides.{Decides-int_eq}
use Rattle.transpose_order.specs.Mask.{count_below}
use Rattle.transpose_order.proofs.MaskLemmas.{count_below-zero, count_below-suc, count_below-same, count_below-add}
use Rattle.bit_interleave.specs.Places.{by_place}
use Rattle.run_dictionary.specs.Runs.{changes_at}
use Rattle.run_dictionary.proofs.CountLemmas.{count_below-no}
use Rattle.run_dictionary.proofs.RunLemmas.{changes_at-is, changes_at-first}
use Rattle.run_dictionary.proofs.StepLemmas.{one_at_most}

-- the sum of f 0 to f (k - 1)
sum_below : (ℕ → ℕ) → ℕ → ℕ
sum_below f zero = 0
sum_below f (suc k) = sum_below f k + f k

sum_below-zero : (f : ℕ → ℕ) → sum_below f 0 ≡ 0
unfolding sum_below
sum_below-zero f = refl

sum_below-suc : (f : ℕ → ℕ) (k : ℕ) → sum_below f (suc k) ≡ sum_below f k + f k
unfolding sum_below
sum_below-suc f k = refl

sum_below-same : (f g : ℕ → ℕ) (k : ℕ) → ((i : ℕ) → i < k → f i ≡ g i) → sum_below f k ≡ sum_below g k
sum_below-same f g zero h = sum_below-zero f ∙ sym (sum_below-zero g)
sum_below-same f g (suc k) h =
    omega (arith, sum_below-suc f k, sum_below-suc g k, sum_below-same f g k (λ i l. h i (omega arith)), h k (omega arith))

-- a sum of sums with ones where a test passes
sum_below-counted : (f : ℕ → ℕ) (p : ℕ → Bool) (k : ℕ) → sum_below (λ i. f i + cond (p i) 1 0) k ≡ sum_below f k + count_below p k
sum_below-counted f p zero = omega (arith, sum_below-zero (λ i. f i + cond (p i) 1 0), sum_below-zero f, count_below-zero p)
sum_below-counted f p (suc k) =
    omega (arith, sum_below-suc (λ i. f i + cond (p i) 1 0) k, sum_below-suc f k, sum_below-counted f p k, count_below-suc p k)

sum_below-none : (f : ℕ → ℕ) (k : ℕ) → ((i : ℕ) → i < k → f i ≡ 0) → sum_below f k ≡ 0
sum_below-none f zero h = sum_below-zero f
sum_below-none f (suc k) h = omega (arith, sum_below-suc f k, sum_below-none f k (λ i l. h i (omega arith)), h k (omega arith))

-- blocks of 64 rows one after another
blocks : (p : ℕ → Bool) (k : ℕ) → sum_below (λ j. count_below (λ q. p (64 * j + q)) 64) k ≡ count_below p (64 * k)
blocks p zero =
    omega (arith, sum_below-zero (λ j. count_below (λ q. p (64 * j + q)) 64), ap (count_below p) (let e : 64 * 0 ≡ 0 = omega arith in e), count_below-zero p)
blocks p (suc k) =
    let next : 64 * k + 64 ≡ 64 * suc k = omega arith in
    omega (arith, sum_below-suc (λ j. count_below (λ q. p (64 * j + q)) 64) k, blocks p k, count_below-add p (64 * k) 64, ap (count_below p) next)

-- how many of the rows at the places below `end` pass
pub count_at_places : (ℕ → Bool) → ℕ → ℕ
count_at_places p end = sum_below (λ j. count_below (λ q. p (64 * j + q)) end) 16

pub count_at_places-none : (p : ℕ → Bool) → count_at_places p 0 ≡ 0
unfolding count_at_places
count_at_places-none p = sum_below-none (λ j. count_below (λ q. p (64 * j + q)) 0) 16 (λ i _. count_below-zero (λ q. p (64 * i + q)))

pub count_at_places-more : (p : ℕ → Bool) (place : ℕ) → count_at_places p (place + 1) ≡ count_at_places p place + count_below (λ j. p (64 * j + place)) 16
unfolding count_at_places
count_at_places-more p place =
    sum_below-same (λ j. count_below (λ q. p (64 * j + q)) (place + 1)) (λ j. count_below (λ q. p (64 * j + q)) place + cond (p (64 * j + place)) 1 0) 16
    (λ j _. ap (count_below (λ q. p (64 * j + q))) (let e : place + 1 ≡ suc place = omega arith in e) ∙ count_below-suc (λ q. p (64 * j + q)) place)
    ∙ sum_below-counted (λ j. count_below (λ q. p (64 * j + q)) place) (λ j. p (64 * j + place)) 16

pub count_at_places-all : (p : ℕ → Bool) → count_at_places p 64 ≡ count_below p 1024
unfolding count_at_places
count_at_places-all p = blocks p 16

pub count_at_places-rises : (p : ℕ → Bool) (m k : ℕ) → count_at_places p m ≤ count_at_places p (m + k)
count_at_places-rises p m zero = omega (arith, ap (count_at_places p) (let e : m + 0 ≡ m = omega arith in e))
count_at_places-rises p m (suc k) =
    omega (arith, count_at_places-rises p m k, count_at_places-more p (m + k), ap (count_at_places p) (let e : m + k + 1 ≡ m + suc k = omega arith in e))

-- a row's number by places differs from that of the row before
pub changes_at-index : (numbers : List ℕ) (n here before : ℕ) → 16 * (n % 64) + n / 64 ≡ here → 16 * ((n - 1) % 64) + (n - 1) / 64 ≡ before → changes_at (λ n. pos (by_place numbers n)) n ≡ not (eqb (get_or numbers here 0) (get_or numbers before 0))
changes_at-index numbers n here before e f =
    changes_at-is (λ n. pos (by_place numbers n)) n ∙ ap not (same_test (by_place numbers n) (by_place numbers (n - 1))) ∙ ap (λ k. not (eqb (get_or numbers k 0) (by_place numbers (n - 1)))) e ∙ ap (λ k. not (eqb (get_or numbers here 0) (get_or numbers k 0))) f
  where
    same_test : (a b : ℕ) → int_eq (pos a) (pos b) ≡ eqb a b
    same_test a b = by_test (cases_Bool (eqb a b))
      where
        by_test : (eqb a b ≡ true) ⊎ (eqb a b ≡ false) → int_eq (pos a) (pos b) ≡ eqb a b
        by_test (inl e) = (Decides-int_eq (pos a) (pos b)).1 (ap pos (eqb-true a b e)) ∙ sym e
        by_test (inr e) = false_from_ne_true _ (λ t. eqb-false a b e (let same : pos a ≡ pos b = (Decides-int_eq (pos a) (pos b)).0 t in cc)) ∙ sym e

-- one more number, which is counted where it passes
pub count_below-one_more : (p : ℕ → Bool) (count one j : ℕ) (b : Bool) → count ≡ count_below p j → one ≡ cond b 1 0 → p j ≡ b → (count + one ≡ count_below p (j + 1)) × (one ≤ 1)
count_below-one_more p count one j b was new is =
    (ap (λ k. k + one) was ∙ ap (λ k. count_below p j + k) (new ∙ ap (λ b. cond b 1 0) (sym is)) ∙ sym (count_below-suc p j) ∙ ap (count_below p) (let e : suc j ≡ j + 1 = omega arith in e), omega (arith, new, one_at_most b))

pub changes_before-first : (numbers : List ℕ) → count_below (λ j. changes_at (λ n. pos (by_place numbers n)) (64 * j)) 1 ≡ 0
changes_before-first numbers =
    count_below-no (λ j. changes_at (λ n. pos (by_place numbers n)) (64 * j)) 0 (ap (changes_at (λ n. pos (by_place numbers n))) (let e : 64 * 0 ≡ 0 = omega arith in e) ∙ changes_at-first (λ n. pos (by_place numbers n))) ∙ count_below-zero (λ j. changes_at (λ n. pos (by_place numbers n)) (64 * j))

-- the changes at all places are those of the rows after row 0
pub count_at_places-changes : (v : ℕ → ℤ) → count_at_places (changes_at v) 64 ≡ count_below (λ i. changes_at v (suc i)) 1023
count_at_places-changes v =
    let none : count_below (changes_at v) 1 ≡ 0 = count_below-no (changes_at v) 0 (changes_at-first v) ∙ count_below-zero (changes_at v) in
    let same : count_below (λ i. changes_at v (1 + i)) 1023 ≡ count_below (λ i. changes_at v (suc i)) 1023 =
    count_below-same (λ i. changes_at v (1 + i)) (λ i. changes_at v (suc i)) 1023 (λ i _. ap (changes_at v) (let s : 1 + i ≡ suc i = omega arith in s)) in
    count_at_places-all (changes_at v) ∙ count_below-add (changes_at v) 1 1023 ∙ omega (arith, none, same)

pub count_at_places-start : (v : ℕ → ℤ) → count_below (λ j. changes_at v (64 * j)) 16 ≡ count_at_places (changes_at v) 1
count_at_places-start v =
    let same : count_below (λ j. changes_at v (64 * j + 0)) 16 ≡ count_below (λ j. changes_at v (64 * j)) 16 = count_below-same (λ j. changes_at v (64 * j + 0)) (λ j. changes_at v (64 * j)) 16 (λ j _. ap (changes_at v) (let e : 64 * j + 0 ≡ 64 * j = omega arith in e)) in
    let one : count_at_places (changes_at v) (0 + 1) ≡ count_at_places (changes_at v) 1 = ap (count_at_places (changes_at v)) (let e : 0 + 1 ≡ 1 = omega arith in e) in
    omega (arith, same, one, count_at_places-none (changes_at v), count_at_places-more (changes_at v) 0)
