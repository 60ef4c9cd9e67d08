-- A row is bit n % 64 of word n / 64, so what holds of each bit of each word holds of each row.
use Rattle.std.proofs.Common.{◌≡◌, ◌≢◌, ℕ, zero, suc, ◌+◌, ◌-◌, ◌*◌, ◌/◌, ◌%◌, ◌^◌, ◌<◌, ◌≤◌, Bool, true, false, cond, ◌&&◌, ◌==◌, min, nat_le, nat_lt, List, map, replicate, slice_index_or, bit_and, count_ones, count_by, refl, sym, ap, ◌∙◌, subst, arith}
use Rattle.std.specs.Int.{bit_at}
use Rattle.std.specs.List.{range_with_len}
use Rattle.std.proofs.lemmas.Bool.Decides.{nat_tests}
use Rattle.std.proofs.lemmas.List.FromFn.{sum_by-map-range_with_len_more}
use Rattle.std.proofs.lemmas.Nat.{and_mask, ones_cat, ones_le_self, zero_from_ones, div_below, mod_below, pow_pos, shr_split}
use Rattle.std.proofs.lemmas.Nat.Bits.{bit_at_cat_low, bit_at_ones, ones_shr}
use Rattle.std.proofs.lemmas.Bool.{lt-ltb}
use Rattle.std.proofs.lemmas.List.{get_or-replicate}
use Rattle.transpose_order.specs.Place.{IsLaneWidth, row_at}
use Rattle.transpose_order.proofs.BitLemmas.{bit_is_set-and, bit_is_set-shr_ones, bit_at-shr}
use Rattle.transpose_order.proofs.WidthLemmas.{at_widths}
use Rattle.transpose_order.specs.Mask.{rows_of, has, truth_at, count_below, AreMaskWords}
use Rattle.transpose_order.specs.MaskWords.{truth_at-place, has-rows_of, rows_of-like}

-- ---- rows and words
-- a mask whose words have these bits has these rows
pub rows_of-words : (words : List ℕ) (f : ℕ → Bool) → ((j p : ℕ) → j < 16 → p < 64 → (bit_at (slice_index_or words j 0) p == 1) ≡ f (64 * j + p)) → rows_of (truth_at words) ≡ rows_of f
rows_of-words words f h =
    rows_of-like (truth_at words) f
    (λ n l. let whole : 64 * (n / 64) + n % 64 ≡ n = omega arith in h (n / 64) (n % 64) (omega arith) (omega arith) ∙ ap f whole)

-- the rows of a mask, read from its words
pub has-words : (words : List ℕ) (mask : List Bool) → rows_of (truth_at words) ≡ mask → (n : ℕ) → n < 1024 → has mask n ≡ truth_at words n
has-words words mask e n l = ap (λ m. has m n) (sym e) ∙ has-rows_of (truth_at words) n l

pub has-word : (words : List ℕ) (mask : List Bool) → rows_of (truth_at words) ≡ mask → (j p : ℕ) → j < 16 → p < 64 → has mask (64 * j + p) ≡ (bit_at (slice_index_or words j 0) p == 1)
has-word words mask e j p l m = has-words words mask e (64 * j + p) (omega arith) ∙ truth_at-place words j p m

-- what joins the words of two masks bit by bit joins the masks row by row
pub rows_of-combined : (left right words : List ℕ) (l r : List Bool) (of : ℕ → ℕ → ℕ) (test : Bool → Bool → Bool) → ((a b p : ℕ) → b < 2 ^ 64 → p < 64 → (bit_at (of a b) p == 1) ≡ test (bit_at a p == 1) (bit_at b p == 1)) → rows_of (truth_at left) ≡ l → rows_of (truth_at right) ≡ r → AreMaskWords right → ((j : ℕ) → j < 16 → slice_index_or words j 0 ≡ of (slice_index_or left j 0) (slice_index_or right j 0)) → rows_of (truth_at words) ≡ rows_of (λ n. test (has l n) (has r n))
rows_of-combined left right words l r of test bits el er fit each =
    rows_of-words words (λ n. test (has l n) (has r n))
    (λ j p h m.
    ap (λ w. bit_at w p == 1) (each j h) ∙ bits (slice_index_or left j 0) (slice_index_or right j 0) p (fit.fit j) m
    ∙ ap (λ x. test x (bit_at (slice_index_or right j 0) p == 1)) (sym (has-word left l el j p h m))
    ∙ ap (λ y. test (has l (64 * j + p)) y) (sym (has-word right r er j p h m)))

-- ---- ranges of rows
low_end : (first k p : ℕ) → p < 64 → nat_le (min (first - 64 * k) 64) p ≡ nat_le first (64 * k + p)
low_end first k p h = grind (arith, nat_tests)

high_end : (end k p : ℕ) → p < 64 → nat_lt p (min (end - 64 * k) 64) ≡ nat_lt (64 * k + p) end
high_end end k p h = grind (arith, nat_tests)

-- a row is in a range where its bit is in the range's part of its word
pub in_range_of_word : (first end n : ℕ) → (nat_le (min (first - 64 * (n / 64)) 64) (n % 64) && nat_lt (n % 64) (min (end - 64 * (n / 64)) 64)) ≡ (nat_le first n && nat_lt n end)
in_range_of_word first end n =
    let whole : 64 * (n / 64) + n % 64 ≡ n = omega arith in
    ap (λ x. x && nat_lt (n % 64) (min (end - 64 * (n / 64)) 64)) (low_end first (n / 64) (n % 64) (omega arith) ∙ ap (λ m. nat_le first m) whole)
    ∙ ap (λ y. nat_le first n && y) (high_end end (n / 64) (n % 64) (omega arith) ∙ ap (λ m. nat_lt m end) whole)

-- ---- counts
pub count_below-zero : (p : ℕ → Bool) → count_below p 0 ≡ 0
unfolding count_below
count_below-zero p = refl

pub count_below-suc : (p : ℕ → Bool) (n : ℕ) → count_below p (suc n) ≡ count_below p n + cond (p n) 1 0
unfolding count_below
count_below-suc p n = refl

cond-le-one : (b : Bool) → cond b 1 0 ≤ 1
cond-le-one true = omega arith
cond-le-one false = omega arith

pub count_below-le : (p : ℕ → Bool) (n : ℕ) → count_below p n ≤ n
count_below-le p zero = rw (count_below-zero p) (omega arith)
count_below-le p (suc n) = rw (count_below-suc p n) (omega (arith, count_below-le p n, cond-le-one (p n)))

pub count_below-same : (p q : ℕ → Bool) (n : ℕ) → ((i : ℕ) → i < n → p i ≡ q i) → count_below p n ≡ count_below q n
count_below-same p q zero h = count_below-zero p ∙ sym (count_below-zero q)
count_below-same p q (suc n) h =
    let last : cond (p n) 1 0 ≡ cond (q n) 1 0 = ap (λ b. cond b 1 0) (h n (omega arith)) in
    let step : (i : ℕ) → i < n → i < suc n = (λ i l. omega arith) in
    count_below-suc p n ∙ ap (λ x. x + cond (p n) 1 0) (count_below-same p q n (λ i l. h i (step i l))) ∙ ap (λ x. count_below q n + x) last ∙ sym (count_below-suc q n)

-- the first m numbers, and the n after them
pub count_below-add : (p : ℕ → Bool) (m n : ℕ) → count_below p (m + n) ≡ count_below p m + count_below (λ i. p (m + i)) n
count_below-add p m zero = rw (count_below-zero (λ i. p (m + i))) (ap (count_below p) (let e : m + 0 ≡ m = omega arith in e) ∙ omega arith)
count_below-add p m (suc n) =
    let next : m + suc n ≡ suc (m + n) = omega arith in
    ap (count_below p) next ∙ count_below-suc p (m + n) ∙ ap (λ x. x + cond (p (m + n)) 1 0) (count_below-add p m n) ∙ rw (count_below-suc (λ i. p (m + i)) n) (omega arith)

-- a list made from a function of the row has as many true values as the function below its length
pub count_by-rows : (f : ℕ → Bool) (n : ℕ) → count_by (λ row. row) (map f (range_with_len 0 n)) ≡ count_below f n
count_by-rows f zero = sym (count_below-zero f)
count_by-rows f (suc n) =
    let next : n + 1 ≡ suc n = omega arith in
    ap (λ m. count_by (λ row. row) (map f (range_with_len 0 m))) (sym next)
    ∙ sum_by-map-range_with_len_more (λ row. cond row 1 0) f 0 n n (omega arith)
    ∙ ap (λ x. x + cond (f n) 1 0) (count_by-rows f n) ∙ sym (count_below-suc f n)

pub count_by-rows_of : (f : ℕ → Bool) → count_by (λ row. row) (rows_of f) ≡ count_below f 1024
unfolding rows_of
count_by-rows_of f = count_by-rows f 1024

-- a word's ones are the bits that are set
one_bit : (b : ℕ) → b < 2 → count_ones b ≡ cond (b == 1) 1 0
one_bit zero h = omega (arith, ones_le_self 0)
one_bit (suc zero) h =
    let some : count_ones 1 ≢ 0 = λ e. absurd (let f = zero_from_ones 1 e in omega arith) in
    omega (arith, ones_le_self 1)
one_bit (suc (suc b)) h = absurd (omega arith)

-- the low bits of a number are those of its rest
count_below-low_bits : (w n : ℕ) → count_below (λ p. bit_at (n % 2 ^ w) p == 1) w ≡ count_below (λ p. bit_at n p == 1) w
count_below-low_bits w n =
    count_below-same (λ p. bit_at (n % 2 ^ w) p == 1) (λ p. bit_at n p == 1) w
    (λ i l. ap (λ x. x == 1) (sym (bit_at_cat_low (n / 2 ^ w) w (n % 2 ^ w) i l)) ∙ ap (λ m. bit_at m i == 1) (shr_split n w))

pub count_ones-bits : (w n : ℕ) → n < 2 ^ w → count_ones n ≡ count_below (λ p. bit_at n p == 1) w
count_ones-bits zero n h = rw (count_below-zero (λ p. bit_at n p == 1)) (omega (arith, ones_le_self n))
count_ones-bits (suc w) n h =
    let top : n / 2 ^ w < 2 = div_below n (2 ^ w) 2 (pow_pos w) (omega arith) in
    let low : n % 2 ^ w < 2 ^ w = mod_below n (2 ^ w) (pow_pos w) in
    let parts : n / 2 ^ w * 2 ^ w + n % 2 ^ w ≡ n = shr_split n w in
    let last : n / 2 ^ w ≡ bit_at n w = omega arith in
    let front : count_ones (n % 2 ^ w) ≡ count_below (λ p. bit_at n p == 1) w =
    count_ones-bits w (n % 2 ^ w) low ∙ count_below-low_bits w n in
    let bit : count_ones (n / 2 ^ w) ≡ cond (bit_at n w == 1) 1 0 = one_bit (n / 2 ^ w) top ∙ ap (λ b. cond (b == 1) 1 0) last in
    let whole : count_ones n ≡ count_ones (n / 2 ^ w) + count_ones (n % 2 ^ w) = ap count_ones (sym parts) ∙ ones_cat w (n / 2 ^ w) (n % 2 ^ w) low in
    let next = count_below-suc (λ p. bit_at n p == 1) w in
    whole ∙ (omega (arith, front, bit) ∙ sym next)

-- the words of a mask counted: the rows before a word, and the rows of a part of it
pub count_below-word : (words : List ℕ) (j n : ℕ) → n ≤ 64 → count_below (truth_at words) (64 * j + n) ≡ count_below (truth_at words) (64 * j) + count_below (λ p. bit_at (slice_index_or words j 0) p == 1) n
count_below-word words j n h =
    count_below-add (truth_at words) (64 * j) n
    ∙ ap (λ x. count_below (truth_at words) (64 * j) + x)
    (count_below-same (λ p. truth_at words (64 * j + p)) (λ p. bit_at (slice_index_or words j 0) p == 1) n (λ p l. truth_at-place words j p (omega arith)))

pub count_below-whole_word : (words : List ℕ) (j : ℕ) → slice_index_or words j 0 < 2 ^ 64 → count_below (truth_at words) (64 * (j + 1)) ≡ count_below (truth_at words) (64 * j) + count_ones (slice_index_or words j 0)
count_below-whole_word words j fits =
    ap (count_below (truth_at words)) (let e : 64 * (j + 1) ≡ 64 * j + 64 = omega arith in e) ∙ count_below-word words j 64 (omega arith)
    ∙ ap (λ x. count_below (truth_at words) (64 * j) + x) (sym (count_ones-bits 64 (slice_index_or words j 0) fits))

-- the n low bits of a word, as `word & MAX >> (64 - n)` keeps them
pub count_below-part_of_word : (words : List ℕ) (j n : ℕ) → n ≤ 64 → count_below (truth_at words) (64 * j + n) ≡ count_below (truth_at words) (64 * j) + count_ones (bit_and (slice_index_or words j 0) ((2 ^ 64 - 1) / 2 ^ (64 - n)))
count_below-part_of_word words j n h =
    let word = slice_index_or words j 0 in
    let ones : (2 ^ 64 - 1) / 2 ^ (64 - n) ≡ 2 ^ n - 1 = ones_shr 64 (64 - n) (omega arith) ∙ ap (λ m. 2 ^ m - 1) (let e : 64 - (64 - n) ≡ n = omega arith in e) in
    let kept : bit_and word ((2 ^ 64 - 1) / 2 ^ (64 - n)) ≡ word % 2 ^ n = ap (bit_and word) ones ∙ and_mask word n in
    let counted : count_ones (word % 2 ^ n) ≡ count_below (λ p. bit_at word p == 1) n = count_ones-bits n (word % 2 ^ n) (mod_below word (2 ^ n) (pow_pos n)) ∙ count_below-low_bits n word in
    count_below-word words j n h ∙ ap (λ x. count_below (truth_at words) (64 * j) + x) (sym (ap count_ones kept ∙ counted))

-- ---- the same word sixteen times
pub rows_of-replicate : (word : ℕ) (b : Bool) → ((p : ℕ) → p < 64 → (bit_at word p == 1) ≡ b) → rows_of (truth_at (replicate 16 word)) ≡ rows_of (λ _. b)
rows_of-replicate word b h =
    rows_of-words (replicate 16 word) (λ _. b) (λ j p l m. ap (λ w. bit_at w p == 1) (get_or-replicate 16 j word 0 l) ∙ h p m)

pub rows_of_ones : rows_of (truth_at (replicate 16 (2 ^ 64 - 1))) ≡ rows_of (λ _. true)
rows_of_ones = rows_of-replicate (2 ^ 64 - 1) true (λ p h. ap (λ b. b == 1) (bit_at_ones 64 p h))

-- ---- the rows of a lane
lane_in_word : (t : ℕ) → IsLaneWidth t → (lane step : ℕ) → lane < 1024 / t → step < t → (row_at t lane 0 < 1024) × (row_at t lane 0 % 64 + step < 64) × (row_at t lane step ≡ row_at t lane 0 + step) × (t ≤ 64)
lane_in_word =
    at_widths (λ t. (lane step : ℕ) → lane < 1024 / t → step < t → (row_at t lane 0 < 1024) × (row_at t lane 0 % 64 + step < 64) × (row_at t lane step ≡ row_at t lane 0 + step) × (t ≤ 64))
    (λ lane step h l. (omega arith, omega arith, omega arith, omega arith)) (λ lane step h l. (omega arith, omega arith, omega arith, omega arith))
    (λ lane step h l. (omega arith, omega arith, omega arith, omega arith)) (λ lane step h l. (omega arith, omega arith, omega arith, omega arith))

-- a lane's rows stand one after another in one word
pub piece-has : (words : List ℕ) (mask : List Bool) (t lane first step : ℕ) → rows_of (truth_at words) ≡ mask → IsLaneWidth t → lane < 1024 / t → first ≡ row_at t lane 0 → step < t → (bit_at (bit_and (slice_index_or words (first / 64) 0 / 2 ^ (first % 64)) ((2 ^ 64 - 1) / 2 ^ (64 - t))) step == 1) ≡ has mask (row_at t lane step)
piece-has words mask t lane first step e w h is l =
    let place = lane_in_word t w lane step h l in
    let word = slice_index_or words (first / 64) 0 in
    let row : 64 * (first / 64) + (first % 64 + step) ≡ row_at t lane step = omega (arith, is, place.2) in
    let low : (bit_at ((2 ^ 64 - 1) / 2 ^ (64 - t)) step == 1) ≡ true = bit_is_set-shr_ones t step place.3 ∙ lt-ltb step t l in
    bit_is_set-and (word / 2 ^ (first % 64)) ((2 ^ 64 - 1) / 2 ^ (64 - t)) step
    ∙ ap (λ y. (bit_at (word / 2 ^ (first % 64)) step == 1) && y) low
    ∙ and_true (bit_at (word / 2 ^ (first % 64)) step == 1)
    ∙ ap (λ b. b == 1) (bit_at-shr word (first % 64) step)
    ∙ sym (has-word words mask e (first / 64) (first % 64 + step) (omega (arith, is, place.0)) (subst (λ (f : ℕ). f % 64 + step < 64) (sym is) place.1))
    ∙ ap (has mask) row
  where
    and_true : (b : Bool) → (b && true) ≡ b
    and_true true = refl
    and_true false = refl
