-- A mask is known by its rows, and its words are found again from them: a number below 2 ^ w is known by its w low bits.
use Rattle.std.proofs.Common.{◌≡◌, ℕ, zero, suc, ◌+◌, ◌-◌, ◌*◌, ◌/◌, ◌%◌, ◌^◌, ◌<◌, ◌≤◌, Bool, false, cond, ◌==◌, ◌⊎◌, inl, inr, List, length, get_or, slice_index_or, refl, sym, ap, ◌∙◌, subst, arith}
use Rattle.std.specs.Int.{bit_at}
use Rattle.std.proofs.lemmas.Bool.{cases_lt}
use Rattle.std.proofs.lemmas.Bool.Decides.{nat_tests}
use Rattle.std.proofs.lemmas.List.FromFn.{length-map-range_with_len, get_or-map-range_with_len, fill_by_all}
use Rattle.std.proofs.lemmas.Nat.Bits.{bit_at-lt, same_from_bits_below, bit_at_cat_low, bit_at_cat_high, bit_at_lowest}
use Rattle.std.proofs.lemmas.Nat.{mul-add-lt}
use Rattle.transpose_order.specs.Mask.{rows_of, has, truth_at, number_of_bits, words_of, AreMaskWords}

-- ---- lists of 1024 values
pub length-rows_of : {X : Type 0} → (f : ℕ → X) → length (rows_of f) ≡ 1024
unfolding rows_of
length-rows_of f = length-map-range_with_len f 0 1024

pub get_or-rows_of : {X : Type 0} → (f : ℕ → X) (n : ℕ) (d : X) → n < 1024 → get_or (rows_of f) n d ≡ f n
unfolding rows_of
get_or-rows_of f n d h = get_or-map-range_with_len f 0 1024 n n d h (omega arith)

pub has-rows_of : (f : ℕ → Bool) (n : ℕ) → n < 1024 → has (rows_of f) n ≡ f n
has-rows_of f n h = get_or-rows_of f n false h

-- a list of 1024 values is known by its rows
pub rows_of-same : {X : Type 0} → (f : ℕ → X) (xs : List X) (d : X) → length xs ≡ 1024 → ((n : ℕ) → n < 1024 → get_or xs n d ≡ f n) → xs ≡ rows_of f
unfolding rows_of
rows_of-same f xs d l h = fill_by_all f xs 1024 d l h

pub rows_of-like : (f g : ℕ → Bool) → ((n : ℕ) → n < 1024 → f n ≡ g n) → rows_of f ≡ rows_of g
rows_of-like f g h = rows_of-same g (rows_of f) false (length-rows_of f) (λ n w. has-rows_of f n w ∙ h n w)

-- ---- a number by its bits
pub number_of_bits-zero : (f : ℕ → ℕ) → number_of_bits 0 f ≡ 0
unfolding number_of_bits
number_of_bits-zero f = refl

pub number_of_bits-suc : (w : ℕ) (f : ℕ → ℕ) → number_of_bits (suc w) f ≡ f w * 2 ^ w + number_of_bits w f
unfolding number_of_bits
number_of_bits-suc w f = refl

pub number_of_bits-below : (w : ℕ) (f : ℕ → ℕ) → ((i : ℕ) → i < w → f i < 2) → number_of_bits w f < 2 ^ w
number_of_bits-below zero f h = rw (number_of_bits-zero f) (omega arith)
number_of_bits-below (suc w) f h =
    rw (number_of_bits-suc w f)
    (omega (arith, mul-add-lt (f w) (2 ^ w) (number_of_bits w f) 2 (h w (omega arith)) (number_of_bits-below w f (λ i l. h i (omega arith)))))

last_bit : (w a b : ℕ) → a < 2 → b < 2 ^ w → bit_at (a * 2 ^ w + b) w ≡ a
last_bit w a b small below =
    bit_at_cat_high a w b w below (omega arith) ∙ ap (λ k. bit_at a k) (let e : w - w ≡ 0 = omega arith in e) ∙ (bit_at_lowest a ∙ omega arith)

bit_of_sum : (w : ℕ) (f : ℕ → ℕ) → ((i : ℕ) → i < suc w → f i < 2) → ((i : ℕ) → i < w → bit_at (number_of_bits w f) i ≡ f i) → (i : ℕ) → i < suc w → (i < w) ⊎ (w ≤ i) → bit_at (f w * 2 ^ w + number_of_bits w f) i ≡ f i
bit_of_sum w f h front i l (inl below) = bit_at_cat_low (f w) w (number_of_bits w f) i below ∙ front i below
bit_of_sum w f h front i l (inr top) =
    let e : w ≡ i = omega arith in
    let last : bit_at (f w * 2 ^ w + number_of_bits w f) w ≡ f w = last_bit w (f w) (number_of_bits w f) (h w (omega arith)) (number_of_bits-below w f (λ k m. h k (omega arith))) in
    subst (λ (k : ℕ). bit_at (f w * 2 ^ w + number_of_bits w f) k ≡ f k) e last

pub bit_at-number_of_bits : (w : ℕ) (f : ℕ → ℕ) → ((i : ℕ) → i < w → f i < 2) → (i : ℕ) → i < w → bit_at (number_of_bits w f) i ≡ f i
bit_at-number_of_bits zero f h i l = absurd (omega arith)
bit_at-number_of_bits (suc w) f h i l =
    rw (number_of_bits-suc w f)
    (bit_of_sum w f h (λ k m. bit_at-number_of_bits w f (λ j n. h j (omega arith)) k m) i l (cases_lt i w))

-- a number below 2 ^ w is known by its w low bits
pub number_of_bits_is : (w v : ℕ) (f : ℕ → ℕ) → v < 2 ^ w → ((i : ℕ) → i < w → bit_at v i ≡ f i) → v ≡ number_of_bits w f
number_of_bits_is w v f b h =
    let bits : (i : ℕ) → i < w → f i < 2 = (λ i l. subst (λ (x : ℕ). x < 2) (h i l) (bit_at-lt v i)) in
    same_from_bits_below w v (number_of_bits w f) b (number_of_bits-below w f bits) (λ i l. h i l ∙ sym (bit_at-number_of_bits w f bits i l))

-- ---- the words of a mask
pub bit_from_test : (b : ℕ) → b < 2 → cond (b == 1) 1 0 ≡ b
bit_from_test b h = grind (arith, nat_tests)

pub truth_at-place : (words : List ℕ) (j p : ℕ) → p < 64 → truth_at words (64 * j + p) ≡ (bit_at (slice_index_or words j 0) p == 1)
truth_at-place words j p h =
    let word : (64 * j + p) / 64 ≡ j = omega arith in
    let bit : (64 * j + p) % 64 ≡ p = omega arith in
    ap (λ k. bit_at (slice_index_or words k 0) ((64 * j + p) % 64) == 1) word ∙ ap (λ k. bit_at (slice_index_or words j 0) k == 1) bit

-- a mask's words are found again from its rows
pub words_of-rows_of : (words : List ℕ) → AreMaskWords words → words_of (rows_of (truth_at words)) ≡ words
unfolding words_of
words_of-rows_of words h =
    sym (fill_by_all (λ j. number_of_bits 64 (λ p. cond (has (rows_of (truth_at words)) (64 * j + p)) 1 0)) words 16 0 h.count
    (λ j l. number_of_bits_is 64 (slice_index_or words j 0) (λ p. cond (has (rows_of (truth_at words)) (64 * j + p)) 1 0) (h.fit j)
    (λ p m. sym (ap (λ b. cond b 1 0) (has-rows_of (truth_at words) (64 * j + p) (omega arith) ∙ truth_at-place words j p m) ∙ bit_from_test _ (bit_at-lt (slice_index_or words j 0) p)))))
