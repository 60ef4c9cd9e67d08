-- A mask as a list of 1024 truth values, and its words of 64 bits.
use Rattle.std.specs.Prelude.{◌≡◌, ℕ, zero, suc, ◌+◌, ◌*◌, ◌/◌, ◌%◌, ◌^◌, ◌<◌, Bool, false, cond, ◌==◌, List, map, length, slice_index_or}
use Rattle.std.specs.Int.{bit_at}
use Rattle.std.specs.List.{range_with_len}

-- the list of 1024 values of f, one a row
unfoldable pub rows_of : {X : Type 0} → (ℕ → X) → List X
rows_of f = map f (range_with_len 0 1024)

-- the truth value of row n, false past the end
abbrev pub has : List Bool → ℕ → Bool
has mask n = slice_index_or mask n false

-- the truth value of row n in words of 64 bits: bit p of word j is row 64 * j + p
abbrev pub truth_at : List ℕ → ℕ → Bool
truth_at words n = bit_at (slice_index_or words (n / 64) 0) (n % 64) == 1

-- how many of the numbers below n pass a test
unfoldable pub count_below : (ℕ → Bool) → ℕ → ℕ
count_below p zero = 0
count_below p (suc n) = count_below p n + cond (p n) 1 0

-- the number whose w low bits are those of f
unfoldable pub number_of_bits : ℕ → (ℕ → ℕ) → ℕ
number_of_bits zero f = 0
number_of_bits (suc w) f = f w * 2 ^ w + number_of_bits w f

-- the sixteen words whose bits are a mask's truth values
unfoldable pub words_of : List Bool → List ℕ
words_of mask = map (λ j. number_of_bits 64 (λ p. cond (has mask (64 * j + p)) 1 0)) (range_with_len 0 16)

-- sixteen words of 64 bits
pub record AreMaskWords (words : List ℕ) : Type 0 where
  pub count : length words ≡ 16
  pub fit : (j : ℕ) → slice_index_or words j 0 < 2 ^ 64
