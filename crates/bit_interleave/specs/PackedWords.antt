-- A list of words of one lane width, as numbers.
use Rattle.std.specs.Prelude.{ℕ, List, ◌≡◌, ◌*◌, ◌/◌, ◌<◌, ◌≤◌, ◌^◌, length}
use Rattle.std.specs.List.{All}
use Rattle.bit_interleave.specs.Packing.{packed}

-- the words' width in bits, and the words in order
pub record PackedWords : Type 0 where
  pub lane_width : ℕ
  pub numbers : List ℕ

-- each word is below two to the power of the words' width
abbrev pub FitLanes : PackedWords → Type 0
FitLanes words = All (λ n. n < 2 ^ words.lane_width) words.numbers

-- the words of t bits that pack 1024 values of w bits in row order
abbrev pub words_packing : ℕ → ℕ → List ℕ → PackedWords
words_packing t w values = record { lane_width = t; numbers = packed t w values }

-- the words have the number that 1024 values of w bits take, and are as wide as that
pub record HasWidth (words : PackedWords) (w : ℕ) : Type 0 where
  pub fits : w ≤ words.lane_width
  pub count : length words.numbers ≡ w * (1024 / words.lane_width)

-- the bits of each value where words pack 1024 of them: no other width has as many words
abbrev pub packed_width : PackedWords → ℕ
packed_width words = length words.numbers / (1024 / words.lane_width)
