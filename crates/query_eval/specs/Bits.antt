-- Bits of words.
use Rattle.std.specs.Prelude.{◌≡◌, ℕ, ◌==◌, ◌+◌, ◌<◌, Bool, List}
use Rattle.std.specs.Int.{bit_at}
use Rattle.transpose_order.specs.Mask.{has}

-- a number of bits of a word are whether a mask has the rows from a first one on
abbrev pub AreBits : ℕ → ℕ → List Bool → ℕ → Type 0
AreBits count word rows first = (b : ℕ) → b < count → (bit_at word b == 1) ≡ has rows (first + b)
