-- Bits that tell which cells have a value.
use Rattle.std.specs.Prelude.{◌≡◌, ℕ, Bool, cond, nat_lt, List}
use Rattle.transpose_order.specs.Bytes.{bit_of_bytes}
use Rattle.transpose_order.specs.Mask.{has}

-- the bit of a cell that is there: 1 below the number of cells
abbrev pub front_bit : ℕ → ℕ → ℕ
front_bit cells i = cond (nat_lt i cells) 1 0

-- the bits are as they were, but for those of cells that are null, which are 0
abbrev pub AreMarked : (ℕ → ℕ) → List Bool → List ℕ → Type 0
AreMarked before nulls bytes = (i : ℕ) → bit_of_bytes bytes i ≡ cond (has nulls i) 0 (before i)
