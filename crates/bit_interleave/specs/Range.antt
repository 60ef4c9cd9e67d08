-- The values of a vector, and those that a column of a width in bits can hold.
use Rattle.std.specs.Prelude.{ℕ, ℤ, pos, FitsSigned, List, slice_index_or}
use Rattle.std.specs.List.{All}
use Rattle.bit_interleave.specs.Arithmetic.{integer_width}

-- each value of a list is in the range of t bits, signed
abbrev pub AreInRange : ℕ → List ℤ → Type 0
AreInRange t values = All (λ value. FitsSigned (integer_width t) value) values

-- the value at row n of a vector
abbrev pub value_at : List ℤ → ℕ → ℤ
value_at values n = slice_index_or values n (pos 0)
