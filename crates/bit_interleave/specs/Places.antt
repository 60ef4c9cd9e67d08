-- Numbers of 1024 rows place by place: a row's place is its bit in its word of a mask, and the numbers of the sixteen rows of
-- a place are one after another.
use Rattle.std.specs.Prelude.{ℕ, ◌+◌, ◌*◌, ◌/◌, ◌%◌, List, slice_index}

-- the index of row n's number where numbers are by places
abbrev pub index_of_row : ℕ → ℕ
index_of_row n = 16 * (n % 64) + n / 64

-- the row whose number is at index q where numbers are by places
abbrev pub row_of_index : ℕ → ℕ
row_of_index q = 64 * (q % 16) + q / 16

-- the number of row n of numbers by places
abbrev pub by_place : List ℕ → ℕ → ℕ
by_place numbers n = slice_index numbers (index_of_row n)
