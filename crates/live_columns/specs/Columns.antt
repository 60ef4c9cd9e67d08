-- Cells as numbers and validity bits.
use Rattle.std.specs.Prelude.{ℕ, ◌+◌, ◌*◌, ◌/◌, Bool, cond, List, map, length, slice_index_or, count_by, Option, Some, None, is_none, ℤ, pos}
use Rattle.std.specs.List.{flat_map}
use Rattle.std.specs.Option.{is_some}
use Rattle.transpose_order.specs.Bytes.{bytes_of_bits}

-- the number of a cell: its value, and 0 at a null
abbrev pub number_at : Option ℤ → ℤ
number_at None = pos 0
number_at (Some z) = z

-- whether there is a value at a place: there is none at a null, and none past the last cell
abbrev pub has_value : List (Option ℤ) → ℕ → Bool
has_value cells i = is_some (slice_index_or cells i None)

-- how many bytes the validity bits of a number of cells take: 64 for each 512 cells, the last ones too
abbrev pub stride_of : ℕ → ℕ
stride_of cells = 64 * ((cells + 511) / 512)

-- the bytes of validity bits: bit i % 8 of byte i / 8 is 1 where cell i is a value, and 0 where it is null and past the last cell
unfoldable pub validity : List (Option ℤ) → List ℕ
validity cells = bytes_of_bits (stride_of (length cells)) (λ i. cond (has_value cells i) 1 0)

-- how many cells are null
abbrev pub null_count : List (Option ℤ) → ℕ
null_count cells = count_by is_none cells

-- the numbers of columns, one column after another
abbrev pub numbers_of : List (List (Option ℤ)) → List ℤ
numbers_of columns = flat_map (map number_at) columns

-- the same of their validity bits
abbrev pub validities : List (List (Option ℤ)) → List ℕ
validities columns = flat_map validity columns
