-- Cells of decoded columns.
use Rattle.std.specs.Prelude.{ℕ, Bool, List, cond, slice_index_or, Option, Some, None, ℤ, pos}
use Rattle.std.specs.List.{list_any}
use Rattle.std.specs.Ordering.{int_eq}
use Rattle.transpose_order.specs.Mask.{has, rows_of}
use Rattle.query_eval.specs.declared.filter.decoded.Decoded.{Decoded}
use Rattle.query_eval.specs.declared.filter.decoded.Decoded.TheVariants.{Column, Fixed}

-- the cell at a row of a column with these nulls and values
abbrev pub value_unless : List Bool → List ℤ → ℕ → Option ℤ
value_unless nulls values n = cond (has nulls n) None (Some (slice_index_or values n (pos 0)))

-- the rows whose value is one of some literals
abbrev pub rows_among : List ℤ → List ℤ → List Bool
rows_among values literals = rows_of (λ n. list_any (int_eq (slice_index_or values n (pos 0))) literals)

-- the cell at a row
abbrev pub decoded_at : Decoded → ℕ → Option ℤ
decoded_at (Column nulls values) n = value_unless nulls values n
decoded_at (Fixed cell) n = cell
