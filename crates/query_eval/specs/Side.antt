-- The sides of a comparison: columns by their places, and cells that are the same at each row.
use Rattle.std.specs.Prelude.{◌≡◌, ℕ, ◌<◌, length, Option, ℤ}
use Rattle.table_model.specs.Answer.{whole}
use Rattle.table_model.specs.State.{State}
use Rattle.table_model.specs.Table.{Table}
use Rattle.table_model.specs.declared.query.Operand.{Operand}
use Rattle.query_eval.specs.Read.{Seen}
use Rattle.query_eval.specs.Vector.{Vector, IsThere, vector_at, vector_of, cell_at}
use Rattle.query_eval.specs.Where.{operand_at}
use Rattle.query_eval.specs.declared.filter.side.Side.{Side}
use Rattle.query_eval.specs.declared.columns.VectorId.{VectorId}
use Rattle.query_eval.specs.declared.filter.side.Side.TheVariants.{Column, Fixed}

-- a side's cell at a row of a vector
abbrev pub side_at : Vector → Side → ℕ → Option ℤ
side_at v (Column column) n = cell_at v column n
side_at v (Fixed cell) n = cell

-- a side's cell at a row of a vector that is given by its place
abbrev pub side_seen : Seen → VectorId → Side → ℕ → Option ℤ
side_seen seen id side n = side_at (vector_of seen.state id) side n

-- a side mentions a column, or none
abbrev pub side_mentions : Side → ℕ
side_mentions (Column column) = 1
side_mentions (Fixed cell) = 0

-- a side's column is one of the table's
abbrev pub HasColumn : Table → Side → Type 0
HasColumn table (Column column) = column < length table.columns
HasColumn table (Fixed cell) = Unit {0}

-- a side represents an operand of WHERE at each row of each vector
abbrev pub StandsFor : Table → State → Operand → Side → Type 0
StandsFor table s operand side = (batch vector n : ℕ) → IsThere s batch vector → operand_at table (vector_at s batch vector) operand n ≡ whole (side_at (vector_at s batch vector) side n)
