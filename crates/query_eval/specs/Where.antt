-- A condition of WHERE at the rows of a vector.
use Rattle.std.specs.Prelude.{◌≡◌, ℕ, Bool, List, Option, ℤ}
use Rattle.table_model.specs.Condition.{between, condition_truth}
use Rattle.table_model.specs.Formula.{Formula}
use Rattle.table_model.specs.Meaning.{at_row}
use Rattle.table_model.specs.Table.{Table}
use Rattle.table_model.specs.Truth.{and_of, comparison}
use Rattle.table_model.specs.declared.answer.Field.{Field}
use Rattle.table_model.specs.declared.op.Op.TheVariants.{GreaterOrEqual, LessOrEqual}
use Rattle.table_model.specs.declared.query.Operand.{Operand}
use Rattle.table_model.specs.declared.truth.Truth.{Truth}
use Rattle.query_eval.specs.Pairs.{yes_of, no_of}
use Rattle.query_eval.specs.Read.{Seen}
use Rattle.query_eval.specs.Vector.{Vector, row_at, vector_of}
use Rattle.query_eval.specs.declared.filter.pair.Pair.{Pair}
use Rattle.query_eval.specs.declared.columns.VectorId.{VectorId}

-- a pair has the rows of a mask where a truth value is true, and those where it is false
pub record IsPair (mask : List Bool) (t : ℕ → Truth) (pair : Pair) : Type 0 where
  pub yes : pair.yes ≡ yes_of mask t
  pub no : pair.no ≡ no_of mask t

-- an operand at a row of a vector
abbrev pub operand_at : Table → Vector → Operand → ℕ → Field
operand_at table v operand n = at_row table.columns (row_at v n) operand

-- the truth of a condition at a row of a vector
abbrev pub truth_in : Table → Vector → Formula → ℕ → Truth
truth_in table v f n = condition_truth (at_row table.columns (row_at v n)) f

-- an operand at a row of a vector that is given by its place
abbrev pub operand_seen : Seen → VectorId → Operand → ℕ → Field
operand_seen seen id operand n = operand_at seen.table (vector_of seen.state id) operand n

-- BETWEEN of three cells
abbrev pub cell_between : Option ℤ → Option ℤ → Option ℤ → Truth
cell_between x low high = and_of (comparison GreaterOrEqual x low) (comparison LessOrEqual x high)

-- AND of two truth values, row by row
abbrev pub both : (ℕ → Truth) → (ℕ → Truth) → ℕ → Truth
both s t n = and_of (s n) (t n)

-- BETWEEN of three operands at a row of a vector by its place
abbrev pub between_seen : Seen → VectorId → Operand → Operand → Operand → ℕ → Truth
between_seen seen id x low high n = between (operand_seen seen id x n) (operand_seen seen id low n) (operand_seen seen id high n)
