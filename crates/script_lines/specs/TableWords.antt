-- The words of a line that makes a table.
use Rattle.std.specs.Prelude.{ℕ, List}
use Rattle.table_model.specs.declared.schema.ColType.{ColType}

-- how many replicas, the table's name, and its columns' names and types, as they were written
pub record TableWords : Type 0 where
  pub replicas : ℕ
  pub table : List ℕ
  pub columns : List (List ℕ × ColType)
