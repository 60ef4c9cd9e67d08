-- Which rows of a vector are live.
use Rattle.std.specs.Prelude.{ℕ, ◌+◌, ◌*◌, Bool, ◌&&◌, not, nat_lt}
use Rattle.std.specs.FinSet as set
use Rattle.table_model.specs.Name.{row_name_cmp}
use Rattle.table_model.specs.declared.names.BatchName.{BatchName}
use Rattle.table_model.specs.declared.names.RowName.{RowName}

-- row n of a vector of 1024 rows by its name
abbrev pub row_of_vector : BatchName → ℕ → ℕ → RowName
row_of_vector batch vector n = record { batch = batch; ordinal = 1024 * vector + n }

-- the vector covers row n, and the row isn't deleted
abbrev pub is_live : set.FinSet row_name_cmp → BatchName → ℕ → ℕ → ℕ → Bool
is_live deleted batch vector rows n = nat_lt n rows && not (set.contains deleted (row_of_vector batch vector n))
