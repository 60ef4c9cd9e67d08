-- The law of the tests of sameness: each is true exactly where its two values are equal.
use Rattle.std.specs.Prelude.{◌≡◌, ◌↔◌, true}
use Rattle.table_model.specs.State.{Batch, same_rows}
use Rattle.table_model.specs.Table.{Table, same_table}

-- two schemas, or two lists of rows, are the same exactly where they are equal
pub record SamenessLaws : Type 0 where
  pub tables : (s t : Table) → (same_table s t ≡ true) ↔ (s ≡ t)
  pub rows : (xs ys : Batch) → (same_rows xs ys ≡ true) ↔ (xs ≡ ys)
