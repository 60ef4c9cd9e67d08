-- A column that a table hasn't is null at each row.
use Rattle.std.proofs.Common.{◌≡◌, ℕ, zero, suc, ◌*◌, ◌≤◌, List, [], ◌∷◌, length, get_or, take, drop, None, refl, ap, ◌∙◌, arith}
use Rattle.std.proofs.lemmas.List.{get_or_past}
use Rattle.table_model.proofs.Batches.{row_length}
use Rattle.table_model.specs.Answer.{whole}
use Rattle.table_model.specs.Group.{cell}
use Rattle.table_model.specs.Meaning.{place_of}
use Rattle.table_model.specs.State.{Cells, State}
use Rattle.table_model.specs.Table.{Table, ColumnShape, AreRows}
use Rattle.table_model.specs.declared.query.ColumnMention.{ColumnMention}
use Rattle.table_model.specs.declared.query.Operand.{Operand}
use Rattle.table_model.specs.declared.query.Operand.TheVariants.{Column}
use Rattle.query_eval.specs.Vector.{IsThere, IsWithin, vector_at, cell_at}
use Rattle.query_eval.specs.Where.{operand_at}

rows_drop : (columns : List ColumnShape) (k : ℕ) (rows : List Cells) → AreRows columns rows → AreRows columns (drop k rows)
rows_drop columns zero rows h = h
rows_drop columns (suc k) [] h = tt
rows_drop columns (suc k) (r ∷ rows) h = rows_drop columns k rows h.1

rows_take : (columns : List ColumnShape) (k : ℕ) (rows : List Cells) → AreRows columns rows → AreRows columns (take k rows)
rows_take columns zero rows h = tt
rows_take columns (suc k) [] h = tt
rows_take columns (suc k) (r ∷ rows) h = (h.0, rows_take columns k rows h.1)

past_columns : (columns : List ColumnShape) (rows : List Cells) → AreRows columns rows → (n c : ℕ) → length columns ≤ c → cell (get_or rows n []) c ≡ None
past_columns columns [] h n c l = refl
past_columns columns (r ∷ rows) h zero c l = get_or_past r c None (omega (arith, row_length columns r h.0))
past_columns columns (r ∷ rows) h (suc n) c l = past_columns columns rows h.1 n c l

pub missing_cell : (table : Table) (s : State) → IsWithin table s → (batch vector n column : ℕ) → IsThere s batch vector → length table.columns ≤ column → cell_at (vector_at s batch vector) column n ≡ None
unfolding vector_at
missing_cell table s w batch vector n column there h =
    past_columns table.columns _ (rows_take table.columns 1024 _ (rows_drop table.columns (1024 * vector) _ (w.batches batch there.batches).rows_fit)) n column h

pub missing_operand : (table : Table) (s : State) (column : ColumnMention) (operand : Operand) → operand ≡ Column column → length table.columns ≤ place_of table.columns column.name → IsWithin table s → (batch vector n : ℕ) → IsThere s batch vector → operand_at table (vector_at s batch vector) operand n ≡ whole None
missing_operand table s column operand e h w batch vector n there =
    ap (λ (o : Operand). operand_at table (vector_at s batch vector) o n) e ∙ ap whole (missing_cell table s w batch vector n (place_of table.columns column.name) there h)
