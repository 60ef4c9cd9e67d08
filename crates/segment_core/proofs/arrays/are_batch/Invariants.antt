-- The numbers of the columns so far are values of their types.
use Rattle.std.proofs.Common.{◌≡◌, ℕ, ◌<◌, slice_get, Some}
use Rattle.table_model.specs.Table.{ColumnShape}
use Rattle.segment_core.specs.Arrays.{ArrayForm, NumbersFit}
use Rattle.segment_core.proofs.arrays.are_batch.Given as goal

abbrev pub invariant-loop-column : goal.invariant-loop-column
invariant-loop-column l = (c : ℕ) (column : ColumnShape) (a : ArrayForm) → c < l.column → slice_get l.schema.columns c ≡ Some column → slice_get l.arrays c ≡ Some a → NumbersFit column.column_type a.values
