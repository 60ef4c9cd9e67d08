use Rattle.std.proofs.Common.{◌≡◌, ◌+◌, drop, length, option_map}
use Rattle.csv_rows.specs.Field.{fields_of, fields_left}
use Rattle.csv_rows.specs.CsvText.{filled}
use Rattle.csv_rows.proofs.row.fill.Given as goal

abbrev pub invariant-loop-place : goal.invariant-loop-place
invariant-loop-place l = record {
  taken : l.fields ≡ l.place-index;
  count : l.fields + length (fields_left l.dialect.separator (option_map (λ rest. rest.now) l.rest)) ≡ length (fields_of l.dialect.separator l.line);
  long : length l.cells.items ≡ length l.columns;
  row : filled l.dialect l.columns (l.fields + 1) (drop l.place-index l.order) (fields_left l.dialect.separator (option_map (λ rest. rest.now) l.rest)) l.cells.items ≡ filled l.dialect l.columns 1 l.order (fields_of l.dialect.separator l.line) l.initial.cells.items;
}
