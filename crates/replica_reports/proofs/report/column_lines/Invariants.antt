-- The lines that are there, and those of the columns that are left, are the lines of all.
use Rattle.std.proofs.Common.{◌≡◌, ◌++◌, drop}
use Rattle.replica_reports.specs.ColumnFigures.{column_lines}
use Rattle.replica_reports.proofs.report.column_lines.Given as goal

abbrev pub invariant-loop-place : goal.invariant-loop-place
invariant-loop-place l = l.lines.items ++ column_lines l.store l.place (drop l.place l.store.replica.schema.columns) ≡ column_lines l.store 0 l.store.replica.schema.columns
