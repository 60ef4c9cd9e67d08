-- A report begins with its counts.
use Rattle.std.proofs.Common.{ℕ, List, OnOk, Ok, Err, Result}
use Rattle.answer_formats.specs.declared.format.ReportForm.{ReportForm}
use Rattle.replica_store.specs.Segments.{StoreForm}
use Rattle.replica_reports.specs.ColumnFigures.{column_lines}
use Rattle.replica_reports.specs.Counts.{BeginsWithCounts}
use Rattle.replica_reports.specs.Reports.{Reports, columns_text}

pub begins : (form : ReportForm) (s : StoreForm) (text : List ℕ) → Reports form s text → BeginsWithCounts form s.replica.schema.name s.replica.state text
begins form s text is = (is.0, is.1, (columns_text form (column_lines s 0 s.replica.schema.columns), is.2))

-- what follows from success
pub on_ok : {A E P Q : Type 0} (r : Result A E) → (P → Q) → OnOk r P → OnOk r Q
on_ok (Ok x) next held = next held
on_ok (Err e) next held = held
