-- What is written for a file: the line of a check or the answers of queries, and the refusal that ends it, if one does.
use Rattle.std.specs.Prelude.{◌≡◌, ℕ, Bool, true, ◌||◌, List, Option, Some, None, Result, Ok, Err, IsTrue}
use Rattle.table_model.specs.Faults.{GaveMore, CountsBoth}
use Rattle.table_model.specs.declared.refusal.Refusal.{Refusal}
use Rattle.table_model.specs.declared.refusal.Refusal.TheVariants.{WriteFault}
use Rattle.answer_formats.specs.declared.format.Format.TheVariants.{Text}
use Rattle.replica_store.specs.Replica.{Replica}
use Rattle.column_file.specs.Files.{checked_from, opened_from}
use Rattle.column_file.specs.FirstVersion.{opened_from_1}
use Rattle.column_file.specs.Input.{is_refusal_of_reading}
use Rattle.replica_reports.specs.Asking.{Report, refused, checked_text, answers_report, is_refusal_of_answering, Tells}
use Rattle.replica_reports.specs.ReadAndWritten.{IsReadAndWritten}

-- the line of a check, or the refusal in its place
abbrev pub checked_report : Result (ℕ × ℕ) Refusal → Report
checked_report (Ok found) = (checked_text found, None)
checked_report (Err e) = refused e

-- what a check says of a file's bytes
abbrev pub check_report : List ℕ → Report
check_report input = checked_report (checked_from input)

-- the answers of queries at a replica, or the refusal in their place
abbrev pub opened_report : List (List ℕ) → Result Replica Refusal → Report
opened_report queries (Ok replica) = answers_report Text replica queries
opened_report queries (Err e) = refused e

-- what queries are answered over a file's bytes; whose replica opens it is no matter
abbrev pub queries_report : List (List ℕ) → List ℕ → Report
queries_report queries input = opened_report queries (opened_from (record { 0 = 1 }) input)

-- what version 1 answered queries over a file's bytes
abbrev pub queries_report_1 : List (List ℕ) → List ℕ → Report
queries_report_1 queries input = opened_report queries (opened_from_1 (record { 0 = 1 }) input)

-- a file that version 1 accepted gives the answers that it gave
abbrev pub FirstAnswersStay : Type 0
FirstAnswersStay = (queries : List (List ℕ)) (input : List ℕ) (r : Replica) → opened_from_1 (record { 0 = 1 }) input ≡ Ok r → queries_report queries input ≡ queries_report_1 queries input

-- whether a refusal is one that a check of a file may have: one of reading it, or that a write fails
abbrev pub is_refusal_of_checking : Refusal → Bool
is_refusal_of_checking WriteFault = true
is_refusal_of_checking other = is_refusal_of_reading other

-- whether a refusal is one that queries over a file may have: one of reading it, or one of writing an answer
abbrev pub is_refusal_of_querying : Refusal → Bool
is_refusal_of_querying e = is_refusal_of_reading e || is_refusal_of_answering e

-- What was written is the report of what a reader has, all of it, and the call ended as the report does; nothing is said where the reader doesn't tell its bytes
abbrev pub Reports : Result (Unit {0}) Refusal → Option (List ℕ) → Option (List ℕ) → Option (List ℕ) → (List ℕ → Report) → Type 0
Reports result None before now report = Unit {0}
Reports result (Some input) before now report = Tells result before now (report input)

-- The call was refused as one of the refusals that it has, and each failed read and write is counted.
pub record IsUnreported {D E : Type 0} (remaining : D → Option (List ℕ)) (is_refusal : Refusal → Bool) (reader reader' : D × ℕ) (writer writer' : E × ℕ) (e : Refusal) : Type 0 where
  pub listed : IsTrue (is_refusal e)
  pub counts : CountsBoth (GaveMore (remaining reader.0) (remaining reader'.0)) e reader.1 reader'.1 writer.1 writer'.1

-- how a call ends that reads a file and writes a report of it: the file was read whole and no write failed, or the call was refused
abbrev pub EndsReport : {D E X : Type 0} → (D → Option (List ℕ)) → (Refusal → Bool) → D × ℕ → D × ℕ → E × ℕ → E × ℕ → Result X Refusal → Type 0
EndsReport remaining is_refusal reader reader' writer writer' (Ok x) = IsReadAndWritten remaining reader reader' writer writer'
EndsReport remaining is_refusal reader reader' writer writer' (Err e) = IsUnreported remaining is_refusal reader reader' writer writer' e
