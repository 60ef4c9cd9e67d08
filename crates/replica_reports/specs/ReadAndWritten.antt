-- How a call ends that reads to the end, and writes.
use Rattle.std.specs.Prelude.{◌≡◌, ℕ, List, Option, Result, Ok, Err}
use Rattle.table_model.specs.Faults.{GaveMore, Failed}
use Rattle.table_model.specs.declared.refusal.Refusal.{Refusal}
use Rattle.column_file.specs.Input.{IsReadWhole}

-- The reader was read whole, and no write failed.
pub record IsReadAndWritten {D E : Type 0} (remaining : D → Option (List ℕ)) (reader reader' : D × ℕ) (writer writer' : E × ℕ) : Type 0 where
  pub read : IsReadWhole remaining reader reader'
  pub kept : writer'.1 ≡ writer.1

-- How a call ends that nothing refuses but out of memory and a failed read or write: with that, or refused, and then each failed read
-- and write is counted.
abbrev pub EndsFailed : {D E X : Type 0} → (D → Option (List ℕ)) → D × ℕ → D × ℕ → E × ℕ → E × ℕ → Result X Refusal → Type 0
EndsFailed remaining reader reader' writer writer' (Ok x) = IsReadAndWritten remaining reader reader' writer writer'
EndsFailed remaining reader reader' writer writer' (Err e) = Failed (GaveMore (remaining reader.0) (remaining reader'.0)) e reader.1 reader'.1 writer.1 writer'.1
