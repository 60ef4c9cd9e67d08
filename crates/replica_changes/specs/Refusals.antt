-- Which refusals a call on files has, what each comes of, and how its readers and its writer are left.
use Rattle.std.specs.Prelude.{◌≡◌, ◌≢◌, ◌⊎◌, ℕ, Bool, true, false, ◌||◌, List, [], ◌∷◌, Option, Result, Ok, Err, IsTrue}
use Rattle.table_model.specs.Faults.{GaveMore, CountsReads, CountsWrites, CountsBoth}
use Rattle.table_model.specs.declared.refusal.Refusal.{Refusal}
use Rattle.table_model.specs.declared.refusal.Refusal.TheVariants.{Memory, Conflict, Full, SchemaDiffers, NumbersSpent, BadName, BadSchema, BadRange, WriteFault}
use Rattle.column_file.specs.Input.{Judges, ComesOfWhole, IsReadWhole, is_refusal_of_reading}
use Rattle.replica_store.specs.Replica.{Replica}
use Rattle.replica_reports.specs.Held.{held_in}
use Rattle.replica_reports.specs.ReadAndWritten.{IsReadAndWritten}
use Rattle.replica_changes.specs.Commands.{Made}

-- ---- the refusals of each command

-- whether a merge of replicas may be refused so, and an apply of offers, which are merged
abbrev pub is_refusal_of_merge : Refusal → Bool
is_refusal_of_merge Memory = true
is_refusal_of_merge SchemaDiffers = true
is_refusal_of_merge (Conflict name) = true
is_refusal_of_merge Full = true
is_refusal_of_merge other = false

-- whether an import may be refused so: for its names, or as a merge
abbrev pub is_refusal_of_import : Refusal → Bool
is_refusal_of_import BadName = true
is_refusal_of_import NumbersSpent = true
is_refusal_of_import other = is_refusal_of_merge other

-- whether a delete of a range of rows may be refused so
abbrev pub is_refusal_of_range : Refusal → Bool
is_refusal_of_range Memory = true
is_refusal_of_range BadName = true
is_refusal_of_range (BadRange at) = true
is_refusal_of_range other = false

-- whether a forget may be refused so
abbrev pub is_refusal_of_forget : Refusal → Bool
is_refusal_of_forget Memory = true
is_refusal_of_forget other = false

-- whether a call that makes a file may be refused so
abbrev pub is_refusal_of_create : Refusal → Bool
is_refusal_of_create Memory = true
is_refusal_of_create BadSchema = true
is_refusal_of_create WriteFault = true
is_refusal_of_create other = false

-- whether a refusal is one of reading a file, or of a command
abbrev pub reading_or : (Refusal → Bool) → Refusal → Bool
reading_or is_refusal e = is_refusal_of_reading e || is_refusal e

-- whether a refusal is one of reading a file, of a command, or a failed write
abbrev pub on_file : (Refusal → Bool) → Refusal → Bool
on_file is_refusal WriteFault = true
on_file is_refusal other = reading_or is_refusal other

-- ---- a call that reads a file, does a command with what it holds, and writes the file anew

-- What a refusal comes of: of reading; of the command, which refuses so what the file holds, and that is what the bytes hold, if the
-- reader tells them; or of a failed write.
abbrev pub ComesOf : {Y : Type 0} → (Replica → Made Y) → Option (List ℕ) → Refusal → Type 0
ComesOf command input e =
    IsTrue (is_refusal_of_reading e) ⊎ (((old : Replica) × Judges (λ (r : Replica). r) (Ok old) input held_in × (command old ≡ Err e)) ⊎ (e ≡ WriteFault))

-- How the call ends if it is refused: which refusals it has, and what each comes of; unless memory ran out or a read failed, the
-- reader was read to its end; unless a write failed, nothing was written; and each failed read and write is counted.
pub record EndsRefused {D E Y : Type 0} (remaining : D → Option (List ℕ)) (contents : E → Option (List ℕ)) (is_refusal : Refusal → Bool) (command : Replica → Made Y) (reader reader' : D × ℕ) (writer writer' : E × ℕ) (e : Refusal) : Type 0 where
  pub listed : IsTrue (on_file is_refusal e)
  pub why : ComesOf command (remaining reader.0) e
  pub whole : ComesOfWhole e (remaining reader.0) (remaining reader'.0)
  pub unwritten : e ≢ WriteFault → contents writer'.0 ≡ contents writer.0
  pub counts : CountsBoth (GaveMore (remaining reader.0) (remaining reader'.0)) e reader.1 reader'.1 writer.1 writer'.1

-- how a command on a file ends: the file was read whole and no write failed, or it was refused
abbrev pub Ends : {D E X Y : Type 0} → (D → Option (List ℕ)) → (E → Option (List ℕ)) → (Refusal → Bool) → (Replica → Made Y) → D × ℕ → D × ℕ → E × ℕ → E × ℕ → Result X Refusal → Type 0
Ends remaining contents is_refusal command reader reader' writer writer' (Ok x) = IsReadAndWritten remaining reader reader' writer writer'
Ends remaining contents is_refusal command reader reader' writer writer' (Err e) = EndsRefused remaining contents is_refusal command reader reader' writer writer' e

-- ---- a call that reads several files, one after another

-- each reader was read whole
abbrev pub AreReadWhole : {D : Type 0} → (D → Option (List ℕ)) → List (D × ℕ) → List (D × ℕ) → Type 0
AreReadWhole remaining [] [] = Unit {0}
AreReadWhole remaining (old ∷ olds) (new ∷ news) = IsReadWhole remaining old new × AreReadWhole remaining olds news
AreReadWhole remaining olds news = ⊥

-- The call was refused at a reader: unless memory ran out or a read failed, this was read to its end; and a failed read is counted.
pub record StopsAt {D : Type 0} (remaining : D → Option (List ℕ)) (e : Refusal) (old new : D × ℕ) : Type 0 where
  pub whole : ComesOfWhole e (remaining old.0) (remaining new.0)
  pub counts : CountsReads (GaveMore (remaining old.0) (remaining new.0)) e old.1 new.1

-- Readers were read in turn until the call was refused: at one of them, and then those before it were read whole, and those after it
-- are as they were; or after all of them, for memory or a failed write.
abbrev pub ReadInTurn : {D : Type 0} → (D → Option (List ℕ)) → Refusal → List (D × ℕ) → List (D × ℕ) → Type 0
ReadInTurn remaining e [] [] = (e ≡ Memory) ⊎ (e ≡ WriteFault)
ReadInTurn remaining e (old ∷ olds) (new ∷ news) = (IsReadWhole remaining old new × ReadInTurn remaining e olds news) ⊎ (StopsAt remaining e old new × (news ≡ olds))
ReadInTurn remaining e olds news = ⊥

-- How a merge of files ends if it is refused: which refusals it has; how its readers were read; unless a write failed, nothing was
-- written; and a failed write is counted.
pub record EndsUnmerged {D E : Type 0} (remaining : D → Option (List ℕ)) (contents : E → Option (List ℕ)) (readers readers' : List (D × ℕ)) (writer writer' : E × ℕ) (e : Refusal) : Type 0 where
  pub listed : IsTrue (on_file is_refusal_of_merge e)
  pub reads : ReadInTurn remaining e readers readers'
  pub unwritten : e ≢ WriteFault → contents writer'.0 ≡ contents writer.0
  pub counts : CountsWrites e writer.1 writer'.1

-- Each reader was read whole, and no write failed.
pub record IsMerged {D E : Type 0} (remaining : D → Option (List ℕ)) (readers readers' : List (D × ℕ)) (writer writer' : E × ℕ) : Type 0 where
  pub read : AreReadWhole remaining readers readers'
  pub kept : writer'.1 ≡ writer.1

-- how a merge of files ends: each file was read whole and no write failed, or it was refused
abbrev pub EndsMerge : {D E X : Type 0} → (D → Option (List ℕ)) → (E → Option (List ℕ)) → List (D × ℕ) → List (D × ℕ) → E × ℕ → E × ℕ → Result X Refusal → Type 0
EndsMerge remaining contents readers readers' writer writer' (Ok x) = IsMerged remaining readers readers' writer writer'
EndsMerge remaining contents readers readers' writer writer' (Err e) = EndsUnmerged remaining contents readers readers' writer writer' e
