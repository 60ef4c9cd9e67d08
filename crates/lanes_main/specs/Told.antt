-- What a script has told its writer of what its reader gave, where readers and writers tell their bytes.
use Rattle.std.specs.Prelude.{◌≡◌, ℕ, ◌+◌, List, ◌++◌, length, Option, Some, None, Result, Ok, Err}
use Rattle.std.specs.Io.KnownBytes.{Appends}
use Rattle.table_model.specs.Faults.{AppendsFront, GaveMore, Failed}
use Rattle.table_model.specs.declared.refusal.Refusal.{Refusal}
use Rattle.table_model.specs.declared.refusal.Refusal.TheVariants.{ReadFault}
use Rattle.cluster_history.specs.Cluster.{ClusterParts}
use Rattle.replica_reports.specs.ReadAndWritten.{IsReadAndWritten}
use Rattle.lanes_main.specs.Script.{lines_text, whole_lines, script_text, text_from}

-- A part of the input with that number of bytes was read, and what was written is what the script's text begins with, whatever bytes
-- follow that part: what is still to come is the text from the part of a line that was read last.
abbrev pub Sofar : Option (List ℕ) → Option (List ℕ) → Option (List ℕ) → Option (List ℕ) → Option ClusterParts → List ℕ → ℕ → Type 0
Sofar None rest before now cluster part total = Unit {0}
Sofar (Some input) None before now cluster part total = ⊥
Sofar (Some input) (Some rest) before now cluster part total =
    (read : List ℕ) × (done : List ℕ) × (input ≡ read ++ rest) × (length read ≡ total) × Appends before now done × ((more : List ℕ) → script_text (read ++ more) ≡ done ++ text_from cluster part more)

-- a front of the script's text was written
abbrev pub ToldFront : Option (List ℕ) → Option (List ℕ) → Option (List ℕ) → Type 0
ToldFront None before now = Unit {0}
ToldFront (Some input) before now = AppendsFront before now (script_text input)

-- the whole text was written
abbrev pub ToldAll : Option (List ℕ) → Option (List ℕ) → Option (List ℕ) → Type 0
ToldAll None before now = Unit {0}
ToldAll (Some input) before now = Appends before now (script_text input)

-- a number of further bytes are read, their lines are answered, and the replies are written
abbrev pub GoesOn : Option (List ℕ) → Option (List ℕ) → Option (List ℕ) → Option (List ℕ) → Option ClusterParts → List ℕ → Option ClusterParts → List ℕ → ℕ → Type 0
GoesOn rest rest' now now' cluster part next part' n =
    (input before : Option (List ℕ)) (total : ℕ) → Sofar input rest before now cluster part total → Sofar input rest' before now' next part' (total + n)

-- what is written is still a front of the script's text
abbrev pub EndsEarly : Option (List ℕ) → Option (List ℕ) → Option (List ℕ) → Option ClusterParts → List ℕ → Type 0
EndsEarly rest now now' cluster part = (input before : Option (List ℕ)) (total : ℕ) → Sofar input rest before now cluster part total → ToldFront input before now'

-- a read that failed leaves what was told
abbrev pub StaysTold : Option (List ℕ) → Option (List ℕ) → Option (List ℕ) → Option (List ℕ) → Option ClusterParts → List ℕ → Type 0
StaysTold rest rest' now now' cluster part =
    (input before : Option (List ℕ)) (total : ℕ) → Sofar input rest before now cluster part total → Sofar input rest' before now' cluster part total

-- of the input a front was read, and what was written is the replies to the whole lines of that front, and nothing else
abbrev pub Reached : Option (List ℕ) → Option (List ℕ) → Option (List ℕ) → Option (List ℕ) → Type 0
Reached None rest before now = Unit {0}
Reached (Some input) None before now = ⊥
Reached (Some input) (Some rest) before now = (read : List ℕ) × (input ≡ read ++ rest) × Appends before now (lines_text None (whole_lines read))

-- ---- how a script ends

-- The script was told: its reader was read whole, no write failed, and the whole text was written.
pub record IsTold {D E : Type 0} (remaining : D → Option (List ℕ)) (contents : E → Option (List ℕ)) (reader reader' : D × ℕ) (writer writer' : E × ℕ) : Type 0 where
  pub text : ToldAll (remaining reader.0) (contents writer.0) (contents writer'.0)
  pub whole : IsReadAndWritten remaining reader reader' writer writer'

-- The script was stopped by memory or by a failed read or write: what was written is a front of its text; after a failed read it is the
-- replies to the whole lines that were read; and each failed read and write is counted.
pub record IsStopped {D E : Type 0} (remaining : D → Option (List ℕ)) (contents : E → Option (List ℕ)) (reader reader' : D × ℕ) (writer writer' : E × ℕ) (e : Refusal) : Type 0 where
  pub front : ToldFront (remaining reader.0) (contents writer.0) (contents writer'.0)
  pub reached : e ≡ ReadFault → Reached (remaining reader.0) (remaining reader'.0) (contents writer.0) (contents writer'.0)
  pub counts : Failed (GaveMore (remaining reader.0) (remaining reader'.0)) e reader.1 reader'.1 writer.1 writer'.1

-- how a script ends: it was told, or stopped
abbrev pub EndsScript : {D E X : Type 0} → (D → Option (List ℕ)) → (E → Option (List ℕ)) → D × ℕ → D × ℕ → E × ℕ → E × ℕ → Result X Refusal → Type 0
EndsScript remaining contents reader reader' writer writer' (Ok x) = IsTold remaining contents reader reader' writer writer'
EndsScript remaining contents reader reader' writer writer' (Err e) = IsStopped remaining contents reader reader' writer writer' e
