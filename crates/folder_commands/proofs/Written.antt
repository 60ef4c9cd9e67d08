-- What was written to memory is a file, whole.
use Rattle.std.specs.Prelude.{◌≡◌, ℕ, Bool, true, false, List, [], ◌++◌, Some, Ok}
use Rattle.std.proofs.Common.{sym, ap, ◌∙◌}
use Rattle.replica_store.specs.Replica.{Replica}
use Rattle.replica_reports.specs.Held.{held_in}
use Rattle.replica_changes.specs.Commands.{Puts, file_of, as_held}
use Rattle.folder_parts.specs.PartsPut.{WritesPart}

-- these bytes are the file of a replica, which is read as it
abbrev pub IsFileOf : List ℕ → Replica → Type 0
IsFileOf bytes r = (bytes ≡ file_of r) × (held_in (file_of r) ≡ Ok (as_held r))

-- what came to nothing
pub written_file : (start now written : List ℕ) (r : Replica) → start ≡ [] → now ≡ written → Puts true (Ok tt) (Some start) (Some now) r → IsFileOf written r
written_file start now written r nothing is put = (sym is ∙ put.0 ∙ ap (λ (l : List ℕ). l ++ file_of r) nothing, put.1)

-- the same of a part, if there is one
pub written_part : (is_some : Bool) (start now written : List ℕ) (part : Replica) → start ≡ [] → now ≡ written → WritesPart is_some (Some start) (Some now) part → is_some ≡ true → IsFileOf written part
written_part true start now written part nothing is put some = (sym is ∙ put.0 ∙ ap (λ (l : List ℕ). l ++ file_of part) nothing, put.1)
written_part false start now written part nothing is put some = cc
