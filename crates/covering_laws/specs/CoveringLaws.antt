-- The laws of covering of files, by the rule of a folder's parts: what each command makes of a file covers it, and so does what others make
-- of it in turn.
use Rattle.std.specs.Prelude.{◌≡◌, ◌⊎◌, ℕ, Bool, true, List, [], ◌∷◌, Option, Some, Ok, Contains}
use Rattle.table_model.specs.declared.names.RowName.{RowName}
use Rattle.replica_store.specs.Replica.{Replica}
use Rattle.replica_reports.specs.Held.{held_in}
use Rattle.replica_changes.specs.CommandForms.{CommandForm, AnswerForm, adding}
use Rattle.replica_changes.specs.Commands.{Made, file_of, as_held}
use Rattle.replica_changes.specs.Forgetting.{forgetting}
use Rattle.folder_parts.specs.Covers.{covers}
use Rattle.folder_parts.specs.FolderLaws.{Joins, IsOneOf}
use Rattle.file_protocol.specs.Event.{Event}
use Rattle.file_protocol.specs.Disk.{Disk, MayLeave}
use Rattle.file_protocol.specs.Safe.{Moment}
use Rattle.file_commands.specs.HeldDeletes.{deleted_if_held}
use Rattle.file_commands.specs.Homes.{Covering, Covers, IsCovered, OthersCover, LaterInFile}
use Rattle.file_commands.specs.Throughout.{BeforeOrAfterThroughout}

-- ---- what files are made of

-- a command makes a replica of another
pub data IsMadeBy (old new : Replica) : Type 0 where
  Adding : (command : CommandForm) (answer : AnswerForm) → adding command old ≡ Ok (answer, new) → IsMadeBy old new
  DeletingHeld : (first : RowName) (last : ℕ) (is_held : Bool) → deleted_if_held old first last ≡ Ok (is_held, new) → IsMadeBy old new
  Forgetting : (dropped : ℕ × ℕ) → forgetting old ≡ Ok (dropped, new) → IsMadeBy old new

-- A file is made of another one: by a command, of what is read of the other; or by a merge of files of which the other is one.
pub data IsMadeOf (file other : List ℕ) : Type 0 where
  ByCommand : (old new : Replica) → other ≡ file_of old → held_in (file_of old) ≡ Ok old → IsMadeBy old new → held_in (file_of new) ≡ Ok (as_held new) → file ≡ file_of new → IsMadeOf file other
  ByMerge : (first : List ℕ) (others : List (List ℕ)) (whole : Replica) → IsOneOf other (first ∷ others) → Joins first others whole → file ≡ file_of whole → IsMadeOf file other

-- A file is there that is made of one that was there before, or that was put there since.
abbrev pub IsMadeThere : (Option (List ℕ) → Type 0) → List (Option (List ℕ)) → Option (List ℕ) → Type 0
IsMadeThere Was since left = (file : List ℕ) × (other : List ℕ) × (left ≡ Some file) × IsMadeOf file other × (Was (Some other) ⊎ Contains since (Some other))

-- What was put in a file's place, the last one first: each was made of what was there before, or of what was put there since.
abbrev pub AreMadeInTurn : (Option (List ℕ) → Type 0) → List (Option (List ℕ)) → Type 0
AreMadeInTurn Was [] = Unit {0}
AreMadeInTurn Was (left ∷ since) = IsMadeThere Was since left × AreMadeInTurn Was since

-- ---- the laws

-- this is the rule by which a part of a folder covers another
abbrev pub IsOfParts : Covering → Type 0
IsOfParts covering = (file other : List ℕ) → covering.covers file other ≡ covers file other

-- what is made of a file covers it
abbrev pub MadeCovers : Covering → Type 0
MadeCovers covering = (file other : List ℕ) → IsMadeOf file other → covering.covers file other ≡ true

-- What others put there covers what was safe, if each made it of what a crash could leave, or of what one of them had put.
abbrev pub OthersMakeCovering : Covering → Type 0
OthersMakeCovering covering = (name : List ℕ) (laters : List (Option (List ℕ))) (d : Disk) → AreMadeInTurn (MayLeave d name) laters → OthersCover covering name laters d

-- Once new bytes are there, what others make of them covers them.
abbrev pub LatersCover : Covering → Type 0
LatersCover covering =
    (new : List ℕ) (laters : List (Option (List ℕ))) → AreMadeInTurn (λ left. left ≡ Some new) laters → (left : Option (List ℕ)) → Contains laters left → IsCovered covering new left

-- each moment of a command, from whatever disk it took the lock on, is a later one, if others make what they put of what is there
abbrev pub KeepsFile : {Y : Type 0} → Covering → (Replica → Made Y) → Type 0
KeepsFile covering command =
    (lock name : List ℕ) (before after : List Event) (told : BeforeOrAfterThroughout command lock name before after) (laters : List (Option (List ℕ))) (d e : Disk) →
    Moment lock name laters told.0 d e → AreMadeInTurn (MayLeave d name) laters → LaterInFile covering name d e

-- the file that a command makes covers the one that it reads, and each moment of the command keeps what was safe
pub record CoversAndKeeps {Y : Type 0} (covering : Covering) (command : Replica → Made Y) : Type 0 where
  pub covers : Covers covering command
  pub keeps : KeepsFile covering command

-- the laws of covering of files
pub record CoveringLaws : Type 0 where
  pub covering : Covering
  pub of_parts : IsOfParts covering
  pub itself : (file : List ℕ) → covering.covers file file ≡ true
  pub made : MadeCovers covering
  pub others : OthersMakeCovering covering
  pub laters : LatersCover covering
  pub change : (command : CommandForm) → CoversAndKeeps covering (adding command)
  pub delete_held_rows : (first : RowName) (last : ℕ) → CoversAndKeeps covering (λ r. deleted_if_held r first last)
  pub forget : CoversAndKeeps covering forgetting
