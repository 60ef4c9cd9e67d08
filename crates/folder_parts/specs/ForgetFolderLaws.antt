-- The laws of folders in which batches were forgotten: what such a folder represents, what a pack and a forget of it keep, and that what
-- they put may take the place of the parts that it was made of.
use Rattle.std.specs.Prelude.{◌≡◌, ◌⊎◌, ◌↔◌, ℕ, true, List, [], ◌∷◌, ◌++◌, map as each, Option, Ok}
use Rattle.std.specs.Io.KnownBytes.{Appends}
use Rattle.table_model.specs.Operation.{Operation, AreAgreeing, SameOperations}
use Rattle.table_model.specs.State.{live_rows}
use Rattle.table_model.specs.Table.{Table}
use Rattle.replica_store.specs.Forgotten.{forgotten}
use Rattle.replica_store.specs.Replica.{Replica}
use Rattle.store_view.specs.Asked.{query_answer}
use Rattle.replica_reports.specs.Held.{held_in}
use Rattle.replica_changes.specs.Commands.{file_of, as_held, merged_files}
use Rattle.replica_changes.specs.ForgetFileLaws.{StandsFor, EachStandsFor}
use Rattle.replica_changes.specs.FileLaws.{all_of}
use Rattle.replica_changes.specs.Forgetting.{forgetting}
use Rattle.folder_parts.specs.FolderLaws.{Joins, FolderHolds, folder_operations, IsOneOf}
use Rattle.folder_parts.specs.Folders.{Within, Event, Comes, Goes, Came, IsThere, IsHeld, WasBrought, NothingIsLostThere}
use Rattle.folder_parts.specs.Packing.{is_removed}
use Rattle.folder_parts.specs.PartName.{part_name}

-- a folder's files, of which there is at least one, represent a set of operations at each place, and no name has two lists of rows in all of them
pub record FolderStandsFor (first : List ℕ) (others : List (List ℕ)) (table : Table) (ops : List Operation) (sets : List (List Operation)) : Type 0 where
  pub head : StandsFor first table ops
  pub rest : EachStandsFor others table sets
  pub agree : AreAgreeing (folder_operations ops sets)

-- files of which the join, without the batches of which every row is deleted, is a replica, whose own file is read as it
pub record Forgets (first : List ℕ) (others : List (List ℕ)) (new : Replica) : Type 0 where
  pub whole : Replica
  pub dropped : ℕ × ℕ
  pub made : merged_files first others ≡ Ok whole
  pub forgot : forgetting whole ≡ Ok (dropped, new)
  pub read : held_in (file_of new) ≡ Ok (as_held new)

-- what was written is one file, which represents these operations
abbrev pub AppendsStanding : Option (List ℕ) → Option (List ℕ) → Table → List Operation → Type 0
AppendsStanding before now table ops = (part : List ℕ) × Appends before now part × StandsFor part table ops

-- what a folder holds it represents, if its files are joined
abbrev pub HeldStands : Type 0
HeldStands =
    (first : List ℕ) (others : List (List ℕ)) (table : Table) (ops : List Operation) (sets : List (List Operation)) (new : Replica) →
    FolderHolds first others table ops sets → Joins first others new → FolderStandsFor first others table ops sets

-- the joined file of some files represents what they represent
abbrev pub JoinStands : Type 0
JoinStands =
    (first : List ℕ) (others : List (List ℕ)) (table : Table) (ops : List Operation) (sets : List (List Operation)) (new : Replica) →
    FolderStandsFor first others table ops sets → Joins first others new → StandsFor (file_of new) table (folder_operations ops sets)

-- so does what a forget leaves of their join
abbrev pub ForgetStands : Type 0
ForgetStands =
    (first : List ℕ) (others : List (List ℕ)) (table : Table) (ops : List Operation) (sets : List (List Operation)) (new : Replica) →
    FolderStandsFor first others table ops sets → Forgets first others new → StandsFor (file_of new) table (folder_operations ops sets)

-- folders that represent the same have the same bytes once each is joined and has forgotten
abbrev pub SameForgottenFolders : Type 0
SameForgottenFolders =
    (first second : List ℕ) (others more : List (List ℕ)) (table : Table) (ops others_ops : List Operation) (sets more_sets : List (List Operation)) (one two : Replica) →
    FolderStandsFor first others table ops sets → FolderStandsFor second more table others_ops more_sets → Forgets first others one → Forgets second more two →
    SameOperations (folder_operations ops sets) (folder_operations others_ops more_sets) → file_of one ≡ file_of two

-- and a folder and a file that represent the same have the same bytes once each has forgotten
abbrev pub FolderForgetsAsFile : Type 0
FolderForgetsAsFile =
    (first : List ℕ) (others : List (List ℕ)) (file : List ℕ) (table : Table) (ops file_ops : List Operation) (sets : List (List Operation)) (one held left : Replica) (dropped : ℕ × ℕ) →
    FolderStandsFor first others table ops sets → Forgets first others one → StandsFor file table file_ops → held_in file ≡ Ok held → forgetting held ≡ Ok (dropped, left) →
    SameOperations (folder_operations ops sets) file_ops → file_of one ≡ file_of left

-- two replicas have the same live rows, give the same answers, and are the same once both have forgotten
pub record AreAlike (one two : Replica) : Type 0 where
  pub rows : live_rows one.state ≡ live_rows two.state
  pub answers : (sql : List ℕ) → query_answer sql one.schema one.state ≡ query_answer sql two.schema two.state
  pub left : forgotten one.state ≡ forgotten two.state

-- A forget: the file that it leaves of some files, next to those and the other files, and alone with the other files, leaves the folder's
-- rows and answers as they were.
abbrev pub ForgetKeeps : Type 0
ForgetKeeps =
    (first : List ℕ) (others rest : List (List ℕ)) (table : Table) (ops : List Operation) (sets rest_sets : List (List Operation)) (left before beside after : Replica) →
    FolderStandsFor first others table ops sets → EachStandsFor rest table rest_sets → AreAgreeing (all_of rest_sets ++ folder_operations ops sets) → Forgets first others left →
    merged_files first (others ++ rest) ≡ Ok before → merged_files (file_of left) (first ∷ others ++ rest) ≡ Ok beside → merged_files (file_of left) rest ≡ Ok after →
    AreAlike beside before × AreAlike after before

-- ---- what is removed

-- each file came at some time
abbrev pub AllCame : List (List ℕ) → List Event → Type 0
AllCame [] events = Unit {0}
AllCame (file ∷ files) events = Came file events × AllCame files events

-- Each file that came is given what it represents of all that was ever inserted and deleted, in which no name has two lists of rows: as
-- much as it may represent.
pub record IsGiven (table : Table) (world : List Operation) (stands : List ℕ → List Operation) (events : List Event) : Type 0 where
  pub agree : AreAgreeing world
  pub stands_for : (file : List ℕ) → Came file events → StandsFor file table (stands file)
  pub within : (file : List ℕ) → Came file events → Within (stands file) world
  pub most : (file : List ℕ) (ops : List Operation) → Came file events → StandsFor file table ops → Within ops world → Within ops (stands file)

-- A file is removed by a pack or a forget: it was joined, the rule says that it is removed by its name, and what was made of the joined
-- files is there.
pub record IsReplaced (gone : List ℕ) (events : List Event) : Type 0 where
  pub first : List ℕ
  pub others : List (List ℕ)
  pub new : Replica
  pub came : AllCame (first ∷ others) events
  pub made : Joins first others new ⊎ Forgets first others new
  pub joined : IsOneOf gone (first ∷ others)
  pub removed : is_removed (each part_name (first ∷ others)) (part_name (file_of new)) (part_name gone) ≡ true
  pub there : IsThere (file_of new) events

-- each file that goes is removed by a pack or a forget; files come by anybody
abbrev pub AreReplaced : List Event → Type 0
AreReplaced [] = Unit {0}
AreReplaced (Comes file ∷ events) = AreReplaced events
AreReplaced (Goes file ∷ events) = IsReplaced file events × AreReplaced events

-- Then at every moment the files that are there represent all that any file that ever came represents.
abbrev pub ForgetsLoseNothing : Type 0
ForgetsLoseNothing =
    (table : Table) (world : List Operation) (stands : List ℕ → List Operation) (events : List Event) →
    IsGiven table world stands events → AreReplaced events → (op : Operation) → IsHeld stands op events ↔ WasBrought stands op events

-- the laws of folders that forget
pub record ForgetFolderLaws : Type 0 where
  pub holds : HeldStands
  pub join : JoinStands
  pub forget : ForgetStands
  pub same : SameForgottenFolders
  pub file : FolderForgetsAsFile
  pub keeps : ForgetKeeps
  pub kept : NothingIsLostThere
  pub replaced : ForgetsLoseNothing
