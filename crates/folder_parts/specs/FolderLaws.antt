-- The laws of folders: a folder of parts of one table is what a merge of all of them makes, in any order; what may be removed from it;
-- and what each command's part brings it.
use Rattle.std.specs.Prelude.{◌≡◌, ◌⊎◌, ◌↔◌, ℕ, true, List, [], ◌∷◌, ◌++◌, length, map as each, Result, Ok, Err}
use Rattle.table_model.specs.Operation.{Operation, AreAgreeing, SameOperations, operations_of}
use Rattle.table_model.specs.Table.{Table}
use Rattle.table_model.specs.declared.names.BatchName.{BatchName}
use Rattle.table_model.specs.declared.names.RowName.{RowName}
use Rattle.table_model.specs.declared.refusal.Refusal.{Refusal}
use Rattle.replica_store.specs.Exchange.{OfferForm}
use Rattle.replica_store.specs.Replica.{Replica, rows_between}
use Rattle.replica_reports.specs.Held.{held_in}
use Rattle.replica_changes.specs.Commands.{file_of, as_held, merged_files}
use Rattle.replica_changes.specs.FileLaws.{Holds, EachHolds, all_of, replica_of, inserts, deletes, deletes_where, operations_in}
use Rattle.replica_changes.specs.Loads.{LoadForm, named_batches, name_of_some}
use Rattle.replica_changes.specs.declared.importing.Imported.{Imported}
use Rattle.folder_parts.specs.Folders.{Event, Comes, Goes, Came, IsCovered, IsHeld, WasBrought, NothingIsLost}
use Rattle.folder_parts.specs.Packing.{is_removed}
use Rattle.folder_parts.specs.PartName.{part_name}
use Rattle.folder_parts.specs.PartsPut.{part_of_load, part_of_named_load, part_of_deletes, part_of_rows, part_of_offers}

-- files that are joined to a replica, whose own file is read as it
pub record Joins (first : List ℕ) (others : List (List ℕ)) (new : Replica) : Type 0 where
  pub made : merged_files first others ≡ Ok new
  pub read : held_in (file_of new) ≡ Ok (as_held new)

-- a folder's files, of which there is at least one, hold a set of operations at each place
pub record FolderHolds (first : List ℕ) (others : List (List ℕ)) (table : Table) (ops : List Operation) (sets : List (List Operation)) : Type 0 where
  pub head : Holds first table ops
  pub rest : EachHolds others table sets

-- what all files of a folder hold
abbrev pub folder_operations : List Operation → List (List Operation) → List Operation
folder_operations ops sets = all_of sets ++ ops

-- two folders that hold the same are one: the file of their join is the same, byte for byte, and so is what is read of it
abbrev pub SameFolders : Type 0
SameFolders =
    (first second : List ℕ) (others more : List (List ℕ)) (table : Table) (ops others_ops : List Operation) (sets more_sets : List (List Operation)) (one two : Replica) →
    FolderHolds first others table ops sets → FolderHolds second more table others_ops more_sets → Joins first others one → Joins second more two →
    SameOperations (folder_operations ops sets) (folder_operations others_ops more_sets) →
    (file_of one ≡ file_of two) × (as_held one ≡ as_held two)

-- the joined file of some files holds what they hold
abbrev pub JoinHolds : Type 0
JoinHolds =
    (first : List ℕ) (others : List (List ℕ)) (table : Table) (ops : List Operation) (sets : List (List Operation)) (new : Replica) →
    FolderHolds first others table ops sets → Joins first others new → Holds (file_of new) table (folder_operations ops sets)

-- a pack: the file that some files are joined to, next to those and the other files, and alone with the other files, leaves the folder as it was
abbrev pub PackKeeps : Type 0
PackKeeps =
    (first : List ℕ) (others rest : List (List ℕ)) (table : Table) (ops : List Operation) (sets rest_sets : List (List Operation)) (packed before beside after : Replica) →
    FolderHolds first others table ops sets → EachHolds rest table rest_sets → Joins first others packed →
    Joins first (others ++ rest) before → Joins (file_of packed) (first ∷ others ++ rest) beside → Joins (file_of packed) rest after →
    (file_of beside ≡ file_of before) × (file_of after ≡ file_of before)

-- ---- what is removed

-- the operations that a file's bytes hold; none where they are no canonical file
abbrev pub operations_found : Result Replica Refusal → List Operation
operations_found (Ok r) = operations_of r.state
operations_found (Err e) = []

-- the operations that bytes hold; none if they are no canonical file
abbrev pub held_operations : List ℕ → List Operation
held_operations bytes = operations_found (held_in bytes)

-- a file is one of some
abbrev pub IsOneOf : List ℕ → List (List ℕ) → Type 0
IsOneOf file [] = ⊥
IsOneOf file (other ∷ others) = (file ≡ other) ⊎ IsOneOf file others

-- A file is removed by a pack: it was joined, the rule says that it is removed by its name, and the pack had come by then.
pub record IsPackedAway (gone : List ℕ) (events : List Event) : Type 0 where
  pub first : List ℕ
  pub others : List (List ℕ)
  pub table : Table
  pub ops : List Operation
  pub sets : List (List Operation)
  pub pack : Replica
  pub folder : FolderHolds first others table ops sets
  pub joins : Joins first others pack
  pub joined : IsOneOf gone (first ∷ others)
  pub removed : is_removed (each part_name (first ∷ others)) (part_name (file_of pack)) (part_name gone) ≡ true
  pub came : Came (file_of pack) events

-- so it holds less than the pack
abbrev pub PackedAreCovered : Type 0
PackedAreCovered = (gone : List ℕ) (events : List Event) → IsPackedAway gone events → IsCovered held_operations gone events

-- each file that goes is removed by a pack; files come by anybody
abbrev pub ArePackedAway : List Event → Type 0
ArePackedAway [] = Unit {0}
ArePackedAway (Comes file ∷ events) = ArePackedAway events
ArePackedAway (Goes file ∷ events) = IsPackedAway file events × ArePackedAway events

-- then all that ever came is held at every moment
abbrev pub PacksLoseNothing : Type 0
PacksLoseNothing = (events : List Event) → ArePackedAway events → (op : Operation) → IsHeld held_operations op events ↔ WasBrought held_operations op events

-- ---- what a command's part brings

-- a replica's file holds operations, as what was written of it is read as it
abbrev pub PartHolds : Replica → Table → List Operation → Type 0
PartHolds part table ops = held_in (file_of part) ≡ Ok (as_held part) → Holds (file_of part) table ops

-- it holds as much as brings some operations to what a folder holds
abbrev pub PartBrings : Replica → Table → List Operation → List Operation → Type 0
PartBrings part table ops more = (own : List Operation) × PartHolds part table own × SameOperations (own ++ ops) (more ++ ops)

-- a load under drawn names: the inserts of its batches under consecutive names
abbrev pub LoadPartHolds : Type 0
LoadPartHolds =
    (load : LoadForm) (words : List ℕ) (answer : Imported) (part : Replica) → part_of_load load words ≡ Ok (answer, part) →
    (first : BatchName) × (answer.first ≡ name_of_some (length load.batches) first) × PartHolds part load.schema (inserts (named_batches first load.batches))

-- a load under a given name, given a folder's operations
abbrev pub NamedPartBrings : Type 0
NamedPartBrings =
    (load : LoadForm) (first : BatchName) (table : Table) (ops : List Operation) (answer : Imported) (part : Replica) →
    AreAgreeing ops → part_of_named_load load first (replica_of table ops) ≡ Ok (answer, part) →
    PartBrings part table ops (inserts (named_batches first load.batches))

-- A load under a given name of which no batch is new, given a folder's operations: it brings nothing. The folder holds all that it inserts,
-- and no part is needed.
abbrev pub NamedLoadIdle : Type 0
NamedLoadIdle =
    (load : LoadForm) (first : BatchName) (table : Table) (ops : List Operation) (answer : Imported) (part : Replica) →
    AreAgreeing ops → part_of_named_load load first (replica_of table ops) ≡ Ok (answer, part) → answer.new ≡ 0 →
    SameOperations (inserts (named_batches first load.batches) ++ ops) ops

-- deletes by a condition: one for each row that it finds in the folder
abbrev pub DeletesPartHolds : Type 0
DeletesPartHolds =
    (text : List ℕ) (table : Table) (ops : List Operation) (count : ℕ) (part : Replica) → part_of_deletes text (replica_of table ops) ≡ Ok (count, part) →
    PartHolds part table (deletes_where text table ops)

-- deletes of a range
abbrev pub RowsPartHolds : Type 0
RowsPartHolds = (table : Table) (first : RowName) (last : ℕ) (part : Replica) → part_of_rows table first last ≡ Ok (tt, part) → PartHolds part table (deletes (rows_between first last))

-- offers, given a folder's operations
abbrev pub OffersPartBrings : Type 0
OffersPartBrings =
    (offers : List OfferForm) (table : Table) (ops : List Operation) (answer : ℕ × ℕ × ℕ) (part : Replica) →
    AreAgreeing ops → part_of_offers offers (replica_of table ops) ≡ Ok (answer, part) → PartBrings part table ops (operations_in offers)

-- a folder and a file that hold the same have the same bytes, once the folder is joined
abbrev pub FolderIsFile : Type 0
FolderIsFile =
    (first : List ℕ) (others : List (List ℕ)) (file : List ℕ) (table : Table) (ops file_ops : List Operation) (sets : List (List Operation)) (whole : Replica) →
    FolderHolds first others table ops sets → Joins first others whole → Holds file table file_ops → SameOperations (folder_operations ops sets) file_ops → file_of whole ≡ file

-- A folder to which a part came and a file that took the same have the same bytes, once the folder is joined.
abbrev pub FolderFollows : Type 0
FolderFollows =
    (first : List ℕ) (others : List (List ℕ)) (part file : List ℕ) (table : Table) (ops own more : List Operation) (sets : List (List Operation)) (whole : Replica) →
    FolderHolds first others table ops sets → Holds part table own → SameOperations (own ++ folder_operations ops sets) (more ++ folder_operations ops sets) →
    Joins part (first ∷ others) whole → Holds file table (more ++ folder_operations ops sets) → file_of whole ≡ file

-- the part of each command holds what the same command adds to a file
pub record PartLaws : Type 0 where
  pub load : LoadPartHolds
  pub named : NamedPartBrings
  pub idle : NamedLoadIdle
  pub deletes : DeletesPartHolds
  pub rows : RowsPartHolds
  pub offers : OffersPartBrings
  pub file : FolderIsFile
  pub follows : FolderFollows

-- the laws of folders
pub record FolderLaws : Type 0 where
  pub same : SameFolders
  pub join : JoinHolds
  pub pack : PackKeeps
  pub kept : NothingIsLost
  pub covered : PackedAreCovered
  pub packs : PacksLoseNothing
  pub parts : PartLaws
