-- When the bytes of one file hold all that the bytes of another represent.
use Rattle.std.specs.Prelude.{◌≡◌, ◌⊎◌, ℕ, Bool, true, false, not, ◌&&◌, ◌||◌, List, Option, Some, None, Result, Ok}
use Rattle.std.specs.FinMap as map
use Rattle.std.specs.FinSet as set
use Rattle.std.specs.List.{list_all}
use Rattle.table_model.specs.Identifier.{same_text}
use Rattle.table_model.specs.State.{State, Batch, same_rows}
use Rattle.table_model.specs.Table.{same_table}
use Rattle.table_model.specs.declared.names.BatchName.{BatchName}
use Rattle.table_model.specs.declared.names.RowName.{RowName}
use Rattle.table_model.specs.declared.refusal.Refusal.{Refusal}
use Rattle.folder_model.specs.Parts.{Parts}
use Rattle.replica_store.specs.Forgotten.{has_live_row}
use Rattle.replica_store.specs.Replica.{Replica}
use Rattle.replica_reports.specs.Held.{held_in}
use Rattle.folder_parts.specs.PartName.{part_name}

-- whether the rows that a name has are these
abbrev pub are_held : Option Batch → Batch → Bool
are_held None rows = false
are_held (Some held) rows = same_rows held rows

-- whether a state has a batch with the same rows, or has all of its rows deleted
abbrev pub has_or_deletes : State → BatchName × Batch → Bool
has_or_deletes s e = are_held (map.get s.batches e.0) e.1 || not (has_live_row s.deleted e)

-- whether a state has all that another has: each deletion, and each batch with the same rows but for those of which it has every row deleted
unfoldable pub covers_state : State → State → Bool
covers_state s t = set.is_subset t.deleted s.deleted && list_all (has_or_deletes s) (map.entries t.batches)

-- whether what is read of one file has all that is read of another: both are files, and of one table
abbrev pub covers_found : Result Replica Refusal → Result Replica Refusal → Bool
covers_found (Ok one) (Ok other) = same_table one.schema other.schema && covers_state one.state other.state
covers_found one other = false

-- Whether a file covers another: it is the same, or it has all that the other has. What is no file covers itself alone.
unfoldable pub covers : List ℕ → List ℕ → Bool
covers file other = same_text file other || covers_found (held_in file) (held_in other)

-- the parts of a folder: a part is named by its bytes, and covers as its file does
abbrev pub folder_parts : Parts
folder_parts = record { name_of = part_name; covers = covers }

-- ---- the same in words

-- a state has all that another has
pub record HasAll (s t : State) : Type 0 where
  pub deleted : (row : RowName) → set.contains t.deleted row ≡ true → set.contains s.deleted row ≡ true
  pub batches : (name : BatchName) (rows : Batch) → map.get t.batches name ≡ Some rows → (map.get s.batches name ≡ Some rows) ⊎ (has_live_row s.deleted (name, rows) ≡ false)

-- two files of one table, of which the first has all that the second has
pub record HasAllOf (file other : List ℕ) : Type 0 where
  pub one : Replica
  pub two : Replica
  pub read : held_in file ≡ Ok one
  pub read_other : held_in other ≡ Ok two
  pub table : one.schema ≡ two.schema
  pub all : HasAll one.state two.state
