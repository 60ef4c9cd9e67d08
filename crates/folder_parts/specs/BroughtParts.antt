-- The parts that the laws of folders speak of are what commands bring to what all parts hold, or to an empty table.
use Rattle.std.specs.Prelude.{◌≡◌, ◌≢◌, ℕ, List, Some, None, Ok}
use Rattle.table_model.specs.Table.{Table}
use Rattle.table_model.specs.declared.names.BatchName.{BatchName}
use Rattle.table_model.specs.declared.names.RowName.{RowName}
use Rattle.replica_store.specs.Exchange.{OfferForm}
use Rattle.replica_store.specs.Replica.{Replica}
use Rattle.replica_changes.specs.CommandForms.{Import, Delete, DeleteRows, Apply, OfImport, OfDelete, OfDeleteRows, OfApply, brought, tagged}
use Rattle.replica_changes.specs.Loads.{LoadForm}
use Rattle.folder_parts.specs.PartsPut.{empty_replica, part_of_load, part_of_named_load, part_of_deletes, part_of_rows, part_of_offers}

-- an import under a drawn name, given heads alone
abbrev pub LoadIsBrought : Type 0
LoadIsBrought = (load : LoadForm) (words : List ℕ) → brought (Import load None words) (empty_replica load.schema) ≡ tagged OfImport (part_of_load load words)

-- an import under a given name; no random word matters
abbrev pub NamedLoadIsBrought : Type 0
NamedLoadIsBrought = (load : LoadForm) (name : BatchName) (words : List ℕ) (held : Replica) → brought (Import load (Some name) words) held ≡ tagged OfImport (part_of_named_load load name held)

-- a delete by a condition
abbrev pub DeletesAreBrought : Type 0
DeletesAreBrought = (text : List ℕ) (held : Replica) → brought (Delete text) held ≡ tagged OfDelete (part_of_deletes text held)

-- a delete of a range of rows, whatever is held
abbrev pub RowsAreBrought : Type 0
RowsAreBrought = (first : RowName) (last : ℕ) (held : Replica) → brought (DeleteRows first last) held ≡ tagged OfDeleteRows (part_of_rows held.schema first last)

-- and there is always something to put
abbrev pub RowsAreMore : Type 0
RowsAreMore = (table : Table) (first : RowName) (last : ℕ) (part : Replica) → part_of_rows table first last ≡ Ok (tt, part) → part ≢ empty_replica table

-- offers
abbrev pub OffersAreBrought : Type 0
OffersAreBrought = (offers : List OfferForm) (held : Replica) → brought (Apply offers) held ≡ tagged OfApply (part_of_offers offers held)

-- each part that the laws speak of is what a command brings
pub record PartsAreBrought : Type 0 where
  pub load : LoadIsBrought
  pub named : NamedLoadIsBrought
  pub deletes : DeletesAreBrought
  pub rows : RowsAreBrought
  pub more : RowsAreMore
  pub offers : OffersAreBrought
