-- What a dump wrote, read again and imported.
use Rattle.std.specs.Prelude.{◌≡◌, [], true, false, Ok}
use Rattle.table_model.specs.State.{Batch, live_rows}
use Rattle.table_model.specs.declared.names.BatchName.{BatchName}
use Rattle.replica_store.specs.Replica.{Replica}
use Rattle.column_file.specs.Files.{HasFile}
use Rattle.csv_rows.specs.CsvText.{csv_rows}
use Rattle.replica_changes.specs.CsvLoads.{AreCut}
use Rattle.replica_reports.specs.Dumps.{cells_of, dumping}
use Rattle.replica_changes.specs.FileLaws.{replica_of}
use Rattle.replica_changes.specs.Loads.{LoadForm, importing_as}
use Rattle.replica_changes.specs.declared.importing.Imported.{Imported}

-- What a dump of a replica writes is read as its live rows, in their order. A new file to which these are imported, cut into batches
-- under consecutive names, has the same live rows, in the same order.
pub record DumpLaws : Type 0 where
  pub read : (old : Replica) → HasFile old.schema old.state → csv_rows old.schema true (dumping false old) ≡ Ok (cells_of (live_rows old.state))
  pub import : (old new : Replica) (rows : Batch) (load : LoadForm) (first : BatchName) (answer : Imported) →
      HasFile old.schema old.state → csv_rows old.schema true (dumping false old) ≡ Ok rows → AreCut rows load.batches →
      importing_as load first (replica_of old.schema []) ≡ Ok (answer, new) → cells_of (live_rows new.state) ≡ cells_of (live_rows old.state)
