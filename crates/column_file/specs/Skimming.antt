-- What is read of a part without its values: its schema, the names of its batches, and its deleted rows.
use Rattle.std.specs.Prelude.{◌≡◌, ℕ, false, List, [], length, map, codes, None, Result, Ok}
use Rattle.std.specs.FinMap as finite
use Rattle.std.specs.FinSet as set
use Rattle.table_model.specs.Name.{row_name_cmp}
use Rattle.table_model.specs.Reading.{◌>>=◌}
use Rattle.table_model.specs.Table.{Table}
use Rattle.table_model.specs.declared.names.BatchName.{BatchName}
use Rattle.table_model.specs.declared.refusal.Refusal.{Refusal}
use Rattle.catalogue_join.specs.RowRange.{rows_in}
use Rattle.segment_core.specs.Format.{Format, AreBytes, seen, before, all, read_whole}
use Rattle.segment_core.specs.Segment.{widths_of}
use Rattle.replica_store.specs.Exchange.{OfferForm}
use Rattle.replica_store.specs.Replica.{names_of}
use Rattle.column_file.specs.SummaryBytes.{head, batch_name, name_count}
use Rattle.column_file.specs.ContainerBytes.{Entry, name_of, row_count, Deleted, ranges, container}
use Rattle.column_file.specs.Files.{range_of, canonical_read}
use Rattle.column_file.specs.Passing.{over_columns}

-- the name of a batch of a table, after the names before it, and what comes after the batch, whose values are passed over
unfoldable pub name_over : Table → List BatchName → ℕ → List ℕ → Result (BatchName × List ℕ) Refusal
name_over table front total bytes =
    (batch_name front).read total bytes >>= λ name. row_count.read total name.1 >>= λ rows. over_columns (widths_of table) rows.0 total rows.1 >>= λ rest. Ok (name.0, rest)

-- a batch as its name, which alone has no bytes
abbrev pub as_name : Table → List BatchName → Format BatchName
as_name table front = record { spell = λ _. []; valid = λ _. false; read = name_over table front }

-- the names of batches, in strictly ascending order
unfoldable pub names_over : Table → Format (List BatchName)
names_over table = seen (before name_count (λ n. all n (as_name table))) (λ p. p.1) (λ _. None)

-- a part without its values: a schema, names and ranges
unfoldable pub skimmed : Format (Table × (List BatchName × List Deleted))
skimmed = before (head (codes "FLCF")) (λ table. before (names_over table) (λ _. ranges))

-- what bytes are without their values, or the first fault of what is read of them: a schema, names and deleted rows
abbrev pub skim_in : List ℕ → Result (Table × (List BatchName × set.FinSet row_name_cmp)) Refusal
skim_in bytes = read_whole skimmed bytes >>= λ found. Ok (found.0, (found.1.0, rows_in (map range_of found.1.1)))

-- what is read of a container is skimmed so
abbrev pub SkimmedAsRead : Type 0
SkimmedAsRead =
    (bytes : List ℕ) (c : Table × (List Entry × List Deleted)) → read_whole container bytes ≡ Ok c → skim_in bytes ≡ Ok (c.0, (map name_of c.1.0, rows_in (map range_of c.1.1)))

-- what is skimmed of bytes that are a file: exactly its schema, the names of its batches, each once, and its deleted rows
pub record IsSkimmed (bytes : List ℕ) (o : OfferForm) : Type 0 where
  pub names : List BatchName
  pub found : skim_in bytes ≡ Ok (o.schema, (names, o.state.deleted))
  pub same_names : set.from_list names ≡ names_of o.state.batches
  pub count : length names ≡ finite.len o.state.batches

-- of bytes that open as a file exactly its schema, the names of its batches and its deleted rows are skimmed
abbrev pub FilesAreSkimmed : Type 0
FilesAreSkimmed = (bytes : List ℕ) (o : OfferForm) → AreBytes bytes → canonical_read bytes ≡ Ok o → IsSkimmed bytes o
