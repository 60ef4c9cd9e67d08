-- The formats of version 1 as they were while it was the only one, and what version 2 keeps of them.
use Rattle.std.specs.Prelude.{◌≡◌, ℕ, ◌≤◌, nat_le, Bool, false, cond, ◌==◌, List, length, take, drop, codes, Option, Some, None, Result, Ok, Err, map as each}
use Rattle.std.specs.FinMap as map
use Rattle.std.specs.FinSet as set
use Rattle.byteorder.specs.Endian.{little_bytes}
use Rattle.table_model.specs.Identifier.{same_text}
use Rattle.table_model.specs.Name.{name_cmp, row_name_cmp}
use Rattle.table_model.specs.Reading.{◌>>=◌}
use Rattle.table_model.specs.State.{State}
use Rattle.table_model.specs.Table.{Table, ColumnShape}
use Rattle.table_model.specs.declared.names.BatchName.{BatchName}
use Rattle.table_model.specs.declared.names.Origin.{Origin}
use Rattle.table_model.specs.declared.schema.ColType.{ColType}
use Rattle.table_model.specs.declared.refusal.Refusal.{Refusal}
use Rattle.table_model.specs.declared.refusal.Refusal.TheVariants.{BadCount, BadSchema, BadMagic, BadVersion, BadName, NotCanonical}
use Rattle.segment_core.specs.Format.{Format, seen, checked, before, all, number, constant, read_whole}
use Rattle.replica_store.specs.Exchange.{OfferForm, SummaryForm, offering}
use Rattle.replica_store.specs.Replica.{Replica}
use Rattle.replica_store.specs.Segments.{Entry as Held}
use Rattle.column_file.specs.SchemaBytes.{name, tag_of, first_tag, type_tagged, is_new, column_count, has_tiny, version_of}
use Rattle.column_file.specs.SummaryBytes.{batch_name, summary_listed, summary_bytes, summary_read}
use Rattle.column_file.specs.ContainerBytes.{Entry, entry_of, batch, Deleted, deleted_of, ranges}
use Rattle.column_file.specs.Input.{IsUnread}
use Rattle.column_file.specs.Ordered.{in_order}
use Rattle.column_file.specs.Files.{ranges_of, canonical_entry, first_difference, offer_held, offer_bytes, offer_read, canonical_file, canonical_read, opened_from, HasFile, HasOfferBytes, HasSummaryBytes, AreCanonicalOf}

-- how many batches a container had at most, and names a summary
abbrev pub batch_limit_1 : ℕ
batch_limit_1 = 65536

-- a column's type
unfoldable pub column_type_1 : Format ColType
column_type_1 = seen (checked (number 1) first_tag (λ _. BadSchema)) type_tagged (λ t. Some (tag_of t))

-- a column, whose name is none of those before it
unfoldable pub column_1 : List ColumnShape → Format ColumnShape
column_1 front =
    checked (seen (before column_type_1 (λ _. name)) (λ p. record { name = p.1; column_type = p.0 }) (λ c. Some (c.column_type, c.name))) (is_new front) (λ _. BadSchema)

-- a schema
unfoldable pub schema_1 : Format Table
schema_1 =
    seen (before column_count (λ n. before name (λ _. all n column_1))) (λ p. record { name = p.1.0; columns = p.1.1 }) (λ t. Some (length t.columns, (t.name, t.columns)))

-- whether a number is the version's
abbrev pub is_version_1 : ℕ → Bool
is_version_1 n = n == 1

-- the version
unfoldable pub version_1 : Format ℕ
version_1 = checked (number 2) is_version_1 (λ _. BadVersion)

-- what each format begins with: its own four bytes, the version and a schema
unfoldable pub head_1 : List ℕ → Format Table
head_1 magic = seen (before (constant magic BadMagic) (λ _. before version_1 (λ _. schema_1))) (λ p. p.1.1) (λ t. Some (magic, (1, t)))

-- whether there are not too many names or batches
abbrev pub is_count_1 : ℕ → Bool
is_count_1 n = nat_le n batch_limit_1

-- how many names there are
unfoldable pub name_count_1 : Format ℕ
name_count_1 = checked (number 4) is_count_1 BadCount

-- names in strictly ascending order
unfoldable pub names_1 : Format (List BatchName)
names_1 = seen (before name_count_1 (λ n. all n batch_name)) (λ p. p.1) (λ found. Some (length found, found))

-- a summary: a schema and names
unfoldable pub summary_1 : Format (Table × List BatchName)
summary_1 = before (head_1 (codes "FLSM")) (λ _. names_1)

-- batches in strictly ascending order of name
unfoldable pub batches_1 : Table → Format (List Entry)
batches_1 table = seen (before name_count_1 (λ n. all n (batch table))) (λ p. p.1) (λ found. Some (length found, found))

-- a container: a schema, batches and ranges
unfoldable pub container_1 : Format (Table × (List Entry × List Deleted))
container_1 = before (head_1 (codes "FLCF")) (λ table. before (batches_1 table) (λ _. ranges))

-- the summary that bytes are, or their first fault
abbrev pub summary_read_1 : List ℕ → Result SummaryForm Refusal
summary_read_1 bytes = read_whole summary_1 bytes >>= λ p. Ok (summary_listed p)

-- the offer that bytes are, or their first fault
abbrev pub offer_read_1 : List ℕ → Result OfferForm Refusal
offer_read_1 bytes = read_whole container_1 bytes >>= λ c. Ok (offer_held c)

-- the container of a table's batches, in ascending order, and its deleted rows, as maximal ranges
unfoldable pub file_of_1 : Table → List Held → set.FinSet row_name_cmp → List ℕ
file_of_1 table entries deleted = container_1.spell (table, (each entry_of entries, each deleted_of (ranges_of deleted)))

-- the canonical file of a table's rows and deletions
abbrev pub canonical_file_1 : Table → State → List ℕ
canonical_file_1 table state = file_of_1 table (each (canonical_entry table) (map.entries state.batches)) state.deleted

-- whether the bytes are the canonical file of what they hold, and else the first place that differs
abbrev pub judged_1 : List ℕ → OfferForm → Result OfferForm Refusal
judged_1 bytes o =
    let file = canonical_file_1 o.schema o.state in
    cond (same_text bytes file) (Ok o) (Err (NotCanonical (first_difference bytes file)))

-- the table's batches and deleted rows that a canonical file holds, or the first fault
abbrev pub canonical_read_1 : List ℕ → Result OfferForm Refusal
canonical_read_1 bytes = offer_read_1 bytes >>= judged_1 bytes

-- open: the replica of an own origin, at least 1, that a canonical file holds
abbrev pub opened_from_1 : Origin → List ℕ → Result Replica Refusal
opened_from_1 own bytes = cond (own.0 == 0) (Err BadName) (canonical_read_1 bytes >>= λ o. Ok (offering own o))

-- What version 1 made of an input is what a call returned, seen by view; or the call ran out of memory or its reader failed. Nothing is said
-- of an input that version 1 refused, and of a reader that doesn't tell its bytes.
abbrev pub KeepsFirst : {X Y : Type 0} → (X → Y) → Result X Refusal → Option (List ℕ) → (List ℕ → Result Y Refusal) → Type 0
KeepsFirst view result None was = Unit {0}
KeepsFirst {Y = Y} view (Ok x) (Some input) was = (y : Y) → was input ≡ Ok y → view x ≡ y
KeepsFirst {Y = Y} view (Err e) (Some input) was = (y : Y) → was input ≡ Ok y → IsUnread e

-- ---- laws

-- the two bytes after a format's own four
abbrev pub version_field : List ℕ → List ℕ
version_field bytes = take 2 (drop 4 bytes)

-- the version that is written is 2 exactly where the table has a column of 8 bits, in files, offers and summaries
pub record VersionsAreWritten : Type 0 where
  pub files : (table : Table) (state : State) → version_field (canonical_file table state) ≡ little_bytes 2 (version_of table)
  pub offers : (o : OfferForm) → version_field (offer_bytes o) ≡ little_bytes 2 (version_of o.schema)
  pub summaries : (s : SummaryForm) → version_field (summary_bytes s) ≡ little_bytes 2 (version_of s.schema)

-- a state of a table without a column of 8 bits has exactly the file that it had in version 1
abbrev pub FirstFilesStay : Type 0
FirstFilesStay = (table : Table) (state : State) → has_tiny table ≡ false → canonical_file table state ≡ canonical_file_1 table state

-- a file that version 1 accepted holds what it held
abbrev pub FirstFilesHold : Type 0
FirstFilesHold = (bytes : List ℕ) (o : OfferForm) → canonical_read_1 bytes ≡ Ok o → canonical_read bytes ≡ Ok o

-- a file that version 1 opened is opened to the same replica
abbrev pub FirstFilesOpen : Type 0
FirstFilesOpen = (own : Origin) (bytes : List ℕ) (r : Replica) → opened_from_1 own bytes ≡ Ok r → opened_from own bytes ≡ Ok r

-- an offer that version 1 read is read as the same offer
abbrev pub FirstOffersAreRead : Type 0
FirstOffersAreRead = (bytes : List ℕ) (o : OfferForm) → offer_read_1 bytes ≡ Ok o → offer_read bytes ≡ Ok o

-- a summary that version 1 read is read as the same summary
abbrev pub FirstSummariesAreRead : Type 0
FirstSummariesAreRead = (bytes : List ℕ) (s : SummaryForm) → summary_read_1 bytes ≡ Ok s → summary_read bytes ≡ Ok s

-- ---- version 1 accepts what it wrote

-- the bytes of an offer in version 1: its batches with their present codings
abbrev pub offer_bytes_1 : OfferForm → List ℕ
offer_bytes_1 o = file_of_1 o.schema (map.entries o.segments) o.state.deleted

-- the bytes of a summary in version 1: its names in ascending order
abbrev pub summary_bytes_1 : SummaryForm → List ℕ
summary_bytes_1 s = summary_1.spell (s.schema, in_order name_cmp s.names)

-- A table's state that version 1 had a file for: it has one in this version, no column has 8 bits, and there are not more batches than version 1
-- had at most.
pub record HasFirstFile (table : Table) (state : State) : Type 0 where
  pub file : HasFile table state
  pub wide : has_tiny table ≡ false
  pub few : map.len state.batches ≤ batch_limit_1

-- an offer that had bytes in version 1
pub record HasFirstOffer (o : OfferForm) : Type 0 where
  pub bytes : HasOfferBytes o
  pub wide : has_tiny o.schema ≡ false
  pub few : map.len o.segments ≤ batch_limit_1

-- a summary that had bytes in version 1
pub record HasFirstSummary (s : SummaryForm) : Type 0 where
  pub bytes : HasSummaryBytes s
  pub wide : has_tiny s.schema ≡ false
  pub few : set.len s.names ≤ batch_limit_1

-- what version 1 opened a file to: the table and the state that it was exported from, in canonical segments
abbrev pub OpensFirst : List ℕ → Table → State → Type 0
OpensFirst bytes table state =
    (o : OfferForm) × (canonical_read_1 bytes ≡ Ok o) × (o.schema ≡ table) × (o.state ≡ state) × AreCanonicalOf table state.batches o.segments

-- version 1 accepted its own files: what it wrote for a table and a state it opened to these
abbrev pub FirstFilesComeBack : Type 0
FirstFilesComeBack = (table : Table) (state : State) → HasFirstFile table state → OpensFirst (canonical_file_1 table state) table state

-- so it read its own offers, codings included
abbrev pub FirstOffersComeBack : Type 0
FirstOffersComeBack = (o : OfferForm) → HasFirstOffer o → offer_read_1 (offer_bytes_1 o) ≡ Ok o

-- and its own summaries
abbrev pub FirstSummariesComeBack : Type 0
FirstSummariesComeBack = (s : SummaryForm) → HasFirstSummary s → summary_read_1 (summary_bytes_1 s) ≡ Ok s
