-- Offers and files in bytes: batches and deleted rows as a container, and the canonical file of a table's rows and deletions.
use Rattle.std.specs.Prelude.{◌≡◌, ℕ, suc, ◌+◌, ◌≤◌, ◌<◌, Bool, IsTrue, cond, ◌&&◌, ◌==◌, List, [], ◌∷◌, length, slice_index_or, Option, Some, None, Result, Ok, Err, map as each}
use Rattle.std.specs.List.{All}
use Rattle.std.specs.FinMap as map
use Rattle.std.specs.FinSet as set
use Rattle.table_model.specs.Name.{name_cmp, row_name_cmp, is_proper_name}
use Rattle.table_model.specs.State.{State, Batch}
use Rattle.table_model.specs.Table.{Table, IsTable}
use Rattle.table_model.specs.declared.names.BatchName.{BatchName}
use Rattle.table_model.specs.declared.names.RowName.{RowName}
use Rattle.table_model.specs.declared.names.Origin.{Origin}
use Rattle.table_model.specs.declared.refusal.Refusal.{Refusal}
use Rattle.table_model.specs.declared.refusal.Refusal.TheVariants.{Memory, BadName, NotCanonical}
use Rattle.catalogue_join.specs.RowRange.{RowRange, AreMaximal, rows_in as rows_deleted}
use Rattle.table_model.specs.Reading.{◌>>=◌}
use Rattle.segment_core.specs.Format.{read_whole, Writes}
use Rattle.table_model.specs.Identifier.{same_text}
use Rattle.segment_core.specs.Segment.{SegmentForm, batch_of, widths_in, canonical_forms, canonical_segment, canonical_again}
use Rattle.segment_core.specs.SegmentBytes.{HasBytesIn}
use Rattle.replica_store.specs.Segments.{rows_in}
use Rattle.replica_store.specs.Segments.{Entry as Held}
use Rattle.replica_store.specs.Exchange.{OfferForm, offering, AreOffered, SummaryForm, AreListable}
use Rattle.replica_store.specs.Replica.{Replica, IsWithinLimits}
use Rattle.column_file.specs.Ordered.{in_order}
use Rattle.column_file.specs.SummaryBytes.{summary_bytes, summary_read}
use Rattle.column_file.specs.ContainerBytes.{Entry, entry_of, Deleted, deleted_of, container, IsFound}

-- an entry's segment, whose rows are those that its vectors represent
abbrev pub held_of : Entry → Held
held_of e = (e.0, record { rows = batch_of e.1.0 e.1.1; forms = e.1.1 })

-- deleted rows as a range of rows
abbrev pub range_of : Deleted → RowRange
range_of d = (record { batch = d.0; ordinal = d.1.0 }, d.1.1)

-- the segments of entries
abbrev pub segments_of : List Entry → map.FinMap name_cmp SegmentForm
segments_of entries = map.from_sorted (each held_of entries)

-- the first place where two texts differ, or the length of the shorter where it is a front of the other
abbrev pub first_difference : List ℕ → List ℕ → ℕ
first_difference [] ys = 0
first_difference (x ∷ xs) [] = 0
first_difference (x ∷ xs) (y ∷ ys) = cond (x == y) (suc (first_difference xs ys)) 0

-- what a container holds: a table's batches and deleted rows
abbrev pub offer_held : Table × (List Entry × List Deleted) → OfferForm
offer_held c =
    record { schema = c.0; state = record { batches = rows_in (segments_of c.1.0); deleted = rows_deleted (each range_of c.1.1) }; segments = segments_of c.1.0 }

-- the offer that bytes are, or their first fault
abbrev pub offer_read : List ℕ → Result OfferForm Refusal
offer_read bytes = read_whole container bytes >>= λ c. Ok (offer_held c)

-- a range of rows that was given: its batch's name is proper, and it is not empty
pub record IsRangeGiven (r : RowRange) : Type 0 where
  pub proper : IsTrue (is_proper_name r.0.batch)
  pub not_empty : r.0.ordinal ≤ r.1

-- whether a row comes just before another one of its batch
abbrev pub is_just_before : RowName → RowName → Bool
is_just_before q r = q.batch.origin.0 == r.batch.origin.0 && (q.batch.number.0 == r.batch.number.0 && q.ordinal + 1 == r.ordinal)

-- one more row before ranges: the first of them begins with it, or it is a range by itself
abbrev pub with_row : RowName → List RowRange → List RowRange
with_row q [] = (q, q.ordinal) ∷ []
with_row q (r ∷ rs) = cond (is_just_before q r.0) ((q, r.1) ∷ rs) ((q, q.ordinal) ∷ r ∷ rs)

-- rows in ascending order, gathered into ranges that don't touch
abbrev pub gathered : List RowName → List RowRange
gathered [] = []
gathered (q ∷ qs) = with_row q (gathered qs)

-- the maximal ranges of a set of rows
unfoldable pub ranges_of : set.FinSet row_name_cmp → List RowRange
ranges_of rows = gathered (in_order row_name_cmp rows)

-- the container of a table's batches, in ascending order, and its deleted rows, as maximal ranges
unfoldable pub file_of : Table → List Held → set.FinSet row_name_cmp → List ℕ
file_of table entries deleted = container.spell (table, (each entry_of entries, each deleted_of (ranges_of deleted)))

-- the bytes of an offer: its batches with their present codings
abbrev pub offer_bytes : OfferForm → List ℕ
offer_bytes o = file_of o.schema (map.entries o.segments) o.state.deleted

-- a batch's canonical segment with its name
abbrev pub canonical_entry : Table → BatchName × Batch → Held
canonical_entry table e = (e.0, canonical_segment table e.1)

-- the canonical file of a table's rows and deletions: canonical vectors everywhere, and maximal ranges
abbrev pub canonical_file : Table → State → List ℕ
canonical_file table state = file_of table (each (canonical_entry table) (map.entries state.batches)) state.deleted

-- segments are the canonical ones of a table's batches
abbrev pub AreCanonicalOf : Table → map.FinMap name_cmp Batch → map.FinMap name_cmp SegmentForm → Type 0
AreCanonicalOf table batches segments = map.entries segments ≡ each (canonical_entry table) (map.entries batches)

-- a batch that is held, as the canonical file has it
abbrev pub canonical_as_read : Table → Held → Entry
canonical_as_read table e = entry_of (canonical_entry table (e.0, e.1.rows))

-- the copy that was made of a segment, or the segment itself where none was
abbrev pub chosen : SegmentForm → Option SegmentForm → SegmentForm
chosen s None = s
chosen s (Some made) = made

-- canonical copies were made of the segments that aren't canonical
pub record AreChosen (entries : List Held) (made : List (Option SegmentForm)) : Type 0 where
  pub long : length made ≡ length entries
  pub each_one : (i : ℕ) (d : Held) → i < length entries → chosen (slice_index_or entries i d).1 (slice_index_or made i None) ≡ canonical_again (slice_index_or entries i d).1

-- a batch's segment is canonical at its own lane widths
abbrev pub IsCanonicalHeld : Held → Type 0
IsCanonicalHeld e = e.1.forms ≡ canonical_forms (widths_in e.1.forms) e.1.rows

-- whether two ranges are the same
abbrev pub is_same_range : RowRange → RowRange → Bool
is_same_range a b =
    a.0.batch.origin.0 == b.0.batch.origin.0 && (a.0.batch.number.0 == b.0.batch.number.0 && (a.0.ordinal == b.0.ordinal && a.1 == b.1))

-- A call that writes bytes and may run out of memory: if memory runs out, nothing is written.
abbrev pub Exports : Result (Unit {0}) Refusal → Option (List ℕ) → Option (List ℕ) → ℕ → ℕ → List ℕ → Type 0
Exports (Err Memory) old new before after bytes = (new ≡ old) × (after ≡ before)
Exports other old new before after bytes = Writes other old new before after bytes

-- whether the bytes are the canonical file of what they hold, and else the first place that differs
abbrev pub judged : List ℕ → OfferForm → Result OfferForm Refusal
judged bytes o =
    let file = canonical_file o.schema o.state in
    cond (same_text bytes file) (Ok o) (Err (NotCanonical (first_difference bytes file)))

-- the table's batches and deleted rows that a canonical file holds, or the first fault
abbrev pub canonical_read : List ℕ → Result OfferForm Refusal
canonical_read bytes = offer_read bytes >>= judged bytes

-- open: the replica of an own origin, at least 1, that a canonical file holds
abbrev pub opened_from : Origin → List ℕ → Result Replica Refusal
opened_from own bytes = cond (own.0 == 0) (Err BadName) (canonical_read bytes >>= λ o. Ok (offering own o))

-- check: how many batches and maximal ranges a canonical file has
abbrev pub checked_from : List ℕ → Result (ℕ × ℕ) Refusal
checked_from bytes = canonical_read bytes >>= λ o. Ok (map.len o.state.batches, length (ranges_of o.state.deleted))

-- ---- laws

-- a name's origin and number are in their ranges
pub record IsNumbered (name : BatchName) : Type 0 where
  pub origin : name.origin.0 < 4294967296
  pub number : name.number.0 < 4294967296

-- the names of batches are in their ranges
abbrev pub AreNumbered : List Held → Type 0
AreNumbered entries = All (λ (e : Held). IsNumbered e.0) entries

-- What a table's state has that has a file: a schema, batches within the limits, whose names are numbered, and deleted rows in maximal
-- ranges, not more than 8 bytes count.
pub record HasFile (table : Table) (state : State) : Type 0 where
  pub schema : IsTable table
  pub within : IsWithinLimits table state.batches
  pub names : All (λ e. IsNumbered e.0) (map.entries state.batches)
  pub ranges : List RowRange
  pub maximal : AreMaximal ranges
  pub rows : rows_deleted ranges ≡ state.deleted
  pub count : length ranges < 18446744073709551616

-- what a file is opened to: the table and the state that it was exported from, in canonical segments
abbrev pub OpensTo : List ℕ → Table → State → Type 0
OpensTo bytes table state =
    (o : OfferForm) × (canonical_read bytes ≡ Ok o) × (o.schema ≡ table) × (o.state ≡ state) × AreCanonicalOf table state.batches o.segments

-- a canonical file opens to its table and state
abbrev pub FilesOpen : Type 0
FilesOpen = (table : Table) (state : State) → HasFile table state → OpensTo (canonical_file table state) table state

-- tables and states with the same canonical file are the same
abbrev pub SameFileSameState : Type 0
SameFileSameState =
    (s t : Table) (a b : State) → HasFile s a → HasFile t b → canonical_file s a ≡ canonical_file t b → (s ≡ t) × (a ≡ b)

-- a file opens to one table and one state
abbrev pub FilesOpenToOne : Type 0
FilesOpenToOne = (bytes : List ℕ) (s t : Table) (a b : State) → OpensTo bytes s a → OpensTo bytes t b → (s ≡ t) × (a ≡ b)

-- A held batch has bytes that come back: a store may hold it, its rows are those that its vectors represent, which have bytes, and
-- its name is numbered.
pub record HasBatchBytes (table : Table) (e : Held) : Type 0 where
  pub found : IsFound table e
  pub columns : HasBytesIn table e.1
  pub numbered : IsNumbered e.0

-- What an offer has that has bytes: a schema, batches within the limits, which are those of its state and have bytes, and deleted rows
-- in maximal ranges, not more than 8 bytes count.
pub record HasOfferBytes (o : OfferForm) : Type 0 where
  pub schema : IsTable o.schema
  pub offered : AreOffered o.schema (map.entries o.segments)
  pub rows : o.state.batches ≡ rows_in o.segments
  pub batches : All (HasBatchBytes o.schema) (map.entries o.segments)
  pub ranges : List RowRange
  pub maximal : AreMaximal ranges
  pub deleted : rows_deleted ranges ≡ o.state.deleted
  pub count : length ranges < 18446744073709551616

-- the bytes of an offer are read as that offer, codings included
abbrev pub OffersAreReadAgain : Type 0
OffersAreReadAgain = (o : OfferForm) → HasOfferBytes o → offer_read (offer_bytes o) ≡ Ok o

-- What a summary has that has bytes: a schema, and names that a summary may have, which are numbered.
pub record HasSummaryBytes (s : SummaryForm) : Type 0 where
  pub schema : IsTable s.schema
  pub listable : AreListable s.names
  pub numbered : (name : BatchName) → IsTrue (set.contains s.names name) → IsNumbered name

-- the bytes of a summary are read as that summary
abbrev pub SummariesAreReadAgain : Type 0
SummariesAreReadAgain = (s : SummaryForm) → HasSummaryBytes s → summary_read (summary_bytes s) ≡ Ok s
