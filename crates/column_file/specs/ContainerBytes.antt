-- A container in bytes, which is a file or an offer: a schema, batches in ascending order of name, and ranges of deleted rows.
use Rattle.std.specs.Prelude.{◌≡◌, drop, ℕ, zero, suc, ◌-◌, nat_le, nat_lt, Bool, ◌&&◌, ◌||◌, ◌==◌, List, map, length, slice_index_or, codes, Option, Some, None}
use Rattle.table_model.specs.Name.{is_proper_name}
use Rattle.table_model.specs.Table.{Table}
use Rattle.table_model.specs.declared.names.BatchName.{BatchName}
use Rattle.table_model.specs.declared.refusal.Refusal.TheVariants.{BadName, BadOrder, BadRange}
use Rattle.catalogue_join.specs.RowRange.{RowRange}
use Rattle.segment_core.specs.CodedVector.{VectorForm}
use Rattle.segment_core.specs.Segment.{SegmentForm, batch_of}
use Rattle.replica_store.specs.Segments.{IsStored}
use Rattle.segment_core.specs.Format.{Format, IsLawful, seen, checked, before, all, number}
use Rattle.segment_core.specs.SegmentBytes.{batch_columns}
use Rattle.column_file.specs.SummaryBytes.{head, any_name, precedes, batch_name, name_count}

-- the number before another, if there is one
abbrev pub one_less : ℕ → Option ℕ
one_less zero = None
one_less (suc n) = Some n

-- how many rows a batch has, 1 to 65,536, which is written less one
unfoldable pub row_count : Format ℕ
row_count = seen (number 2) suc one_less

-- a batch: its name, how many rows it has, and its coded columns
abbrev pub Entry : Type 0
Entry = BatchName × (ℕ × List (List VectorForm))

-- an entry's name
abbrev pub name_of : Entry → BatchName
name_of e = e.0

-- a batch's segment with its name, as its entry
abbrev pub entry_of : BatchName × SegmentForm → Entry
entry_of e = (e.0, (length e.1.rows, e.1.forms))

-- a batch of a table, after the batches before it
unfoldable pub batch : Table → List Entry → Format Entry
batch table front = before (batch_name (map name_of front)) (λ _. before row_count (batch_columns table))

-- batches in strictly ascending order of name, at most batch_limit of them
unfoldable pub batches : Table → Format (List Entry)
batches table = seen (before name_count (λ n. all n (batch table))) (λ p. p.1) (λ found. Some (length found, found))

-- deleted rows: a batch's name, and the first and the last ordinal
abbrev pub Deleted : Type 0
Deleted = BatchName × (ℕ × ℕ)

-- a range of rows, as these
abbrev pub deleted_of : RowRange → Deleted
deleted_of r = (r.0.batch, (r.0.ordinal, r.1))

-- whether the batch's name is proper
abbrev pub is_named : Deleted → Bool
is_named r = is_proper_name r.0

-- whether the first ordinal is not past the last
abbrev pub is_range : Deleted → Bool
is_range r = nat_le r.1.0 r.1.1

-- whether rows begin after the end of other ones, in order of origin, number and ordinal
abbrev pub ends_before : Deleted → Deleted → Bool
ends_before a b = precedes a.0 b.0 || (a.0.origin.0 == b.0.origin.0 && (a.0.number.0 == b.0.number.0 && nat_lt a.1.1 b.1.0))

-- whether rows begin after the end of the last of those before them, if there are any
abbrev pub begins_after : List Deleted → Deleted → Bool
begins_after front r = length front == 0 || ends_before (slice_index_or front (length front - 1) r) r

-- a batch's name and two ordinals, whatever they are
unfoldable pub range_parts : Format Deleted
range_parts = before any_name (λ _. before (number 2) (λ _. number 2))

-- a range of deleted rows, after the ranges before it, whose fields are judged once all are there
unfoldable pub range : List Deleted → Format Deleted
range front = checked (checked (checked range_parts is_named (λ _. BadName)) is_range BadRange) (begins_after front) BadOrder

-- ranges in ascending order, which don't overlap
unfoldable pub ranges : Format (List Deleted)
ranges = seen (before (number 8) (λ n. all n range)) (λ p. p.1) (λ found. Some (length found, found))

-- a container: a schema, batches and ranges
unfoldable pub container : Format (Table × (List Entry × List Deleted))
container = before (head (codes "FLCF")) (λ table. before (batches table) (λ _. ranges))

-- a batch that was read: a store may hold it, and its rows are those that its vectors represent
pub record IsFound (table : Table) (e : BatchName × SegmentForm) : Type 0 where
  pub stored : IsStored table e
  pub rows : e.1.rows ≡ batch_of (length e.1.rows) e.1.forms

-- what is left of bytes once those before it were read
abbrev pub IsRest : List ℕ → List ℕ → Type 0
IsRest bytes rest = drop (length bytes - length rest) bytes ≡ rest

-- what is read of a container is spelled so and valid, and what is valid and spelled so is read
abbrev pub ContainersComeBack : Type 0
ContainersComeBack = IsLawful container
