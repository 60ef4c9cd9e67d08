-- The bytes of a container's parts.
use Rattle.std.proofs.Common.{◌≡◌, ℕ, zero, suc, ◌-◌, ◌≤◌, List, [], ◌++◌, map, length, codes, refl, sym, ap, ◌∙◌, arith}
use Rattle.table_model.specs.Table.{Table}
use Rattle.table_model.specs.declared.names.BatchName.{BatchName}
use Rattle.catalogue_join.specs.RowRange.{RowRange}
use Rattle.segment_core.specs.Format.{number, all}
use Rattle.segment_core.specs.Segment.{SegmentForm, IsSegment, batch_of, widths_in, widths_of}
use Rattle.segment_core.specs.SegmentBytes.{batch_columns, columns, segment_bytes}
use Rattle.column_file.specs.SummaryBytes.{head, proper_name, batch_name, name_count}
use Rattle.column_file.specs.ContainerBytes.{row_count, Entry, entry_of, name_of, batch, batches, Deleted, deleted_of, range_parts, range, ranges, container}

pub segment_spelled : (table : Table) (s : SegmentForm) → widths_in s.forms ≡ widths_of table → segment_bytes s ≡ (batch_columns table (length s.rows)).spell s.forms
unfolding segment_bytes
segment_spelled table s widths = ap (λ (ws : List ℕ). (columns ws (length s.rows)).spell s.forms) widths

count_spelled : (n : ℕ) → 1 ≤ n → row_count.spell n ≡ (number 2).spell (n - 1)
unfolding row_count
count_spelled zero some = absurd (omega arith)
count_spelled (suc n) some = let less : n ≡ suc n - 1 = omega arith in ap (number 2).spell less

pub batch_parts : (table : Table) (front : List Entry) (e : Entry) → (batch table front).spell e ≡ (batch_name (map name_of front)).spell e.0 ++ (row_count.spell e.1.0 ++ (batch_columns table e.1.0).spell e.1.1)
unfolding batch
batch_parts table front e = refl

same_name_bytes : (front others : List BatchName) (n : BatchName) → (batch_name front).spell n ≡ (batch_name others).spell n
unfolding batch_name
same_name_bytes front others n = refl

-- a batch's bytes don't depend on those before it
pub batch_anywhere : (table : Table) (front others : List Entry) (e : Entry) → (batch table front).spell e ≡ (batch table others).spell e
batch_anywhere table front others e =
    batch_parts table front e ∙ ap (λ (t : List ℕ). t ++ (row_count.spell e.1.0 ++ (batch_columns table e.1.0).spell e.1.1)) (same_name_bytes (map name_of front) (map name_of others) e.0) ∙ sym (batch_parts table others e)

pub batch_spelled : (table : Table) (front : List Entry) (name : BatchName) (s : SegmentForm) → 1 ≤ length s.rows → widths_in s.forms ≡ widths_of table
    → (batch table front).spell (entry_of (name, s)) ≡ (batch_name []).spell name ++ ((number 2).spell (length s.rows - 1) ++ segment_bytes s)
batch_spelled table front name s some widths =
    batch_parts table front (entry_of (name, s))
    ∙ ap (λ (t : List ℕ). t ++ (row_count.spell (length s.rows) ++ (batch_columns table (length s.rows)).spell s.forms)) (same_name_bytes (map name_of front) [] name)
    ∙ ap (λ (t : List ℕ). (batch_name []).spell name ++ (t ++ (batch_columns table (length s.rows)).spell s.forms)) (count_spelled (length s.rows) some)
    ∙ ap (λ (t : List ℕ). (batch_name []).spell name ++ ((number 2).spell (length s.rows - 1) ++ t)) (sym (segment_spelled table s widths))

pub batches_spelled : (table : Table) (es : List Entry) → (batches table).spell es ≡ (number 4).spell (length es) ++ (all (length es) (batch table)).spell es
unfolding batches name_count
batches_spelled table es = refl

pub range_spelled : (front : List Deleted) (r : RowRange) → (range front).spell (deleted_of r) ≡ (batch_name []).spell r.0.batch ++ ((number 2).spell r.0.ordinal ++ (number 2).spell r.1)
unfolding range range_parts batch_name proper_name
range_spelled front r = refl

pub ranges_spelled : (ds : List Deleted) → ranges.spell ds ≡ (number 8).spell (length ds) ++ (all (length ds) range).spell ds
unfolding ranges
ranges_spelled ds = refl

pub container_spelled : (table : Table) (es : List Entry) (ds : List Deleted) → container.spell (table, (es, ds)) ≡ (head (codes "FLCF")).spell table ++ ((batches table).spell es ++ ranges.spell ds)
unfolding container
container_spelled table es ds = refl

-- a segment has a row
pub rows_some : (s : SegmentForm) (n : ℕ) → n ≡ length s.rows → IsSegment n s.forms → 1 ≤ length s.rows
rows_some s n count segment = let some = segment.some in omega arith

-- a segment's rows are those that its vectors stand for
pub rows_counted : (s : SegmentForm) (n : ℕ) → n ≡ length s.rows → s.rows ≡ batch_of n s.forms → s.rows ≡ batch_of (length s.rows) s.forms
rows_counted s n count rows = rows ∙ ap (λ (k : ℕ). batch_of k s.forms) count

-- the range that a read past the end of a list would give
abbrev pub no_range : RowRange
no_range = (record { batch = record { origin = record { 0 = 0 }; number = record { 0 = 0 } }; ordinal = 0 }, 0)
