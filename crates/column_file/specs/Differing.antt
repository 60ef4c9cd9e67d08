-- Where bytes that aren't the canonical file of what they hold differ from it: in the first vector that isn't canonical.
use Rattle.std.specs.Prelude.{◌≡◌, ℕ, ◌≤◌, ◌<◌, Bool, true, false, cond, List, ◌++◌, length, take, map, slice_get, Some, Result, Ok, Err}
use Rattle.std.specs.List.{All}
use Rattle.table_model.specs.Identifier.{same_text}
use Rattle.table_model.specs.Table.{Table}
use Rattle.table_model.specs.declared.refusal.Refusal.{Refusal}
use Rattle.table_model.specs.declared.refusal.Refusal.TheVariants.{NotCanonical}
use Rattle.segment_core.specs.CodedVector.{VectorForm, canonical_of}
use Rattle.segment_core.specs.Segment.{SegmentForm, canonical_forms, canonical_vectors, widths_in, widths_of}
use Rattle.segment_core.specs.SegmentBytes.{batch_columns}
use Rattle.replica_store.specs.Segments.{Entry as Held, IsStored}
use Rattle.column_file.specs.ContainerBytes.{entry_of, batches}
use Rattle.column_file.specs.Files.{canonical_as_read, first_difference, IsCanonicalHeld}

-- whether the bytes are a text, and else the first place that differs
abbrev pub matched : List ℕ → List ℕ → Result (Unit {0}) Refusal
matched bytes text = cond (same_text bytes text) (Ok tt) (Err (NotCanonical (first_difference bytes text)))

-- two texts differ from another first at the same place, which is inside of both, whatever comes after them
abbrev pub DifferAlike : List ℕ → List ℕ → List ℕ → Type 0
DifferAlike bytes some others =
    (p q r : List ℕ) → (first_difference (bytes ++ p) (some ++ q) ≡ first_difference (bytes ++ p) (others ++ r)) × (first_difference (bytes ++ p) (some ++ q) < length some) × (first_difference (bytes ++ p) (some ++ q) < length others)

-- all vectors before a place are canonical, and the one there, if there is one, isn't
pub record IsFirstOther (vectors : List VectorForm) (place : ℕ) : Type 0 where
  pub inside : place ≤ length vectors
  pub front : take place (canonical_vectors vectors) ≡ take place vectors
  pub other : (v : VectorForm) → slice_get vectors place ≡ Some v → v ≡ canonical_of v → ⊥

-- a vector at a place of a column isn't canonical, and all those before it are, in this column and in the columns before it
pub record IsFirstOtherIn (forms : List (List VectorForm)) (column vector : ℕ) : Type 0 where
  pub vectors : List VectorForm
  pub there : slice_get forms column ≡ Some vectors
  pub inside : vector < length vectors
  pub front : take column (map canonical_vectors forms) ≡ take column forms
  pub first : IsFirstOther vectors vector

-- Where the bytes of a segment's columns differ from those of its canonical segment, they differ first from the other segment's, at
-- the same place.
abbrev pub ColumnsDifferAlike : SegmentForm → SegmentForm → Type 0
ColumnsDifferAlike s made =
    (table : Table) → widths_in s.forms ≡ widths_of table
    → DifferAlike ((batch_columns table (length s.rows)).spell s.forms) ((batch_columns table (length s.rows)).spell made.forms) ((batch_columns table (length s.rows)).spell (canonical_forms (widths_of table) s.rows))

-- the bytes of batches
abbrev pub bytes_of : Table → List Held → List ℕ
bytes_of table entries = (batches table).spell (map entry_of entries)

-- the bytes of batches in their canonical forms
abbrev pub canonical_bytes_of : Table → List Held → List ℕ
canonical_bytes_of table entries = (batches table).spell (map (canonical_as_read table) entries)

-- Batches of a table were judged: all are canonical, and none has changed; or the bytes of those that are there now differ from those
-- that were there at the same place as the canonical ones do.
abbrev pub AreJudged : Bool → List Held → List Held → Type 0
AreJudged true old new = (new ≡ old) × All IsCanonicalHeld old
AreJudged false old new = (table : Table) → All (IsStored table) old → DifferAlike (bytes_of table old) (bytes_of table new) (canonical_bytes_of table old)
