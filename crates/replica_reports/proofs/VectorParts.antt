-- The counts of a column's vectors, one vector and one batch after another.
use Rattle.std.proofs.Common.{◌≡◌, ◌∙◌, ℕ, ◌+◌, ◌<◌, ◌≤◌, ◌==◌, Bool, true, false, cond, List, [], ◌∷◌, ◌++◌, length, take, Option, Some, None, refl, sym, ap, arith}
use Rattle.std.specs.FinMap as map
use Rattle.std.specs.Prelude.{slice_get, sum_by, slice_index_or}
use Rattle.std.proofs.lemmas.List.{take_more, length-map}
use Rattle.std.proofs.lemmas.List.Concat.{flat_map-append}
use Rattle.std.proofs.lemmas.List.Sums.{sum_by-cons, sum_by-append}
use Rattle.std.proofs.lemmas.Option.{slice_get_within, slice_get-get_or, get_or_from_slice_get}
use Rattle.table_model.specs.State.{Batch}
use Rattle.table_model.specs.Table.{Table}
use Rattle.table_model.specs.Name.{name_cmp}
use Rattle.segment_core.specs.Coded.{coding_of}
use Rattle.segment_core.specs.CodedVector.{VectorForm}
use Rattle.segment_core.specs.Segment.{IsSegment, vector_count, width_in, widths_in, widths_of}
use Rattle.segment_core.specs.VectorBytes.{tag_of}
use Rattle.segment_core.specs.declared.coding.Coding.{Coding}
use Rattle.segment_core.specs.declared.coding.Coding.TheVariants.{For as ByFrame, Delta as ByDeltas, Runs as ByRuns, Dict as ByDictionary}
use Rattle.replica_store.specs.Segments.{Entry, Segments, rows_in}
use Rattle.replica_store.proofs.RowsIn.{len-rows_in}
use Rattle.replica_reports.specs.declared.column_parts.ColumnParts.{ColumnParts}
use Rattle.replica_reports.specs.ColumnFigures.{AreFew, IsAtMost, column_vectors, has_coding, in_coding, joined, mask_bytes, parts_in, vector_bytes}

-- one element alone
alone : (f : VectorForm → ℕ) (v : VectorForm) → f v ≡ sum_by f (v ∷ [])
alone f v = omega (arith, sum_by-cons f v [])

-- one vector
pub one_part : (v : VectorForm) → in_coding (coding_of v.coded) (vector_bytes v) ≡ parts_in (v ∷ [])
one_part v = λ i. record {
  frames = alone (λ (x : VectorForm). cond (has_coding ByFrame x) 1 0) v i;
  deltas = alone (λ (x : VectorForm). cond (has_coding ByDeltas x) 1 0) v i;
  runs = alone (λ (x : VectorForm). cond (has_coding ByRuns x) 1 0) v i;
  dictionaries = alone (λ (x : VectorForm). cond (has_coding ByDictionary x) 1 0) v i;
  bytes = alone vector_bytes v i;
}

-- the counts of two lists are joined
pub parts_joined : (xs ys : List VectorForm) → parts_in (xs ++ ys) ≡ joined (parts_in xs) (parts_in ys)
parts_joined xs ys = λ i. record {
  frames = sum_by-append (λ (x : VectorForm). cond (has_coding ByFrame x) 1 0) xs ys i;
  deltas = sum_by-append (λ (x : VectorForm). cond (has_coding ByDeltas x) 1 0) xs ys i;
  runs = sum_by-append (λ (x : VectorForm). cond (has_coding ByRuns x) 1 0) xs ys i;
  dictionaries = sum_by-append (λ (x : VectorForm). cond (has_coding ByDictionary x) 1 0) xs ys i;
  bytes = sum_by-append vector_bytes xs ys i;
}

take_next : {X : Type 0} (xs : List X) (i : ℕ) (x : X) → slice_get xs i ≡ Some x → take (i + 1) xs ≡ take i xs ++ (x ∷ [])
take_next {X = X} xs i x is = take_more xs i x (slice_get_within xs i x is) ∙ ap (λ (y : X). take i xs ++ (y ∷ [])) (get_or_from_slice_get xs i x x is)

-- one vector more
pub parts_next : (vs : List VectorForm) (i : ℕ) (v : VectorForm) (before one after : ColumnParts) → slice_get vs i ≡ Some v → before ≡ parts_in (take i vs) → one ≡ parts_in (v ∷ []) → after ≡ joined before one → after ≡ parts_in (take (i + 1) vs)
parts_next vs i v before one after is so_far own sum =
    sum ∙ (λ j. joined (so_far j) (own j)) ∙ sym (parts_joined (take i vs) (v ∷ [])) ∙ ap parts_in (sym (take_next vs i v is))

-- one batch more
pub batch_next : (column : ℕ) (es : List Entry) (i : ℕ) (e : Entry) (before one after : ColumnParts) → slice_get es i ≡ Some e → before ≡ parts_in (column_vectors column (take i es))
    → one ≡ parts_in (slice_index_or e.1.forms column []) → after ≡ joined before one → after ≡ parts_in (column_vectors column (take (i + 1) es))
batch_next column es i e before one after is so_far own sum =
    let vectors : Entry → List VectorForm = λ x. slice_index_or x.1.forms column [] in
    sum ∙ (λ j. joined (so_far j) (own j)) ∙ sym (parts_joined (column_vectors column (take i es)) (vectors e))
    ∙ ap parts_in (sym (ap (column_vectors column) (take_next es i e is) ∙ flat_map-append vectors (take i es) (e ∷ []) ∙ ap (λ (vs : List VectorForm). column_vectors column (take i es) ++ vs) (alone_in (vectors e))))
  where
    alone_in : (vs : List VectorForm) → vs ++ [] ≡ vs
    alone_in [] = refl
    alone_in (v ∷ vs) = ap (λ (rest : List VectorForm). v ∷ rest) (alone_in vs)

-- ---- bounds

bit_few : (b : Bool) → cond b 1 0 ≤ 1
bit_few true = omega arith
bit_few false = omega arith

pub mask_few : (nulls : Option (List Bool)) → mask_bytes nulls ≤ 128
mask_few None = omega arith
mask_few (Some nulls) = omega arith

pub one_few : (coding : Coding) (bytes : ℕ) (a : ColumnParts) → bytes ≤ 65668 → a ≡ in_coding coding bytes → IsAtMost 1 a
one_few coding bytes a few is = record {
  frames = omega (arith, bit_few (tag_of coding == 0), ap (λ (p : ColumnParts). p.frames) is);
  deltas = omega (arith, bit_few (tag_of coding == 1), ap (λ (p : ColumnParts). p.deltas) is);
  runs = omega (arith, bit_few (tag_of coding == 2), ap (λ (p : ColumnParts). p.runs) is);
  dictionaries = omega (arith, bit_few (tag_of coding == 3), ap (λ (p : ColumnParts). p.dictionaries) is);
  bytes = omega (arith, few, ap (λ (p : ColumnParts). p.bytes) is);
}

pub most_joined : (n m : ℕ) (a b c : ColumnParts) → IsAtMost n a → IsAtMost m b → c ≡ joined a b → IsAtMost (n + m) c
most_joined n m a b c few others sum = record {
  frames = omega (arith, few.frames, others.frames, ap (λ (p : ColumnParts). p.frames) sum);
  deltas = omega (arith, few.deltas, others.deltas, ap (λ (p : ColumnParts). p.deltas) sum);
  runs = omega (arith, few.runs, others.runs, ap (λ (p : ColumnParts). p.runs) sum);
  dictionaries = omega (arith, few.dictionaries, others.dictionaries, ap (λ (p : ColumnParts). p.dictionaries) sum);
  bytes = omega (arith, few.bytes, others.bytes, ap (λ (p : ColumnParts). p.bytes) sum);
}

pub most_of : (n m : ℕ) (a : ColumnParts) → IsAtMost n a → n ≤ m → IsAtMost m a
most_of n m a few less = record {
  frames = omega (arith, few.frames);
  deltas = omega (arith, few.deltas);
  runs = omega (arith, few.runs);
  dictionaries = omega (arith, few.dictionaries);
  bytes = omega (arith, few.bytes);
}

pub few_of : (n : ℕ) (a : ColumnParts) → IsAtMost n a → n ≤ 67108864 → AreFew a
few_of n a few less = record {
  frames = omega (arith, few.frames);
  deltas = omega (arith, few.deltas);
  runs = omega (arith, few.runs);
  dictionaries = omega (arith, few.dictionaries);
  bytes = omega (arith, few.bytes);
}

-- ---- how many there are

-- a segment's column has a vector for each 1024 rows
pub vectors_long : (rows column : ℕ) (forms : List (List VectorForm)) → IsSegment rows forms → column < length forms → length (slice_index_or forms column []) ≡ vector_count rows
vectors_long rows column forms segment below = (segment.columns column (slice_index_or forms column []) (slice_get-get_or forms column [] below)).count

-- a stored segment has as many columns as the table
pub columns_long : (table : Table) (forms : List (List VectorForm)) → widths_in forms ≡ widths_of table → length forms ≡ length table.columns
columns_long table forms widths = sym (length-map forms width_in) ∙ ap length widths ∙ length-map table.columns _

-- there are as many segments as batches
pub entries_long : (batches : map.FinMap name_cmp Batch) (segments : Segments) → batches ≡ rows_in segments → length (map.entries segments) ≡ map.len batches
entries_long batches segments shown = sym (map.len-entries segments) ∙ sym (len-rows_in segments) ∙ sym (ap (λ (m : map.FinMap name_cmp Batch). map.len m) shown)
