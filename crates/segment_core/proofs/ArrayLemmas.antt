-- Columns as arrays: a column's cells are those of its rows, its parts, and numbers in range make rows of a table.
use Rattle.std.proofs.Common.{◌≡◌, ◌≢◌, ℕ, zero, suc, ◌+◌, ◌-◌, ◌*◌, ◌/◌, ◌%◌, ◌<◌, ◌≤◌, ◌⊎◌, inl, inr, min, Bool, true, false, cond, not, ◌&&◌, ◌||◌, nat_lt, nat_le, nat_eq, IsTrue, ℤ, pos, List, [], ◌∷◌, map, take, drop, length, get_or, slice_get, Option, Some, None, refl, sym, ◌∙◌, ap, subst, arith}
use Rattle.std.specs.List.{All, range_with_len}
use Rattle.std.proofs.lemmas.List.{same_lists, get_or_default, get_or_past, get_or-take, get_or-drop, length-take, length-drop, length-map}
use Rattle.std.proofs.lemmas.List.FromFn.{length-map-range_with_len, get_or-map-range_with_len}
use Rattle.std.proofs.lemmas.Option.{get_or_from_slice_get, slice_get_within, slice_get_read}
use Rattle.std.proofs.lemmas.Bool.{ltb-false, lt-ltb, le-ltb, lt-leb, le-leb, ne_eqb, cases_lt, cases_eq}
use Rattle.transpose_order.specs.MaskWords.{has-rows_of, length-rows_of, rows_of-like}
use Rattle.transpose_order.specs.MaskBytes.{rows_of_bytes}
use Rattle.transpose_order.specs.Bytes.{bit_of_bytes}
use Rattle.std.specs.Int.{bit_at}
use Rattle.segment_core.proofs.VectorLemmas.{null_rows_is}
use Rattle.transpose_order.specs.Mask.{has, rows_of}
use Rattle.bit_interleave.specs.Range.{value_at}
use Rattle.table_model.proofs.Batches.{row_length}
use Rattle.table_model.specs.State.{Cells, Batch}
use Rattle.table_model.specs.Table.{Table, ColumnShape, bits_of, Fits, IsRow, AreRows, IsBatch, row_limit}
use Rattle.segment_core.specs.Arrays.{ArrayForm, is_valid, has_bits, array_cell, array_cells, array_row, array_rows, is_null_from, HaveRows, NumbersFit}
use Rattle.segment_core.specs.Fill.{cells_under, cell_or_null, AreCellsInRange}
use Rattle.segment_core.specs.CodedVector.{VectorForm, is_null_cell, null_rows}
use Rattle.segment_core.specs.Segment.{column_cells, cells_in, batch_of, canonical_forms, widths_of}
use Rattle.segment_core.proofs.FillLemmas.{length-cells_under, get_or-cells_under}
use Rattle.segment_core.proofs.GatherLemmas.{length-column_cells, get_or-column_cells}
use Rattle.segment_core.proofs.BuildLemmas.{length-cells_in, get_or-cells_in, batch_has_column, row_at, canonical_rows}

-- ---- a column's cells
pub length-array_cells : (a : ArrayForm) → length (array_cells a) ≡ length a.values
unfolding array_cells
length-array_cells a = length-map-range_with_len (array_cell a) 0 (length a.values)

pub get_or-array_cells : (a : ArrayForm) (n : ℕ) (d : Option ℤ) → n < length a.values → get_or (array_cells a) n d ≡ array_cell a n
unfolding array_cells
get_or-array_cells a n d h = get_or-map-range_with_len (array_cell a) 0 (length a.values) n n d h (omega arith)

-- ---- rows
pub length-array_rows : (rows : ℕ) (arrays : List ArrayForm) → length (array_rows rows arrays) ≡ rows
unfolding array_rows
length-array_rows rows arrays = length-map-range_with_len (array_row arrays) 0 rows

pub get_or-array_rows : (rows : ℕ) (arrays : List ArrayForm) (n : ℕ) (d : Cells) → n < rows → get_or (array_rows rows arrays) n d ≡ array_row arrays n
unfolding array_rows
get_or-array_rows rows arrays n d h = get_or-map-range_with_len (array_row arrays) 0 rows n n d h (omega arith)

cell_in_row : (arrays : List ArrayForm) (row c : ℕ) (a : ArrayForm) (d : Option ℤ) → slice_get arrays c ≡ Some a → get_or (array_row arrays row) c d ≡ array_cell a row
cell_in_row [] row c a d e = absurd (cc)
cell_in_row (x ∷ xs) row zero a d e = let same : x ≡ a = cc in ap (λ (y : ArrayForm). array_cell y row) same
cell_in_row (x ∷ xs) row (suc c) a d e = cell_in_row xs row c a d e

pub column_of_arrays : (rows : ℕ) (arrays : List ArrayForm) (c : ℕ) (a : ArrayForm) → slice_get arrays c ≡ Some a → length a.values ≡ rows → column_cells (array_rows rows arrays) c ≡ array_cells a
column_of_arrays rows arrays c a e long =
    let made : Batch = array_rows rows arrays in
    let count : length (column_cells made c) ≡ rows = length-column_cells made c ∙ length-array_rows rows arrays in
    same_lists (column_cells made c) (array_cells a) (count ∙ sym long ∙ sym (length-array_cells a))
    (λ n d l.
    let below : n < rows = omega (arith, count) in
    let there : n < length made = omega (arith, length-array_rows rows arrays) in
    let within : n < length a.values = omega (arith, long) in
    get_or_default (column_cells made c) n d None l
    ∙ get_or-column_cells made c n there
    ∙ ap (λ (row : Cells). get_or row c None) (get_or-array_rows rows arrays n [] below)
    ∙ cell_in_row arrays n c a None e
    ∙ sym (get_or-array_cells a n d within))

-- ---- numbers in range
cell_fits : (column : ColumnShape) (valid : Bool) (z : ℤ) → (Fits column (Some z)) → Fits column (cond valid (Some z) None)
cell_fits column true z h = h
cell_fits column false z h = tt

is_row : (columns : List ColumnShape) (arrays : List ArrayForm) (row : ℕ) → length arrays ≡ length columns → All (λ (a : ArrayForm). row < length a.values) arrays → ((c : ℕ) (column : ColumnShape) (a : ArrayForm) → slice_get columns c ≡ Some column → slice_get arrays c ≡ Some a → NumbersFit column.column_type a.values) → IsRow columns (array_row arrays row)
is_row [] [] row e l h = tt
is_row [] (a ∷ more) row e l h = absurd (omega arith)
is_row (x ∷ xs) [] row e l h = absurd (omega arith)
is_row (x ∷ xs) (a ∷ more) row e l h =
    let here : Fits x (Some (get_or a.values row (pos 0))) = h 0 x a refl refl row (l 0 a (omega arith)) in
    (cell_fits x (is_valid a row) (get_or a.values row (pos 0)) here, is_row xs more row (omega arith) (λ k d m. l (suc k) d (omega arith)) (λ c column b g i. h (suc c) column b g i))

are_rows : (columns : List ColumnShape) (f : ℕ → Cells) (first count : ℕ) → ((n : ℕ) → n < first + count → IsRow columns (f n)) → AreRows columns (map f (range_with_len first count))
are_rows columns f first zero h = tt
are_rows columns f first (suc count) h = (h first (omega arith), are_rows columns f (first + 1) count (λ n l. h n (omega arith)))

pub all_below : (arrays : List ArrayForm) (rows n : ℕ) → HaveRows rows arrays → n < rows → All (λ (a : ArrayForm). n < length a.values) arrays
all_below arrays rows n h l = λ k d m. subst (λ r. n < r) (sym (h k d m)) l

pub arrays_are_batch : (table : Table) (rows : ℕ) (arrays : List ArrayForm) → 1 ≤ rows → rows ≤ row_limit → length arrays ≡ length table.columns → HaveRows rows arrays → ((c : ℕ) (column : ColumnShape) (a : ArrayForm) → slice_get table.columns c ≡ Some column → slice_get arrays c ≡ Some a → NumbersFit column.column_type a.values) → IsBatch table (array_rows rows arrays)
unfolding array_rows
arrays_are_batch table rows arrays some limit e long h = record {
  some = let l = length-map-range_with_len (array_row arrays) 0 rows in omega arith;
  limit = let l = length-map-range_with_len (array_row arrays) 0 rows in omega arith;
  rows_fit = are_rows table.columns (array_row arrays) 0 rows (λ n l. is_row table.columns arrays n e (all_below arrays rows n long (omega arith)) h);
}

pub rows_of_column : (rows : ℕ) (arrays : List ArrayForm) (c : ℕ) (a : ArrayForm) → HaveRows rows arrays → slice_get arrays c ≡ Some a → length a.values ≡ rows
rows_of_column rows arrays c a h e =
    ap (λ (x : ArrayForm). length x.values) (sym (get_or_from_slice_get arrays c a a e)) ∙ h c a (slice_get_within arrays c a e)

pub as_many : (table : Table) (rows : ℕ) (arrays : List ArrayForm) → IsBatch table (array_rows rows arrays) → length arrays ≡ length table.columns
as_many table rows arrays h =
    let made : Batch = array_rows rows arrays in
    let some : 0 < length made = h.some in
    let count = length-array_rows rows arrays in
    let first : get_or made 0 [] ≡ array_row arrays 0 = get_or-array_rows rows arrays 0 [] (omega arith) in
    sym (length-map arrays (λ (a : ArrayForm). array_cell a 0)) ∙ ap length (sym first) ∙ row_length table.columns (get_or made 0 []) (row_at table.columns made 0 h.rows_fit some)

pub column_in_range : (table : Table) (rows : ℕ) (arrays : List ArrayForm) (c : ℕ) (column : ColumnShape) (a : ArrayForm) → IsBatch table (array_rows rows arrays) → HaveRows rows arrays → slice_get table.columns c ≡ Some column → slice_get arrays c ≡ Some a → AreCellsInRange (bits_of column.column_type) (array_cells a)
column_in_range table rows arrays c column a h long e f =
    subst (AreCellsInRange (bits_of column.column_type)) (column_of_arrays rows arrays c a f (rows_of_column rows arrays c a long f))
    (batch_has_column table (array_rows rows arrays) c column h e).fit

-- ---- one vector's part
pub front_of : {X : Type 0} → (made source : List X) (at end count : ℕ) (d : X) → end ≡ at + count → end ≤ length source → take (length (take (end - at) (drop at source))) made ≡ take (end - at) (drop at source) → (i : ℕ) → i < count → get_or made i d ≡ get_or source (at + i) d
front_of made source at end count d e fit h i l =
    let long = length-take (end - at) (drop at source) in
    let left = length-drop at source in
    sym (get_or-take (length (take (end - at) (drop at source))) made i d (omega arith))
    ∙ ap (λ xs. get_or xs i d) h
    ∙ get_or-take (end - at) (drop at source) i d (omega arith)
    ∙ get_or-drop at source i d

part_cell_at : (a : ArrayForm) (k rows n : ℕ) (nulls : List Bool) (z : ℤ) → has nulls n ≡ is_null_from a (1024 * k) rows n → z ≡ get_or a.values (1024 * k + n) (pos 0) → nat_lt n rows ≡ true → (valid : Bool) → valid ≡ is_valid a (1024 * k + n) → cell_or_null (has nulls n) z ≡ array_cell a (1024 * k + n)
part_cell_at a k rows n nulls z e f below true v =
    let none : has nulls n ≡ false = e ∙ ap (λ b. b && not (is_valid a (1024 * k + n))) below ∙ ap not (sym v) in
    ap (λ b. cond b None (Some z)) none ∙ ap Some f ∙ ap (λ b. cond b (Some (get_or a.values (1024 * k + n) (pos 0))) None) v
part_cell_at a k rows n nulls z e f below false v =
    let null : has nulls n ≡ true = e ∙ ap (λ b. b && not (is_valid a (1024 * k + n))) below ∙ ap not (sym v) in
    ap (λ b. cond b None (Some z)) null ∙ ap (λ b. cond b (Some (get_or a.values (1024 * k + n) (pos 0))) None) v

pub record IsPart (a : ArrayForm) (k rows : ℕ) (nulls : List Bool) (values : List ℤ) : Type 0 where
  pub count : rows ≡ min 1024 (length a.values - 1024 * k)
  pub within : 1024 * k < length a.values
  pub mask : nulls ≡ rows_of (is_null_from a (1024 * k) rows)
  pub numbers : (n : ℕ) → n < rows → value_at values n ≡ get_or a.values (1024 * k + n) (pos 0)

pub part_cells_are : (a : ArrayForm) (k rows : ℕ) (nulls : List Bool) (values : List ℤ) → IsPart a k rows nulls values → cells_under rows nulls values ≡ cells_in (array_cells a) k
part_cells_are a k rows nulls values p =
    let cells : List (Option ℤ) = cells_in (array_cells a) k in
    let long : length cells ≡ rows = length-cells_in (array_cells a) k ∙ ap (λ m. min 1024 (m - 1024 * k)) (length-array_cells a) ∙ sym p.count in
    same_lists (cells_under rows nulls values) cells (length-cells_under rows nulls values ∙ sym long)
    (λ n d l.
    let below : n < rows = omega (arith, length-cells_under rows nulls values) in
    let few : n < 1024 = omega (arith, p.count) in
    let there : 1024 * k + n < length a.values = omega (arith, p.count, p.within) in
    get_or-cells_under rows nulls values n d below
    ∙ part_cell_at a k rows n nulls (value_at values n) (ap (λ m. has m n) p.mask ∙ has-rows_of (is_null_from a (1024 * k) rows) n few) (p.numbers n below) (lt-ltb n rows below) (is_valid a (1024 * k + n)) refl
    ∙ sym (get_or-array_cells a (1024 * k + n) d there)
    ∙ sym (get_or-cells_in (array_cells a) k n d few))

null_of : (null : Bool) (z : ℤ) → null ≡ is_null_cell (cond null None (Some z))
null_of true z = refl
null_of false z = refl

null_at : (a : ArrayForm) (k rows : ℕ) (nulls : List Bool) (values : List ℤ) (n : ℕ) → IsPart a k rows nulls values → n < 1024 → (n < rows) ⊎ (rows ≤ n) → has nulls n ≡ is_null_cell (get_or (cells_under rows nulls values) n (Some (pos 0)))
null_at a k rows nulls values n p few (inl l) =
    null_of (has nulls n) (value_at values n) ∙ ap is_null_cell (sym (get_or-cells_under rows nulls values n (Some (pos 0)) l))
null_at a k rows nulls values n p few (inr l) =
    ap (λ m. has m n) p.mask ∙ has-rows_of (is_null_from a (1024 * k) rows) n few ∙ ap (λ b. b && not (is_valid a (1024 * k + n))) (le-ltb n rows l)
    ∙ ap is_null_cell (sym (get_or_past (cells_under rows nulls values) n (Some (pos 0)) (omega (arith, length-cells_under rows nulls values))))

pub part_nulls_are : (a : ArrayForm) (k rows : ℕ) (nulls : List Bool) (values : List ℤ) → IsPart a k rows nulls values → nulls ≡ null_rows (cells_under rows nulls values)
part_nulls_are a k rows nulls values p =
    null_rows_is (cells_under rows nulls values) nulls (ap length p.mask ∙ length-rows_of (is_null_from a (1024 * k) rows)) (λ n l. null_at a k rows nulls values n p l (cases_lt n rows))

-- ---- the null rows of a part
-- mask bytes of which the first are those of a column from vector k on
pub record HasBytesOf (a : ArrayForm) (k rows : ℕ) (bytes : List ℕ) : Type 0 where
  pub some : length a.valid ≡ 0 → ⊥
  pub few : rows ≤ 1024
  pub read : (i : ℕ) → i < (rows + 7) / 8 → get_or bytes i 0 ≡ get_or a.valid (128 * k + i) 0

bit_of_part : (a : ArrayForm) (k rows n : ℕ) (bytes : List ℕ) → HasBytesOf a k rows bytes → n < rows → nat_eq (bit_of_bytes bytes n) 1 ≡ is_valid a (1024 * k + n)
unfolding bit_of_bytes
bit_of_part a k rows n bytes h l =
    let byte : ℕ = 128 * k + n / 8 in
    let place : (1024 * k + n) / 8 ≡ byte = omega arith in
    let bit : (1024 * k + n) % 8 ≡ n % 8 = omega arith in
    let some : nat_eq (length a.valid) 0 ≡ false = ne_eqb (length a.valid) 0 h.some in
    ap (λ b. nat_eq (bit_at b (n % 8)) 1) (h.read (n / 8) (omega arith))
    ∙ ap (λ i. nat_eq (bit_at (get_or a.valid i 0) (n % 8)) 1) (sym place)
    ∙ ap (λ i. nat_eq (bit_at (get_or a.valid ((1024 * k + n) / 8) 0) i) 1) (sym bit)
    ∙ ap (λ b. b || nat_eq (bit_at (get_or a.valid ((1024 * k + n) / 8) 0) ((1024 * k + n) % 8)) 1) (sym some)

cleared : (a : ArrayForm) (k rows n : ℕ) (bytes : List ℕ) → HasBytesOf a k rows bytes → n < 1024 → (n < rows) ⊎ (rows ≤ n) → cond (nat_le rows n && nat_lt n 1024) false (not (nat_eq (bit_of_bytes bytes n) 1)) ≡ is_null_from a (1024 * k) rows n
cleared a k rows n bytes h few (inl l) =
    ap (λ b. cond (b && nat_lt n 1024) false (not (nat_eq (bit_of_bytes bytes n) 1))) (lt-leb rows n l)
    ∙ ap not (bit_of_part a k rows n bytes h l)
    ∙ ap (λ b. b && not (is_valid a (1024 * k + n))) (sym (lt-ltb n rows l))
cleared a k rows n bytes h few (inr l) =
    ap (λ b. cond (b && nat_lt n 1024) false (not (nat_eq (bit_of_bytes bytes n) 1))) (le-leb rows n l)
    ∙ ap (λ b. cond b false (not (nat_eq (bit_of_bytes bytes n) 1))) (lt-ltb n 1024 few)
    ∙ ap (λ b. b && not (is_valid a (1024 * k + n))) (sym (le-ltb n rows l))

pub nulls_from_bytes : (a : ArrayForm) (k rows : ℕ) (bytes : List ℕ) (mask opposite nulls : List Bool) → HasBytesOf a k rows bytes → mask ≡ rows_of_bytes bytes → opposite ≡ rows_of (λ n. not (has mask n)) → nulls ≡ rows_of (λ n. cond (nat_le rows n && nat_lt n 1024) false (has opposite n)) → nulls ≡ rows_of (is_null_from a (1024 * k) rows)
unfolding rows_of_bytes
nulls_from_bytes a k rows bytes mask opposite nulls h m o e =
    e ∙ rows_of-like (λ n. cond (nat_le rows n && nat_lt n 1024) false (has opposite n)) (is_null_from a (1024 * k) rows)
    (λ n few.
    let other : has opposite n ≡ not (nat_eq (bit_of_bytes bytes n) 1) =
    ap (λ x. has x n) o ∙ has-rows_of (λ i. not (has mask i)) n few ∙ ap (λ x. not (has x n)) m ∙ ap not (has-rows_of (λ i. nat_eq (bit_of_bytes bytes i) 1) n few) in
    ap (λ b. cond (nat_le rows n && nat_lt n 1024) false b) other ∙ cleared a k rows n bytes h few (cases_lt n rows))

none_at : (a : ArrayForm) (n : ℕ) (b : Bool) → length a.valid ≡ 0 → false ≡ (b && not (is_valid a n))
none_at a n true none = sym (ap (λ l. not (nat_eq l 0 || nat_eq (bit_at (get_or a.valid (n / 8) 0) (n % 8)) 1)) none)
none_at a n false none = refl

pub no_nulls : (a : ArrayForm) (k rows : ℕ) → length a.valid ≡ 0 → rows_of (λ _. false) ≡ rows_of (is_null_from a (1024 * k) rows)
no_nulls a k rows none = rows_of-like (λ _. false) (is_null_from a (1024 * k) rows) (λ n few. none_at a (1024 * k + n) (nat_lt n rows) none)

from_bits : (none long : Bool) → IsTrue (none || not long) → false ≡ none → long ≡ false
from_bits true long h e = absurd (cc)
from_bits false true h e = absurd (cc)
from_bits false false h e = refl

pub bits_reach : (a : ArrayForm) → IsTrue (has_bits a) → false ≡ nat_eq (length a.valid) 0 → length a.values ≤ 8 * length a.valid
bits_reach a h e = ltb-false (8 * length a.valid) (length a.values) (from_bits (nat_eq (length a.valid) 0) (nat_lt (8 * length a.valid) (length a.values)) h e)

-- ---- what is read of lists
pub read_from : {X : Type 0} → (all listed : List X) (k : ℕ) (x : X) → listed ≡ all → k < length listed → x ≡ get_or listed k x → slice_get all k ≡ Some x
read_from all listed k x e l is = ap (λ xs. slice_get xs k) (sym e) ∙ slice_get_read listed (length listed) k x refl l is

abbrev pub AllFit : List ColumnShape → List ArrayForm → ℕ → Type 0
AllFit columns arrays n = (c : ℕ) (column : ColumnShape) (a : ArrayForm) → c < n → slice_get columns c ≡ Some column → slice_get arrays c ≡ Some a → NumbersFit column.column_type a.values

fit_at : (columns : List ColumnShape) (arrays : List ArrayForm) (n : ℕ) (column : ColumnShape) (array : ArrayForm) → slice_get columns n ≡ Some column → slice_get arrays n ≡ Some array → NumbersFit column.column_type array.values → AllFit columns arrays n → (k : ℕ) (x : ColumnShape) (a : ArrayForm) → k < n + 1 → slice_get columns k ≡ Some x → slice_get arrays k ≡ Some a → (k ≡ n) ⊎ (k ≢ n) → NumbersFit x.column_type a.values
fit_at columns arrays n column array read found fit before k x a l e f (inr ne) = before k x a (omega arith) e f
fit_at columns arrays n column array read found fit before k x a l e f (inl same) =
    let one : Some column ≡ Some x = sym read ∙ ap (slice_get columns) (sym same) ∙ e in
    let other : Some array ≡ Some a = sym found ∙ ap (slice_get arrays) (sym same) ∙ f in
    let is_column : column ≡ x = cc in
    let is_array : array ≡ a = cc in
    subst (λ (y : ColumnShape). NumbersFit y.column_type a.values) is_column (subst (λ (y : ArrayForm). NumbersFit column.column_type y.values) is_array fit)

pub fit_more : (columns : List ColumnShape) (arrays : List ArrayForm) (n : ℕ) (column : ColumnShape) (array : ArrayForm) → slice_get columns n ≡ Some column → slice_get arrays n ≡ Some array → NumbersFit column.column_type array.values → AllFit columns arrays n → AllFit columns arrays (n + 1)
fit_more columns arrays n column array read found fit before = λ k x a l e f. fit_at columns arrays n column array read found fit before k x a l e f (cases_eq k n)

-- ---- what is made
pub part_of : (a inside : ArrayForm) (k rows : ℕ) (nulls : List Bool) (values : List ℤ) → inside ≡ a → rows ≡ min (length inside.values - 1024 * k) 1024 → 1024 * k < length a.values → nulls ≡ rows_of (is_null_from a (1024 * k) rows) → take (length (take (1024 * k + rows - 1024 * k) (drop (1024 * k) inside.values))) values ≡ take (1024 * k + rows - 1024 * k) (drop (1024 * k) inside.values) → IsPart a k rows nulls values
part_of a inside k rows nulls values same few within mask read = record {
  count = let long = ap (λ (x : ArrayForm). length x.values) same in omega (arith, few, long);
  within = within;
  mask = mask;
  numbers = λ n l.
      let long = ap (λ (x : ArrayForm). length x.values) same in
      front_of values inside.values (1024 * k) (1024 * k + rows) rows (pos 0) refl (omega arith) read n l
      ∙ ap (λ (x : ArrayForm). get_or x.values (1024 * k + n) (pos 0)) same;
}

pub built_rows : (table : Table) (rows : ℕ) (arrays : List ArrayForm) (forms : List (List VectorForm)) → IsBatch table (array_rows rows arrays) → forms ≡ canonical_forms (widths_of table) (array_rows rows arrays) → batch_of rows forms ≡ array_rows rows arrays
built_rows table rows arrays forms h e =
    ap (λ (n : ℕ). batch_of n forms) (sym (length-array_rows rows arrays))
    ∙ ap (λ (f : List (List VectorForm)). batch_of (length (array_rows rows arrays)) f) e
    ∙ canonical_rows table (array_rows rows arrays) h
