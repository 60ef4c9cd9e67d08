-- The cells of a segment's vectors, and the rows that they stand for.
use Rattle.std.proofs.Common.{◌≡◌, ℕ, zero, suc, ◌+◌, ◌-◌, ◌*◌, ◌/◌, ◌%◌, ◌<◌, inl, inr, ◌↔◌, min, Bool, true, false, ℤ, List, [], ◌∷◌, length, get_or, slice_get, Option, Some, None, IsTrue, refl, sym, ◌∙◌, ap, subst, arith}
use Rattle.std.proofs.lemmas.List.{same_lists, length-map, get_or_default}
use Rattle.std.proofs.lemmas.Option.{slice_get_within, slice_get-get_or, get_or_from_slice_get, slice_get_cases, slice_get_read}
use Rattle.table_model.specs.State.{Cells, Batch, same_rows}
use Rattle.table_model.proofs.SameRows.{one_batch, itself_batch}
use Rattle.segment_core.specs.Coded.{lane_width_of}
use Rattle.segment_core.specs.CodedVector.{VectorForm, vector_cell, cells_of, canonical_vector}
use Rattle.segment_core.specs.Segment.{SegmentForm, AreCanonical, HaveSameCells, HasCellsOf, column_cells, cells_in, canonical_column, canonical_forms, width_in, widths_in, vector_count, rows_in, cell_of, column_cell, cell_at, row_of, batch_of, IsColumn, IsSegment}
use Rattle.segment_core.proofs.SegmentLemmas.{Shows, forms_shown, count_shown, length-batch_of, get_or-batch_of}
use Rattle.segment_core.proofs.GatherLemmas.{length-column_cells, get_or-column_cells}
use Rattle.segment_core.proofs.BuildLemmas.{length-cells_in, get_or-cells_in, get_or-map, row_any, slice_get-canonical_column, length-canonical_column, length-canonical_forms, get_or-canonical_forms}
use Rattle.segment_core.proofs.VectorLemmas.{length-cells_of, get_or-cells_of, lane_width-canonical}

-- ---- a cell of the rows
pub cell_at-batch_of : (rows : ℕ) (forms : List (List VectorForm)) (n c : ℕ) → n < rows → c < length forms → cell_at (batch_of rows forms) n c ≡ column_cell (get_or forms c []) n
cell_at-batch_of rows forms n c h l =
    ap (λ (row : Cells). get_or row c None) (get_or-batch_of rows forms n [] h) ∙ get_or-map (λ (vectors : List VectorForm). column_cell vectors n) forms c None [] l

-- the rows that a vector of a segment covers
pub covered : (rows : ℕ) (vectors : List VectorForm) (k : ℕ) (v : VectorForm) → IsColumn rows vectors → slice_get vectors k ≡ Some v → v.rows ≡ rows_in rows k
covered rows vectors k v is e = is.cover k v e

pub cell_found : (rows : ℕ) (forms : List (List VectorForm)) (n c : ℕ) (vectors : List VectorForm) (v : VectorForm) → n < rows → slice_get forms c ≡ Some vectors → slice_get vectors (n / 1024) ≡ Some v → cell_at (batch_of rows forms) n c ≡ vector_cell v (n % 1024)
cell_found rows forms n c vectors v h column found =
    cell_at-batch_of rows forms n c h (slice_get_within forms c vectors column)
    ∙ ap (λ (vs : List VectorForm). column_cell vs n) (get_or_from_slice_get forms c vectors [] column)
    ∙ ap (λ o. cell_of o (n % 1024)) found

-- ---- a vector's cells are its part of its column's
pub column_part : (rows : ℕ) (forms : List (List VectorForm)) (c k : ℕ) (vectors : List VectorForm) (v : VectorForm) → IsSegment rows forms → slice_get forms c ≡ Some vectors → slice_get vectors k ≡ Some v → cells_of v ≡ cells_in (column_cells (batch_of rows forms) c) k
column_part rows forms c k vectors v is column found =
    let batch : Batch = batch_of rows forms in
    let proper : IsColumn rows vectors = is.columns c vectors column in
    let cover : v.rows ≡ rows_in rows k = proper.cover k v found in
    let long : length (cells_in (column_cells batch c) k) ≡ rows_in rows k =
    length-cells_in (column_cells batch c) k ∙ ap (λ m. min 1024 (m - 1024 * k)) (length-column_cells batch c ∙ length-batch_of rows forms) in
    same_lists (cells_of v) (cells_in (column_cells batch c) k) (length-cells_of v ∙ cover ∙ sym long)
    (λ n d w.
    let below : n < v.rows = omega (arith, length-cells_of v) in
    let small : n < 1024 = omega arith in
    let within : 1024 * k + n < rows = omega arith in
    let quotient : (1024 * k + n) / 1024 ≡ k = omega arith in
    let rest : (1024 * k + n) % 1024 ≡ n = omega arith in
    let there : slice_get vectors ((1024 * k + n) / 1024) ≡ Some v = ap (slice_get vectors) quotient ∙ found in
    get_or-cells_of v n d below
    ∙ ap (vector_cell v) (sym rest)
    ∙ sym (cell_found rows forms (1024 * k + n) c vectors v within column there)
    ∙ sym (get_or-column_cells batch c (1024 * k + n) (omega (arith, length-batch_of rows forms)))
    ∙ get_or_default (column_cells batch c) (1024 * k + n) None d (omega (arith, length-column_cells batch c, length-batch_of rows forms))
    ∙ sym (get_or-cells_in (column_cells batch c) k n d small))

-- ---- which rows they are
pub record HasParts (rows : ℕ) (forms : List (List VectorForm)) (batch : Batch) : Type 0 where
  pub count : length batch ≡ rows
  pub arity : (n : ℕ) → n < rows → length (get_or batch n []) ≡ length forms
  pub parts : (c k : ℕ) (vectors : List VectorForm) (v : VectorForm) → slice_get forms c ≡ Some vectors → slice_get vectors k ≡ Some v → cells_of v ≡ cells_in (column_cells batch c) k

vector_there : (rows : ℕ) (forms : List (List VectorForm)) (c k : ℕ) (vectors : List VectorForm) → IsSegment rows forms → slice_get forms c ≡ Some vectors → 1024 * k < rows → (v : VectorForm) × (slice_get vectors k ≡ Some v)
vector_there rows forms c k vectors is column h =
    let count = (is.columns c vectors column).count in
    elim (slice_get_cases vectors k).1 [ inl w ↦ (w.0, w.2) | inr w ↦ let past = w.0 in absurd (omega arith) ]

part_cell : (rows : ℕ) (forms : List (List VectorForm)) (batch : Batch) (n c : ℕ) (vectors : List VectorForm) (v : VectorForm) → IsSegment rows forms → HasParts rows forms batch → n < rows → slice_get forms c ≡ Some vectors → slice_get vectors (n / 1024) ≡ Some v → column_cell vectors n ≡ get_or (get_or batch n []) c None
part_cell rows forms batch n c vectors v is h below column found =
    let cover : v.rows ≡ rows_in rows (n / 1024) = (is.columns c vectors column).cover (n / 1024) v found in
    let small : n % 1024 < v.rows = omega arith in
    let back : 1024 * (n / 1024) + n % 1024 ≡ n = omega arith in
    ap (λ o. cell_of o (n % 1024)) found
    ∙ sym (get_or-cells_of v (n % 1024) None small)
    ∙ ap (λ (cells : List (Option ℤ)). get_or cells (n % 1024) None) (h.parts c (n / 1024) vectors v column found)
    ∙ get_or-cells_in (column_cells batch c) (n / 1024) (n % 1024) None (omega arith)
    ∙ ap (λ j. get_or (column_cells batch c) j None) back
    ∙ get_or-column_cells batch c n (let e = h.count in omega arith)

row_from_parts : (rows : ℕ) (forms : List (List VectorForm)) (batch : Batch) (n : ℕ) → IsSegment rows forms → HasParts rows forms batch → n < rows → row_of forms n ≡ get_or batch n []
row_from_parts rows forms batch n is h below =
    let long : length (row_of forms n) ≡ length forms = length-map forms (λ (vectors : List VectorForm). column_cell vectors n) in
    same_lists (row_of forms n) (get_or batch n []) (long ∙ sym (h.arity n below))
    (λ c d w.
    let there : c < length forms = omega arith in
    let column : slice_get forms c ≡ Some (get_or forms c []) = slice_get-get_or forms c [] there in
    let start : 1024 * (n / 1024) < rows = omega arith in
    let f = vector_there rows forms c (n / 1024) (get_or forms c []) is column start in
    let inside : c < length (get_or batch n []) = let e = h.arity n below in omega arith in
    get_or-map (λ (vectors : List VectorForm). column_cell vectors n) forms c d [] there
    ∙ part_cell rows forms batch n c (get_or forms c []) f.0 is h below column f.1
    ∙ get_or_default (get_or batch n []) c None d inside)

pub rows_from_parts : (rows : ℕ) (forms : List (List VectorForm)) (batch : Batch) → IsSegment rows forms → HasParts rows forms batch → batch_of rows forms ≡ batch
rows_from_parts rows forms batch is h =
    same_lists (batch_of rows forms) batch (length-batch_of rows forms ∙ sym h.count)
    (λ n d w.
    let below : n < rows = omega (arith, length-batch_of rows forms) in
    get_or-batch_of rows forms n d below ∙ row_from_parts rows forms batch n is h below ∙ row_any batch n [] d (let e = h.count in omega arith))

own_parts : (rows : ℕ) (forms : List (List VectorForm)) → IsSegment rows forms → HasParts rows forms (batch_of rows forms)
own_parts rows forms is = record {
  count = length-batch_of rows forms;
  arity = λ n l. ap length (get_or-batch_of rows forms n [] l) ∙ length-map forms (λ (vectors : List VectorForm). column_cell vectors n);
  parts = λ c k vectors v e f. column_part rows forms c k vectors v is e f;
}

pub parts_from_rows : (rows : ℕ) (forms : List (List VectorForm)) (batch : Batch) → IsSegment rows forms → batch_of rows forms ≡ batch → HasParts rows forms batch
parts_from_rows rows forms batch is e = subst (λ (b : Batch). HasParts rows forms b) e (own_parts rows forms is)

-- ---- the test of sameness, from the law that it decides equality
pub test_true : (xs ys : Batch) → xs ≡ ys → true ≡ same_rows xs ys
test_true xs ys e = sym (ap (same_rows xs) (sym e) ∙ itself_batch xs)

test_at : (xs ys : Batch) (b : Bool) → (xs ≡ ys → ⊥) → same_rows xs ys ≡ b → false ≡ b
test_at xs ys true differ e = absurd (differ (one_batch xs ys e))
test_at xs ys false differ e = refl

pub test_false : (xs ys : Batch) → (xs ≡ ys → ⊥) → false ≡ same_rows xs ys
test_false xs ys differ = test_at xs ys (same_rows xs ys) differ refl

-- ---- canonical columns
pub width_first : (vectors : List VectorForm) (v : VectorForm) → slice_get vectors 0 ≡ Some v → width_in vectors ≡ lane_width_of v.coded
width_first [] v e = absurd (cc)
width_first (x ∷ xs) v e = let same : x ≡ v = cc in ap (λ (y : VectorForm). lane_width_of y.coded) same

-- the width of a column is that of each of its vectors
pub width_of_vector : (rows : ℕ) (vectors : List VectorForm) (k : ℕ) (v : VectorForm) → IsColumn rows vectors → slice_get vectors k ≡ Some v → width_in vectors ≡ lane_width_of v.coded
width_of_vector rows vectors k v is found =
    let within : 0 < length vectors = let l = slice_get_within vectors k v found in omega arith in
    let first : slice_get vectors 0 ≡ Some (get_or vectors 0 v) = slice_get-get_or vectors 0 v within in
    width_first vectors (get_or vectors 0 v) first ∙ is.one_width 0 k (get_or vectors 0 v) v first found

pub same_columns : (xs ys : List VectorForm) → length xs ≡ length ys → ((k : ℕ) (v : VectorForm) → slice_get xs k ≡ Some v → slice_get ys k ≡ Some v) → xs ≡ ys
same_columns xs ys l h =
    same_lists xs ys l
    (λ k d w. sym (get_or_from_slice_get ys k (get_or xs k d) d (h k (get_or xs k d) (slice_get-get_or xs k d w))))

pub column_canonical : (rows : ℕ) (forms : List (List VectorForm)) (c : ℕ) (vectors : List VectorForm) → IsSegment rows forms → slice_get forms c ≡ Some vectors → AreCanonical vectors → vectors ≡ canonical_column (width_in vectors) (column_cells (batch_of rows forms) c)
column_canonical rows forms c vectors is column h =
    let cells : List (Option ℤ) = column_cells (batch_of rows forms) c in
    let proper : IsColumn rows vectors = is.columns c vectors column in
    let count : length cells ≡ rows = length-column_cells (batch_of rows forms) c ∙ length-batch_of rows forms in
    same_columns vectors (canonical_column (width_in vectors) cells)
    (proper.count ∙ sym (length-canonical_column (width_in vectors) cells ∙ ap vector_count count))
    (λ k v found.
    let within : k < vector_count (length cells) = let l = slice_get_within vectors k v found in let n = proper.count in omega arith in
    slice_get-canonical_column (width_in vectors) cells k within
    ∙ ap Some (ap (λ t. canonical_vector t (cells_in cells k)) (width_of_vector rows vectors k v proper found)
    ∙ ap (canonical_vector (lane_width_of v.coded)) (sym (column_part rows forms c k vectors v is column found))
    ∙ sym (h k v found)))

found_in : (vectors made : List VectorForm) (k : ℕ) (v w : VectorForm) → vectors ≡ made → slice_get vectors k ≡ Some v → slice_get made k ≡ Some w → v ≡ w
found_in vectors made k v w e f g = let h : slice_get made k ≡ Some v = ap (λ (x : List VectorForm). slice_get x k) (sym e) ∙ f in cc

pub canonical_column_are : (rows : ℕ) (forms : List (List VectorForm)) (c t : ℕ) (vectors : List VectorForm) → IsSegment rows forms → slice_get forms c ≡ Some vectors → vectors ≡ canonical_column t (column_cells (batch_of rows forms) c) → AreCanonical vectors
canonical_column_are rows forms c t vectors is column e = λ k v found.
    let cells : List (Option ℤ) = column_cells (batch_of rows forms) c in
    let within : k < vector_count (length cells) = let l = slice_get_within vectors k v found in omega (arith, ap length e, length-canonical_column t cells) in
    let same : v ≡ canonical_vector t (cells_in cells k) = found_in vectors (canonical_column t cells) k v (canonical_vector t (cells_in cells k)) e found (slice_get-canonical_column t cells k within) in
    let width : lane_width_of v.coded ≡ t = ap (λ (x : VectorForm). lane_width_of x.coded) same ∙ lane_width-canonical t (cells_in cells k) in
    same ∙ ap (λ u. canonical_vector u (cells_in cells k)) (sym width) ∙ ap (canonical_vector (lane_width_of v.coded)) (sym (column_part rows forms c k vectors v is column found))

pub get_or-widths_in : (forms : List (List VectorForm)) (c : ℕ) (vectors : List VectorForm) → slice_get forms c ≡ Some vectors → get_or (widths_in forms) c 0 ≡ width_in vectors
get_or-widths_in [] c vectors e = absurd (cc)
get_or-widths_in (x ∷ xs) zero vectors e = let same : x ≡ vectors = cc in ap width_in same
get_or-widths_in (x ∷ xs) (suc c) vectors e = get_or-widths_in xs c vectors e

pub forms_canonical : (rows : ℕ) (forms : List (List VectorForm)) → IsSegment rows forms → ((c : ℕ) (vectors : List VectorForm) → slice_get forms c ≡ Some vectors → AreCanonical vectors) → forms ≡ canonical_forms (widths_in forms) (batch_of rows forms)
forms_canonical rows forms is h =
    let batch : Batch = batch_of rows forms in
    let widths : List ℕ = widths_in forms in
    let count : length widths ≡ length forms = length-map forms width_in in
    same_lists forms (canonical_forms widths batch) (sym (length-canonical_forms widths batch ∙ count))
    (λ c d w.
    let column : slice_get forms c ≡ Some (get_or forms c d) = slice_get-get_or forms c d w in
    column_canonical rows forms c (get_or forms c d) is column (h c (get_or forms c d) column)
    ∙ ap (λ t. canonical_column t (column_cells batch c)) (sym (get_or-widths_in forms c (get_or forms c d) column))
    ∙ sym (get_or-canonical_forms widths batch c d (omega arith)))

pub canonical_forms_are : (rows : ℕ) (forms : List (List VectorForm)) → IsSegment rows forms → forms ≡ canonical_forms (widths_in forms) (batch_of rows forms) → (c : ℕ) (vectors : List VectorForm) → slice_get forms c ≡ Some vectors → AreCanonical vectors
canonical_forms_are rows forms is e = λ c vectors column.
    let batch : Batch = batch_of rows forms in
    let widths : List ℕ = widths_in forms in
    let within : c < length widths = let l = slice_get_within forms c vectors column in omega (arith, length-map forms width_in) in
    canonical_column_are rows forms c (get_or widths c 0) vectors is column
    (sym (get_or_from_slice_get forms c vectors [] column) ∙ ap (λ (f : List (List VectorForm)). get_or f c []) e ∙ get_or-canonical_forms widths batch c [] within)

-- ---- a value read from its vector
pub record CellPlace (s : SegmentForm) (n c : ℕ) (v : VectorForm) : Type 0 where
  pub below : n % 1024 < v.rows
  pub is : cell_at s.rows n c ≡ vector_cell v (n % 1024)

pub cell_place : (rows : ℕ) (forms : List (List VectorForm)) (s : SegmentForm) (n c : ℕ) (column : List VectorForm) (v : VectorForm) → Shows rows forms s → n < length s.rows → c < length s.forms → column ≡ get_or forms c column → v ≡ get_or column (n / 1024) v → n / 1024 < length column → CellPlace s n c v
cell_place rows forms s n c column v shows h l read found within =
    let count : rows ≡ length s.rows = count_shown rows forms s shows in
    let same : length forms ≡ length s.forms = ap length (forms_shown rows forms s shows) in
    let there : slice_get forms c ≡ Some column = slice_get_read forms (length forms) c column refl (omega arith) read in
    let here : slice_get column (n / 1024) ≡ Some v = slice_get_read column (length column) (n / 1024) v refl within found in
    let cover : v.rows ≡ rows_in rows (n / 1024) = (shows.proper.columns c column there).cover (n / 1024) v here in
    record {
      below = omega arith;
      is = ap (λ (x : SegmentForm). cell_at x.rows n c) (sym shows.view) ∙ cell_found rows forms n c column v (omega arith) there here;
    }

-- ---- two segments with the same cells
abbrev pub AllSame : List (List VectorForm) → List (List VectorForm) → Type 0
AllSame forms others = (c : ℕ) (vectors ws : List VectorForm) → slice_get forms c ≡ Some vectors → slice_get others c ≡ Some ws → HaveSameCells vectors ws

abbrev pub AllOf : List (List VectorForm) → Batch → Type 0
AllOf forms batch = (c : ℕ) (vectors : List VectorForm) → slice_get forms c ≡ Some vectors → HasCellsOf vectors (column_cells batch c)

part_starts : (rows : ℕ) (vectors : List VectorForm) (k : ℕ) (v : VectorForm) → IsColumn rows vectors → slice_get vectors k ≡ Some v → 1024 * k < rows
part_starts rows vectors k v is e = let l = slice_get_within vectors k v e in let n = is.count in omega arith

pub rows_of_same : (rows : ℕ) (forms others : List (List VectorForm)) → IsSegment rows forms → IsSegment rows others → length forms ≡ length others → AllSame forms others → batch_of rows forms ≡ batch_of rows others
rows_of_same rows forms others is theirs count same =
    rows_from_parts rows forms (batch_of rows others) is (record {
      count = length-batch_of rows others;
      arity = λ n l. (own_parts rows others theirs).arity n l ∙ sym count;
      parts = λ c k vectors v e f.
          let within : c < length others = let l = slice_get_within forms c vectors e in omega arith in
          let column : slice_get others c ≡ Some (get_or others c []) = slice_get-get_or others c [] within in
          let w = vector_there rows others c k (get_or others c []) theirs column (part_starts rows vectors k v (is.columns c vectors e) f) in
          same c vectors (get_or others c []) e column k v w.0 f w.1
          ∙ column_part rows others c k (get_or others c []) w.0 theirs column w.1;
    })

pub same_of_rows : (rows : ℕ) (forms others : List (List VectorForm)) → IsSegment rows forms → IsSegment rows others → batch_of rows forms ≡ batch_of rows others → AllSame forms others
same_of_rows rows forms others is theirs e = λ c vectors ws at there k v w f g.
    (parts_from_rows rows forms (batch_of rows others) is e).parts c k vectors v at f ∙ sym (column_part rows others c k ws w theirs there g)

pub columns_of_rows : (rows : ℕ) (forms others : List (List VectorForm)) → IsSegment rows forms → IsSegment rows others → batch_of rows forms ≡ batch_of rows others → length forms ≡ length others
columns_of_rows rows forms others is theirs e =
    let first : 0 < rows = let l = is.some in omega arith in
    sym ((parts_from_rows rows forms (batch_of rows others) is e).arity 0 first) ∙ (own_parts rows others theirs).arity 0 first

-- ---- a test of the rows
pub decides_rows : (xs ys : Batch) (b : Bool) → (IsTrue b ↔ (xs ≡ ys)) → b ≡ same_rows xs ys
decides_rows xs ys true h = test_true xs ys (h.0 refl)
decides_rows xs ys false h = test_false xs ys (λ e. let f = h.1 e in absurd (cc))
