-- A vector put in the place of one that it can stand for leaves a segment's rows as they were.
use Rattle.std.proofs.Common.{◌≡◌, ◌≢◌, ℕ, zero, suc, ◌/◌, ◌%◌, ◌<◌, ◌≤◌, ◌⊎◌, inl, inr, List, [], ◌∷◌, length, get_or, set, slice_get, Option, Some, None, IsSome, IfSome, Result, Ok, Err, IsOk, refl, sym, ◌∙◌, ap, subst, arith}
use Rattle.std.proofs.lemmas.List.{same_lists, get_or_past}
use Rattle.std.proofs.Math.ListN.{length-set}
use Rattle.std.proofs.Math.Seq.{map-set_same}
use Rattle.std.proofs.lemmas.Option.{slice_get_within, slice_get_read, get_or_from_slice_get}
use Rattle.std.proofs.lemmas.Bool.{cases_eq, cases_lt}
use Rattle.table_model.specs.declared.refusal.Refusal.{Refusal}
use Rattle.table_model.specs.declared.refusal.Refusal.TheVariants.{Memory}
use Rattle.segment_core.specs.Coded.{lane_width_of}
use Rattle.segment_core.specs.CodedVector.{VectorForm, IsVector, StandsFor}
use Rattle.segment_core.specs.Segment.{SegmentForm, batch_of, row_of, rows_in, cell_of, column_cell, vector_at, put_in, IsSegment, IsColumn}
use Rattle.segment_core.proofs.SegmentLemmas.{Shows, forms_shown, length-batch_of, get_or-batch_of}

-- ---- a list with one place replaced
pub slice_get-set_same : {X : Type 0} → (xs : List X) (k : ℕ) (y : X) → k < length xs → slice_get (set xs k y) k ≡ Some y
slice_get-set_same [] k y h = absurd (omega arith)
slice_get-set_same (x ∷ xs) zero y h = refl
slice_get-set_same (x ∷ xs) (suc k) y h = slice_get-set_same xs k y (omega arith)

pub slice_get-set_other : {X : Type 0} → (xs : List X) (k j : ℕ) (y : X) → j ≢ k → slice_get (set xs k y) j ≡ slice_get xs j
slice_get-set_other [] k j y h = refl
slice_get-set_other (x ∷ xs) zero zero y h = absurd (h refl)
slice_get-set_other (x ∷ xs) zero (suc j) y h = refl
slice_get-set_other (x ∷ xs) (suc k) zero y h = refl
slice_get-set_other (x ∷ xs) (suc k) (suc j) y h = slice_get-set_other xs k j y (λ e. h (ap suc e))

pub picked : {X : Type 0} → (o : Option X) (P : X → Type 0) → IsSome o → IfSome o P → (v : X) × (o ≡ Some v) × P v
picked None P there holds = absurd (cc)
picked (Some v) P there holds = (v, refl, holds)

-- ---- a column with one vector replaced: each of its vectors covers as many rows at the same width as the one that stood there
pub record Stood (column : List VectorForm) (j : ℕ) (u : VectorForm) : Type 0 where
  pub old : VectorForm
  pub is : slice_get column j ≡ Some old
  pub rows : u.rows ≡ old.rows
  pub lane_width : lane_width_of u.coded ≡ lane_width_of old.coded

same_found : (u v : VectorForm) (o : Option VectorForm) → o ≡ Some u → o ≡ Some v → u ≡ v
same_found u v o e f = cc

stood_at : (column : List VectorForm) (k : ℕ) (made v : VectorForm) → slice_get column k ≡ Some v → StandsFor made v → (j : ℕ) (u : VectorForm) → slice_get (set column k made) j ≡ Some u → (j ≡ k) ⊎ (j ≢ k) → Stood column j u
stood_at column k made v is stands j u found (inl here) =
    let there : slice_get (set column k made) j ≡ Some made = ap (slice_get (set column k made)) here ∙ slice_get-set_same column k made (slice_get_within column k v is) in
    let same : made ≡ u = same_found made u (slice_get (set column k made) j) there found in
    record {
      old = v;
      is = ap (slice_get column) here ∙ is;
      rows = ap (λ (x : VectorForm). x.rows) (sym same) ∙ stands.rows;
      lane_width = ap (λ (x : VectorForm). lane_width_of x.coded) (sym same) ∙ stands.lane_width;
    }
stood_at column k made v is stands j u found (inr other) =
    record { old = u; is = sym (slice_get-set_other column k j made other) ∙ found; rows = refl; lane_width = refl }

stood : (column : List VectorForm) (k : ℕ) (made v : VectorForm) → slice_get column k ≡ Some v → StandsFor made v → (j : ℕ) (u : VectorForm) → slice_get (set column k made) j ≡ Some u → Stood column j u
stood column k made v is stands j u found = stood_at column k made v is stands j u found (cases_eq j k)

vector_kept : (rows : ℕ) (column : List VectorForm) (k : ℕ) (made v : VectorForm) → slice_get column k ≡ Some v → StandsFor made v → IsColumn rows column → (j : ℕ) (u : VectorForm) → slice_get (set column k made) j ≡ Some u → (j ≡ k) ⊎ (j ≢ k) → IsVector u
vector_kept rows column k made v is stands proper j u found (inl here) =
    let there : slice_get (set column k made) j ≡ Some made = ap (slice_get (set column k made)) here ∙ slice_get-set_same column k made (slice_get_within column k v is) in
    subst (λ (x : VectorForm). IsVector x) (same_found made u (slice_get (set column k made) j) there found) stands.form
vector_kept rows column k made v is stands proper j u found (inr other) =
    proper.each j u (sym (slice_get-set_other column k j made other) ∙ found)

column_kept : (rows : ℕ) (column : List VectorForm) (k : ℕ) (made v : VectorForm) → slice_get column k ≡ Some v → StandsFor made v → IsColumn rows column → IsColumn rows (set column k made)
column_kept rows column k made v is stands proper =
    record {
      each = λ j u found. vector_kept rows column k made v is stands proper j u found (cases_eq j k);
      count = length-set column k made ∙ proper.count;
      cover = λ j u found. let s = stood column k made v is stands j u found in s.rows ∙ proper.cover j s.old s.is;
      one_width = λ i j u w at_i at_j.
          let s = stood column k made v is stands i u at_i in
          let r = stood column k made v is stands j w at_j in
          s.lane_width ∙ proper.one_width i j s.old r.old s.is r.is ∙ sym r.lane_width;
    }

-- ---- its cells
cell_kept_at : (rows : ℕ) (column : List VectorForm) (k : ℕ) (made v : VectorForm) → slice_get column k ≡ Some v → StandsFor made v → IsColumn rows column → (n : ℕ) → n < rows → (n / 1024 ≡ k) ⊎ (n / 1024 ≢ k) → column_cell (set column k made) n ≡ column_cell column n
cell_kept_at rows column k made v is stands proper n h (inl here) =
    let covered : v.rows ≡ rows_in rows k = proper.cover k v is in
    let below : n % 1024 < v.rows = omega arith in
    ap (λ o. cell_of o (n % 1024)) (ap (slice_get (set column k made)) here ∙ slice_get-set_same column k made (slice_get_within column k v is))
    ∙ stands.cells (n % 1024) below
    ∙ ap (λ o. cell_of o (n % 1024)) (sym (ap (slice_get column) here ∙ is))
cell_kept_at rows column k made v is stands proper n h (inr other) =
    ap (λ o. cell_of o (n % 1024)) (slice_get-set_other column k (n / 1024) made other)

cell_kept : (rows : ℕ) (column : List VectorForm) (k : ℕ) (made v : VectorForm) → slice_get column k ≡ Some v → StandsFor made v → IsColumn rows column → (n : ℕ) → n < rows → column_cell (set column k made) n ≡ column_cell column n
cell_kept rows column k made v is stands proper n h = cell_kept_at rows column k made v is stands proper n h (cases_eq (n / 1024) k)

-- ---- a segment with one vector replaced
pub record Replaced (rows : ℕ) (forms : List (List VectorForm)) (c : ℕ) (column : List VectorForm) (k : ℕ) (made v : VectorForm) : Type 0 where
  pub proper : IsSegment rows forms
  pub column_is : slice_get forms c ≡ Some column
  pub is : slice_get column k ≡ Some v
  pub stands : StandsFor made v

columns_kept : (rows : ℕ) (forms : List (List VectorForm)) (c : ℕ) (column : List VectorForm) (k : ℕ) (made v : VectorForm) → Replaced rows forms c column k made v → (j : ℕ) (vectors : List VectorForm) → slice_get (set forms c (set column k made)) j ≡ Some vectors → (j ≡ c) ⊎ (j ≢ c) → IsColumn rows vectors
columns_kept rows forms c column k made v h j vectors found (inl here) =
    let there : slice_get (set forms c (set column k made)) j ≡ Some (set column k made) =
    ap (slice_get (set forms c (set column k made))) here ∙ slice_get-set_same forms c (set column k made) (slice_get_within forms c column h.column_is) in
    let same : set column k made ≡ vectors = cc in
    subst (λ (x : List VectorForm). IsColumn rows x) same (column_kept rows column k made v h.is h.stands (h.proper.columns c column h.column_is))
columns_kept rows forms c column k made v h j vectors found (inr other) =
    h.proper.columns j vectors (sym (slice_get-set_other forms c j (set column k made) other) ∙ found)

pub segment_kept : (rows : ℕ) (forms : List (List VectorForm)) (c : ℕ) (column : List VectorForm) (k : ℕ) (made v : VectorForm) → Replaced rows forms c column k made v → IsSegment rows (set forms c (set column k made))
segment_kept rows forms c column k made v h =
    let long : length (set forms c (set column k made)) ≡ length forms = length-set forms c (set column k made) in
    record {
      some = h.proper.some;
      limit = h.proper.limit;
      some_columns = let l = h.proper.some_columns in omega arith;
      columns_limit = let l = h.proper.columns_limit in omega arith;
      columns = λ j vectors found. columns_kept rows forms c column k made v h j vectors found (cases_eq j c);
    }

row_kept : (rows : ℕ) (forms : List (List VectorForm)) (c : ℕ) (column : List VectorForm) (k : ℕ) (made v : VectorForm) → Replaced rows forms c column k made v → (n : ℕ) → n < rows → row_of (set forms c (set column k made)) n ≡ row_of forms n
row_kept rows forms c column k made v h n below =
    map-set_same (λ (vectors : List VectorForm). column_cell vectors n) forms c (set column k made) []
    (cell_kept rows column k made v h.is h.stands (h.proper.columns c column h.column_is) n below
    ∙ ap (λ (vectors : List VectorForm). column_cell vectors n) (sym (get_or_from_slice_get forms c column [] h.column_is)))

pub rows_kept : (rows : ℕ) (forms : List (List VectorForm)) (c : ℕ) (column : List VectorForm) (k : ℕ) (made v : VectorForm) → Replaced rows forms c column k made v → batch_of rows (set forms c (set column k made)) ≡ batch_of rows forms
rows_kept rows forms c column k made v h =
    let after : List (List VectorForm) = set forms c (set column k made) in
    same_lists (batch_of rows after) (batch_of rows forms) (length-batch_of rows after ∙ sym (length-batch_of rows forms))
    (λ n d w. let below : n < rows = omega (arith, length-batch_of rows after) in
    get_or-batch_of rows after n d below ∙ row_kept rows forms c column k made v h n below ∙ sym (get_or-batch_of rows forms n d below))

-- ---- a segment in which a vector is looked for, and found
pub record Found (rows : ℕ) (forms : List (List VectorForm)) (s : SegmentForm) (c k : ℕ) (column : List VectorForm) (made : VectorForm) : Type 0 where
  pub v : VectorForm
  pub replaced : Replaced rows forms c column k made v
  pub here : get_or s.forms c [] ≡ column

column_within : (forms : List (List VectorForm)) (c k : ℕ) (v : VectorForm) → vector_at forms c k ≡ Some v → (c < length forms) ⊎ (length forms ≤ c) → c < length forms
column_within forms c k v is (inl h) = h
column_within forms c k v is (inr h) = absurd (let e : get_or forms c [] ≡ [] = get_or_past forms c [] h in let n : slice_get (get_or forms c []) k ≡ None = ap (λ (vs : List VectorForm). slice_get vs k) e in cc)

pub column_there : (forms : List (List VectorForm)) (c k : ℕ) (v : VectorForm) → vector_at forms c k ≡ Some v → c < length forms
column_there forms c k v is = column_within forms c k v is (cases_lt c (length forms))

pub found : (rows : ℕ) (forms : List (List VectorForm)) (s : SegmentForm) (c k : ℕ) (column : List VectorForm) (made : VectorForm) → Shows rows forms s → column ≡ get_or forms c column → IsSome (vector_at s.forms c k) → IfSome (vector_at s.forms c k) (λ v. StandsFor made v) → Found rows forms s c k column made
found rows forms s c k column made shows read there stands =
    let p = picked (vector_at s.forms c k) (λ (v : VectorForm). StandsFor made v) there stands in
    let same : forms ≡ s.forms = forms_shown rows forms s shows in
    let within : c < length s.forms = column_there s.forms c k p.0 p.1 in
    let count : length forms ≡ length s.forms = ap length same in
    let column_is : slice_get forms c ≡ Some column = slice_get_read forms (length forms) c column refl (omega arith) read in
    let here : get_or s.forms c [] ≡ column = ap (λ (f : List (List VectorForm)). get_or f c []) (sym same) ∙ get_or_from_slice_get forms c column [] column_is in
    record {
      v = p.0;
      replaced = record { proper = shows.proper; column_is = column_is; is = ap (λ (vs : List VectorForm). slice_get vs k) (sym here) ∙ p.1; stands = p.2 };
      here = here;
    }

-- a segment with the same rows and other vectors
pub same_segment : (made s : SegmentForm) (forms : List (List VectorForm)) → made.rows ≡ s.rows → made.forms ≡ forms → made ≡ record s { forms = forms }
same_segment made s forms e f = λ i. record { rows = e i; forms = f i }

-- what refuses the vector refuses the segment
pub refused_put : (s : SegmentForm) (c k : ℕ) (given : Result VectorForm Refusal) (e : Refusal) → (given ≡ Err e) ⊎ ((e ≡ Memory) × IsOk given) → (put_in s c k given ≡ Err e) ⊎ ((e ≡ Memory) × IsOk (put_in s c k given))
refused_put s c k given e (inl is) = inl (ap (put_in s c k) is)
refused_put s c k (Ok v) e (inr h) = inr (h.0, refl)
refused_put s c k (Err f) e (inr h) = absurd (let no = h.1 in cc)
