-- A column's cells are gathered row by row: nulls into a mask, and values into their places.
use Rattle.std.proofs.Common.{◌≡◌, ◌≢◌, ℕ, zero, suc, ◌+◌, ◌<◌, ◌≤◌, ◌⊎◌, inl, inr, Bool, false, cond, ℤ, pos, List, [], ◌∷◌, take, drop, length, get_or, Option, Some, None, IfSome, min, ◌-◌, refl, sym, ◌∙◌, ap, subst, arith}
use Rattle.std.proofs.lemmas.List.{same_lists, get_or_past, get_or_read, take_all, length-drop, get_or_default}
use Rattle.std.proofs.lemmas.Bool.{cases_lt, cases_eq}
use Rattle.transpose_order.specs.Mask.{has}
use Rattle.bit_interleave.specs.Range.{value_at}
use Rattle.table_model.specs.State.{Cells, Batch}
use Rattle.segment_core.specs.Fill.{cells_under}
use Rattle.segment_core.specs.CodedVector.{is_null_cell, null_rows}
use Rattle.segment_core.specs.Segment.{column_cells}
use Rattle.segment_core.proofs.FillLemmas.{length-cells_under, get_or-cells_under}
use Rattle.segment_core.proofs.VectorLemmas.{null_rows_is}

-- ---- a column's cells
pub length-column_cells : (rows : Batch) (c : ℕ) → length (column_cells rows c) ≡ length rows
length-column_cells [] c = refl
length-column_cells (row ∷ rows) c = ap suc (length-column_cells rows c)

pub get_or-column_cells : (rows : Batch) (c k : ℕ) → k < length rows → get_or (column_cells rows c) k None ≡ get_or (get_or rows k []) c None
get_or-column_cells [] c k h = absurd (omega arith)
get_or-column_cells (row ∷ rows) c zero h = refl
get_or-column_cells (row ∷ rows) c (suc k) h = get_or-column_cells rows c k (omega arith)

-- ---- the rows so far
pub record Gathering (cells : List (Option ℤ)) (n : ℕ) (nulls : List Bool) (values : List ℤ) : Type 0 where
  pub long : length nulls ≡ 1024
  pub null_so_far : (k : ℕ) → k < n → has nulls k ≡ is_null_cell (get_or cells k None)
  pub null_later : (k : ℕ) → n ≤ k → k < 1024 → has nulls k ≡ false
  pub values_so_far : (k : ℕ) (z : ℤ) → k < n → get_or cells k None ≡ Some z → value_at values k ≡ z

-- a cell put into its place
pub record IsPut (cell : Option ℤ) (row : ℕ) (nulls nulls_after : List Bool) (values values_after : List ℤ) : Type 0 where
  pub null : has nulls_after row ≡ is_null_cell cell
  pub other_nulls : (n : ℕ) → n < 1024 → n ≢ row → has nulls_after n ≡ has nulls n
  pub long : length nulls_after ≡ 1024
  pub value : (z : ℤ) → cell ≡ Some z → value_at values_after row ≡ z
  pub other_values : (n : ℕ) → n ≢ row → value_at values_after n ≡ value_at values n

null_upto : (cells : List (Option ℤ)) (n : ℕ) (nulls after : List Bool) (values values_after : List ℤ) → n < 1024 → Gathering cells n nulls values → IsPut (get_or cells n None) n nulls after values values_after → (k : ℕ) → k < suc n → (k ≡ n) ⊎ (k ≢ n) → has after k ≡ is_null_cell (get_or cells k None)
null_upto cells n nulls after values values_after below g p k l (inl e) = ap (has after) e ∙ p.null ∙ ap (λ j. is_null_cell (get_or cells j None)) (sym e)
null_upto cells n nulls after values values_after below g p k l (inr ne) = p.other_nulls k (omega arith) ne ∙ g.null_so_far k (omega arith)

value_upto : (cells : List (Option ℤ)) (n : ℕ) (nulls after : List Bool) (values values_after : List ℤ) → Gathering cells n nulls values → IsPut (get_or cells n None) n nulls after values values_after → (k : ℕ) (z : ℤ) → k < suc n → get_or cells k None ≡ Some z → (k ≡ n) ⊎ (k ≢ n) → value_at values_after k ≡ z
value_upto cells n nulls after values values_after g p k z l c (inl e) = ap (value_at values_after) e ∙ p.value z (ap (λ j. get_or cells j None) (sym e) ∙ c)
value_upto cells n nulls after values values_after g p k z l c (inr ne) = p.other_values k ne ∙ g.values_so_far k z (omega arith) c

pub gather_step : (cells : List (Option ℤ)) (n : ℕ) (nulls after : List Bool) (values values_after : List ℤ) → n < 1024 → Gathering cells n nulls values → IsPut (get_or cells n None) n nulls after values values_after → Gathering cells (suc n) after values_after
gather_step cells n nulls after values values_after below g p = record {
  long = p.long;
  null_so_far = λ k l. null_upto cells n nulls after values values_after below g p k l (cases_eq k n);
  null_later = λ k l m. let ne : k ≢ n = omega arith in p.other_nulls k m ne ∙ g.null_later k (omega arith) m;
  values_so_far = λ k z l c. value_upto cells n nulls after values values_after g p k z l c (cases_eq k n);
}

-- ---- all rows
null_at_all : (cells : List (Option ℤ)) (nulls : List Bool) (values : List ℤ) → Gathering cells (length cells) nulls values → (k : ℕ) → k < 1024 → (k < length cells) ⊎ (length cells ≤ k) → has nulls k ≡ is_null_cell (get_or cells k (Some (pos 0)))
null_at_all cells nulls values g k l (inl h) = g.null_so_far k h ∙ ap is_null_cell (get_or_default cells k None (Some (pos 0)) h)
null_at_all cells nulls values g k l (inr h) = g.null_later k h l ∙ sym (ap is_null_cell (get_or_past cells k (Some (pos 0)) h))

pub gathered_nulls : (cells : List (Option ℤ)) (nulls : List Bool) (values : List ℤ) → Gathering cells (length cells) nulls values → nulls ≡ null_rows cells
gathered_nulls cells nulls values g = null_rows_is cells nulls g.long (λ k l. null_at_all cells nulls values g k l (cases_lt k (length cells)))

read_back : (cell : Option ℤ) (b : Bool) (z : ℤ) → b ≡ is_null_cell cell → ((y : ℤ) → cell ≡ Some y → z ≡ y) → cond b None (Some z) ≡ cell
read_back None b z e h = ap (λ x. cond x None (Some z)) e
read_back (Some y) b z e h = ap (λ x. cond x None (Some z)) e ∙ ap Some (h y refl)

pub gathered_cells : (cells : List (Option ℤ)) (rows : ℕ) (nulls : List Bool) (values : List ℤ) → rows ≡ length cells → Gathering cells (length cells) nulls values → cells_under rows nulls values ≡ cells
gathered_cells cells rows nulls values count g =
    same_lists (cells_under rows nulls values) cells (length-cells_under rows nulls values ∙ count)
    (λ k d l.
    let below : k < rows = omega (arith, length-cells_under rows nulls values) in
    let within : k < length cells = omega arith in
    get_or-cells_under rows nulls values k d below
    ∙ read_back (get_or cells k None) (has nulls k) (value_at values k) (g.null_so_far k within) (λ y e. g.values_so_far k y within e)
    ∙ get_or_default cells k None d within)

-- ---- what the loop reads
pub if_some : (cell : Option ℤ) (P : ℤ → Type 0) → ((z : ℤ) → cell ≡ Some z → P z) → IfSome cell P
if_some None P h = tt
if_some (Some z) P h = h z refl

pub of_some : (cell : Option ℤ) (P : ℤ → Type 0) (z : ℤ) → IfSome cell P → cell ≡ Some z → P z
of_some None P z h e = absurd (cc)
of_some (Some y) P z h e = let same : y ≡ z = cc in subst P same h

pub cell_read : (rows : Batch) (c n : ℕ) (row : Cells) (cell : Option ℤ) → n < length rows → row ≡ get_or rows n row → cell ≡ get_or row c None → cell ≡ get_or (column_cells rows c) n None
cell_read rows c n row cell h read is =
    is ∙ ap (λ (r : Cells). get_or r c None) (get_or_read rows n row h read []) ∙ sym (get_or-column_cells rows c n h)

-- ---- the rows of one vector
taken_at : {X : Type 0} (xs : List X) (a end : ℕ) → a ≤ length xs → end ≡ min (length xs) (a + 1024) → (a + 1024 < length xs) ⊎ (length xs ≤ a + 1024) → take (end - a) (drop a xs) ≡ take 1024 (drop a xs)
taken_at xs a end h e (inl l) = ap (λ n. take n (drop a xs)) (let r : end - a ≡ 1024 = omega arith in r)
taken_at xs a end h e (inr l) =
    let short = length-drop a xs in
    take_all (end - a) (drop a xs) (omega arith) ∙ sym (take_all 1024 (drop a xs) (omega arith))

pub taken : {X : Type 0} (xs : List X) (a end : ℕ) → a ≤ length xs → end ≡ min (length xs) (a + 1024) → take (end - a) (drop a xs) ≡ take 1024 (drop a xs)
taken xs a end h e = taken_at xs a end h e (cases_lt (a + 1024) (length xs))
