-- Coded vectors: their cells, the filled vector of their cells, and the canonical vector.
use Rattle.std.proofs.Common.{◌≡◌, ℕ, zero, suc, ◌<◌, ◌≤◌, ◌⊎◌, inl, inr, Bool, true, false, cond, ℤ, pos, FitsSigned, List, [], ◌∷◌, take, length, get_or, Option, Some, None, refl, sym, ◌∙◌, ap, subst, arith, rules}
use Rattle.std.specs.List.{list_any, All}
use Rattle.std.proofs.lemmas.List.FromFn.{length-map-range_with_len, get_or-map-range_with_len}
use Rattle.std.proofs.lemmas.List.Elements.{All-get_or, All-from_get_or}
use Rattle.std.proofs.lemmas.List.Folds.{list_any_none, list_any_at}
use Rattle.std.proofs.lemmas.List.{same_lists, get_or_past, get_or-take, length-take, get_or_default}
use Rattle.std.proofs.lemmas.Bool.{cases_lt}
use Rattle.transpose_order.specs.Place.{IsLaneWidth}
use Rattle.transpose_order.specs.Mask.{rows_of, has}
use Rattle.transpose_order.specs.MaskWords.{length-rows_of, has-rows_of, rows_of-same}
use Rattle.transpose_order.proofs.WidthLemmas.{at_widths}
use Rattle.bit_interleave.specs.Arithmetic.{integer_width}
use Rattle.bit_interleave.specs.Range.{AreInRange, value_at}
use Rattle.table_model.specs.Values.{present}
use Rattle.segment_core.specs.Fill.{first_or, last_or, filled_at, filled, cells_under}
use Rattle.segment_core.specs.Coded.{value_in, values_of, lane_width_of, coding_of, least_form, IsCodedForm}
use Rattle.segment_core.specs.Choice.{choice, canonical_form}
use Rattle.segment_core.specs.CodedVector.{VectorForm, is_null, vector_cell, cells_of, is_null_cell, null_rows, some_rows, null_mask, canonical_vector, recoded_vector, IsNullMask, AreNulls, IsVector, StandsFor}
use Rattle.segment_core.specs.declared.coding.Coding.{Coding}
use Rattle.segment_core.specs.declared.coded.Coded.{Coded}
use Rattle.segment_core.specs.declared.coded.Coded.TheVariants.{For, Delta, Runs, Dict}
use Rattle.segment_core.proofs.FillLemmas.{length-filled, value_at-filled, filled_at-some, length-cells_under, get_or-cells_under}
use Rattle.segment_core.proofs.CodedLemmas.{value_at-values_of, length-values_of, AreInRange-values_of, values_of-least_form, value_in-least_form, coding_of-least_form, lane_width_of-least_form, least_form_is_a_form}

-- ---- a vector's cells
pub length-cells_of : (v : VectorForm) → length (cells_of v) ≡ v.rows
unfolding cells_of
length-cells_of v = length-map-range_with_len (vector_cell v) 0 v.rows

pub get_or-cells_of : (v : VectorForm) (n : ℕ) (d : Option ℤ) → n < v.rows → get_or (cells_of v) n d ≡ vector_cell v n
unfolding cells_of
get_or-cells_of v n d h = get_or-map-range_with_len (vector_cell v) 0 v.rows n n d h (omega arith)

-- they are the cells of its rows where its null mask has none of them, and its values stand
pub cells_of-under : (v : VectorForm) (rows : ℕ) (mask : List Bool) (values : List ℤ) → v.rows ≡ rows → rows ≤ 1024 → mask ≡ rows_of (is_null v.nulls) → values ≡ values_of v.coded → cells_under rows mask values ≡ cells_of v
cells_of-under v rows mask values r l m e =
    same_lists (cells_under rows mask values) (cells_of v) (length-cells_under rows mask values ∙ sym (length-cells_of v ∙ r))
    (λ n d w.
    let below : n < rows = omega (arith, length-cells_under rows mask values) in
    get_or-cells_under rows mask values n d below
    ∙ ap (λ b. cond b None (Some (value_at values n))) (ap (λ x. has x n) m ∙ has-rows_of (is_null v.nulls) n (omega arith))
    ∙ ap (λ z. cond (is_null v.nulls n) None (Some z)) (ap (λ x. value_at x n) e ∙ value_at-values_of v.coded n (omega arith))
    ∙ sym (get_or-cells_of v n d (omega arith)))

-- ---- filled values are in range
head_of : (P : ℤ → Type 0) (z : ℤ) (zs : List ℤ) → All P (z ∷ zs) → P z
head_of P z zs h = h 0 z (omega arith)

tail_of : (P : ℤ → Type 0) (z : ℤ) (zs : List ℤ) → All P (z ∷ zs) → All P zs
tail_of P z zs h = λ k d l. h (suc k) d (omega arith)

put_at : (P : ℤ → Type 0) (z : ℤ) (zs : List ℤ) → P z → All P zs → (k : ℕ) (d : ℤ) → k < suc (length zs) → P (get_or (z ∷ zs) k d)
put_at P z zs p h zero d l = p
put_at P z zs p h (suc k) d l = h k d (omega arith)

put_first : (P : ℤ → Type 0) (z : ℤ) (zs : List ℤ) → P z → All P zs → All P (z ∷ zs)
put_first P z zs p h = λ k d l. put_at P z zs p h k d l

fits_first : (P : ℤ → Type 0) (d : ℤ) (zs : List ℤ) → P d → All P zs → P (first_or d zs)
fits_first P d [] p h = p
fits_first P d (z ∷ zs) p h = head_of P z zs h

fits_last : (P : ℤ → Type 0) (d : ℤ) (zs : List ℤ) → P d → All P zs → P (last_or d zs)
fits_last P d [] p h = p
fits_last P d (z ∷ zs) p h = fits_last P z zs (head_of P z zs h) (tail_of P z zs h)

-- each value among cells has a property
abbrev pub HaveAll : (ℤ → Type 0) → List (Option ℤ) → Type 0
HaveAll P cells = (n : ℕ) (z : ℤ) → n < length cells → get_or cells n None ≡ Some z → P z

all_present : (P : ℤ → Type 0) (cells : List (Option ℤ)) → HaveAll P cells → All P (present cells)
all_present P [] h = λ k d l. absurd (omega arith)
all_present P (None ∷ cells) h = all_present P cells (λ n z l e. h (suc n) z (omega arith) e)
all_present P (Some z ∷ cells) h = put_first P z (present cells) (h 0 z (omega arith) refl) (all_present P cells (λ n z l e. h (suc n) z (omega arith) e))

have_all-take : (P : ℤ → Type 0) (cells : List (Option ℤ)) (k : ℕ) → HaveAll P cells → HaveAll P (take k cells)
have_all-take P cells k h = λ n z l e.
    let short = length-take k cells in
    let below : n < k = omega arith in
    h n z (omega arith) (sym (get_or-take k cells n None below) ∙ e)

pub filled_fits : (P : ℤ → Type 0) (cells : List (Option ℤ)) → P (pos 0) → HaveAll P cells → All P (filled cells)
unfolding filled_at
filled_fits P cells zero_fits h =
    All-from_get_or P (filled cells) (pos 0)
    (λ n l. let below : n < 1024 = omega (arith, length-filled cells) in
    subst P (sym (value_at-filled cells n below))
    (fits_last P (first_or (pos 0) (present cells)) (present (take (suc n) cells))
    (fits_first P (pos 0) (present cells) zero_fits (all_present P cells h))
    (all_present P (take (suc n) cells) (have_all-take P cells (suc n) h))))

zero_fits : (t : ℕ) → IsLaneWidth t → FitsSigned (integer_width t) (pos 0)
zero_fits = at_widths (λ t. FitsSigned (integer_width t) (pos 0)) (search rules) (search rules) (search rules) (search rules)

pub filled_in_range : (t : ℕ) (cells : List (Option ℤ)) → IsLaneWidth t → HaveAll (λ z. FitsSigned (integer_width t) z) cells → AreInRange t (filled cells)
filled_in_range t cells w h = filled_fits (λ z. FitsSigned (integer_width t) z) cells (zero_fits t w) h

-- a cell that is a value is the value
a_value : (b : Bool) (x z : ℤ) → cond b None (Some x) ≡ Some z → (b ≡ false) × (x ≡ z)
a_value true x z e = absurd (cc)
a_value false x z e = (refl, let f : Some x ≡ Some z = e in cc)

pub cells_in_range : (v : VectorForm) → IsVector v → HaveAll (λ z. FitsSigned (integer_width (lane_width_of v.coded)) z) (cells_of v)
cells_in_range v is = λ n z w e.
    let below : n < v.rows = omega (arith, length-cells_of v) in
    let limit = is.limit in
    let same = a_value (is_null v.nulls n) (value_in v.coded n) z (sym (get_or-cells_of v n None below) ∙ e) in
    let read : value_at (values_of v.coded) n ≡ z = value_at-values_of v.coded n (omega arith) ∙ same.1 in
    subst (λ (x : ℤ). FitsSigned (integer_width (lane_width_of v.coded)) x) read
    (All-get_or (λ x. FitsSigned (integer_width (lane_width_of v.coded)) x) (values_of v.coded) n (pos 0) (omega (arith, length-values_of v.coded)) (AreInRange-values_of v.coded is.form))

-- ---- another form of the filled vector stands for the same cells
form_cell : (coding : Coding) (t : ℕ) (cells : List (Option ℤ)) → IsLaneWidth t → HaveAll (λ z. FitsSigned (integer_width t) z) cells → length cells ≤ 1024 → (n : ℕ) (z : ℤ) → n < length cells → get_or cells n None ≡ Some z → value_in (least_form coding t (filled cells)) n ≡ z
form_cell coding t cells w fit limit n z h e =
    value_in-least_form coding t (filled cells) n w (length-filled cells) (filled_in_range t cells w fit) (omega arith)
    ∙ value_at-filled cells n (omega arith) ∙ filled_at-some cells n z h e

same_cond : (b : Bool) (x y : ℤ) → (b ≡ false → x ≡ y) → cond b None (Some x) ≡ cond b None (Some y)
same_cond true x y h = refl
same_cond false x y h = ap Some (h refl)

-- ---- null masks
any_row : (xs : List Bool) → list_any (λ row. row) xs ≡ true → (n : ℕ) × (n < length xs) × (get_or xs n false ≡ true)
any_row [] e = absurd (cc)
any_row (true ∷ xs) e = (0, omega arith, refl)
any_row (false ∷ xs) e = let r = any_row xs e in (suc r.0, let l = r.1 in omega arith, r.2)

pub no_row : (xs : List Bool) → ((n : ℕ) → n < length xs → get_or xs n false ≡ false) → list_any (λ row. row) xs ≡ false
no_row xs h = list_any_none (λ row. row) xs (All-from_get_or (λ row. row ≡ false) xs false h)

pub some_row : (xs : List Bool) (n : ℕ) → n < length xs → get_or xs n false ≡ true → list_any (λ row. row) xs ≡ true
some_row xs n l e = list_any_at (λ row. row) xs n false l e

pub length-null_rows : (cells : List (Option ℤ)) → length (null_rows cells) ≡ 1024
unfolding null_rows
length-null_rows cells = length-rows_of (λ n. is_null_cell (get_or cells n (Some (pos 0))))

pub has-null_rows : (cells : List (Option ℤ)) (n : ℕ) → n < 1024 → has (null_rows cells) n ≡ is_null_cell (get_or cells n (Some (pos 0)))
unfolding null_rows
has-null_rows cells n h = has-rows_of (λ n. is_null_cell (get_or cells n (Some (pos 0)))) n h

pub null_rows_is : (cells : List (Option ℤ)) (mask : List Bool) → length mask ≡ 1024 → ((n : ℕ) → n < 1024 → has mask n ≡ is_null_cell (get_or cells n (Some (pos 0)))) → mask ≡ null_rows cells
unfolding null_rows
null_rows_is cells mask l h = rows_of-same (λ n. is_null_cell (get_or cells n (Some (pos 0)))) mask false l h

pub null_past : (cells : List (Option ℤ)) (n : ℕ) → length cells ≤ n → (n < 1024) ⊎ (1024 ≤ n) → has (null_rows cells) n ≡ false
null_past cells n h (inl l) = has-null_rows cells n l ∙ ap is_null_cell (get_or_past cells n (Some (pos 0)) h)
null_past cells n h (inr l) = get_or_past (null_rows cells) n false (omega (arith, length-null_rows cells))

null_within : (cells : List (Option ℤ)) (n : ℕ) → n < 1024 → has (null_rows cells) n ≡ true → (n < length cells) ⊎ (length cells ≤ n) → n < length cells
null_within cells n l e (inl h) = h
null_within cells n l e (inr h) = absurd (let f = null_past cells n h (inl l) in cc)

proper_at : (cells : List (Option ℤ)) → length cells ≤ 1024 → (b : Bool) → list_any (λ row. row) (null_rows cells) ≡ b → AreNulls (length cells) (cond b (Some (null_rows cells)) None)
proper_at cells limit true e =
    let r = any_row (null_rows cells) e in
    let below : r.0 < 1024 = omega (arith, r.1, length-null_rows cells) in
    record {
      long = length-null_rows cells;
      one = (r.0, null_within cells r.0 below r.2 (cases_lt r.0 (length cells)), r.2);
      past = λ n h. null_past cells n h (cases_lt n 1024);
    }
proper_at cells limit false e = tt

pub null_mask_proper : (cells : List (Option ℤ)) → length cells ≤ 1024 → AreNulls (length cells) (null_mask cells)
null_mask_proper cells limit = proper_at cells limit (list_any (λ row. row) (null_rows cells)) refl

null_cell : (b : Bool) (z : ℤ) → is_null_cell (cond b None (Some z)) ≡ b
null_cell true z = refl
null_cell false z = refl

cell_null : (v : VectorForm) (n : ℕ) → n < v.rows → is_null_cell (get_or (cells_of v) n (Some (pos 0))) ≡ is_null v.nulls n
cell_null v n h = ap is_null_cell (get_or-cells_of v n (Some (pos 0)) h) ∙ null_cell (is_null v.nulls n) (value_in v.coded n)

no_null_at : (rows : ℕ) (coded : Coded) (n : ℕ) → n < 1024 → (n < rows) ⊎ (rows ≤ n) → has (null_rows (cells_of (record { rows = rows; nulls = None; coded = coded }))) n ≡ false
no_null_at rows coded n l (inl h) = has-null_rows _ n l ∙ cell_null (record { rows = rows; nulls = None; coded = coded }) n h
no_null_at rows coded n l (inr h) =
    let v : VectorForm = record { rows = rows; nulls = None; coded = coded } in
    null_past (cells_of v) n (omega (arith, length-cells_of v)) (inl l)

mask_at : (rows : ℕ) (mask : List Bool) (coded : Coded) → IsNullMask rows mask → (n : ℕ) → (n < rows) ⊎ (rows ≤ n) → has mask n ≡ is_null_cell (get_or (cells_of (record { rows = rows; nulls = Some mask; coded = coded })) n (Some (pos 0)))
mask_at rows mask coded h n (inl l) = sym (cell_null (record { rows = rows; nulls = Some mask; coded = coded }) n l)
mask_at rows mask coded h n (inr l) =
    let v : VectorForm = record { rows = rows; nulls = Some mask; coded = coded } in
    h.past n l ∙ sym (ap is_null_cell (get_or_past (cells_of v) n (Some (pos 0)) (omega (arith, length-cells_of v))))

mask_of_cells : (rows : ℕ) (nulls : Option (List Bool)) (coded : Coded) → rows ≤ 1024 → AreNulls rows nulls → null_mask (cells_of (record { rows = rows; nulls = nulls; coded = coded })) ≡ nulls
mask_of_cells rows None coded limit h =
    let cells : List (Option ℤ) = cells_of (record { rows = rows; nulls = None; coded = coded }) in
    ap (λ b. cond b (Some (null_rows cells)) None)
    (no_row (null_rows cells) (λ n l. no_null_at rows coded n (omega (arith, length-null_rows cells)) (cases_lt n rows)))
mask_of_cells rows (Some mask) coded limit h =
    let cells : List (Option ℤ) = cells_of (record { rows = rows; nulls = Some mask; coded = coded }) in
    let same : mask ≡ null_rows cells = null_rows_is cells mask h.long (λ n l. mask_at rows mask coded h n (cases_lt n rows)) in
    let within : h.one.0 < length mask = let a = h.one.1 in let b = h.long in omega arith in
    ap some_rows (sym same) ∙ ap (λ b. cond b (Some mask) None) (some_row mask h.one.0 within h.one.2)

pub null_mask-cells_of : (v : VectorForm) → IsVector v → null_mask (cells_of v) ≡ v.nulls
null_mask-cells_of v is = mask_of_cells v.rows v.nulls v.coded is.limit is.nulls

-- ---- canonical vectors
pub canonical_from : (v : VectorForm) (t : ℕ) → IsVector v → t ≡ lane_width_of v.coded → values_of v.coded ≡ filled (cells_of v) → v.coded ≡ least_form (coding_of v.coded) t (values_of v.coded) → choice t (filled (cells_of v)) ≡ coding_of v.coded → v ≡ canonical_vector t (cells_of v)
canonical_from v t is width values least chosen =
    let rows : v.rows ≡ length (cells_of v) = sym (length-cells_of v) in
    let nulls : v.nulls ≡ null_mask (cells_of v) = sym (null_mask-cells_of v is) in
    let coded : v.coded ≡ canonical_form t (filled (cells_of v)) = least ∙ ap (λ xs. least_form (coding_of v.coded) t xs) values ∙ ap (λ k. least_form k t (filled (cells_of v))) (sym chosen) in
    λ i. record { rows = rows i; nulls = nulls i; coded = coded i }

pub record CanonicalParts (v : VectorForm) (t : ℕ) : Type 0 where
  pub values : values_of v.coded ≡ filled (cells_of v)
  pub least : v.coded ≡ least_form (coding_of v.coded) t (values_of v.coded)
  pub chosen : choice t (filled (cells_of v)) ≡ coding_of v.coded

pub canonical_parts : (v : VectorForm) (t : ℕ) → IsVector v → IsLaneWidth t → t ≡ lane_width_of v.coded → v ≡ canonical_vector t (cells_of v) → CanonicalParts v t
canonical_parts v t is w width e =
    let full : List ℤ = filled (cells_of v) in
    let coded : v.coded ≡ least_form (choice t full) t full = ap (λ (x : VectorForm). x.coded) e in
    let fit : AreInRange t full = filled_in_range t (cells_of v) w (λ n z l c. subst (λ u. FitsSigned (integer_width u) z) (sym width) (cells_in_range v is n z l c)) in
    let values : values_of v.coded ≡ full = ap values_of coded ∙ values_of-least_form (choice t full) t full w (length-filled (cells_of v)) fit in
    let chosen : choice t full ≡ coding_of v.coded = sym (ap coding_of coded ∙ coding_of-least_form (choice t full) t full) in
    record {
      values = values;
      least = coded ∙ ap (λ k. least_form k t full) chosen ∙ ap (λ xs. least_form (coding_of v.coded) t xs) (sym values);
      chosen = chosen;
    }

pub canonical_is_a_vector : (t : ℕ) (cells : List (Option ℤ)) → IsLaneWidth t → 1 ≤ length cells → length cells ≤ 1024 → HaveAll (λ z. FitsSigned (integer_width t) z) cells → IsVector (canonical_vector t cells)
canonical_is_a_vector t cells w some limit fit = record {
  form = least_form_is_a_form (choice t (filled cells)) t (filled cells) w (length-filled cells) (filled_in_range t cells w fit);
  some = some;
  limit = limit;
  nulls = null_mask_proper cells limit;
}

canonical_cell_at : (cells : List (Option ℤ)) (n : ℕ) (cell : Option ℤ) (z : ℤ) → cell ≡ get_or cells n None → ((y : ℤ) → cell ≡ Some y → z ≡ y) → cond (is_null_cell cell) None (Some z) ≡ cell
canonical_cell_at cells n None z e h = refl
canonical_cell_at cells n (Some y) z e h = ap Some (h y refl)

not_there : (mask : List Bool) (n : ℕ) → n < length mask → list_any (λ row. row) mask ≡ false → (b : Bool) → has mask n ≡ b → false ≡ b
not_there mask n l e true f = absurd (let g = some_row mask n l f in cc)
not_there mask n l e false f = refl

some_mask : (mask : List Bool) (n : ℕ) → n < length mask → (b : Bool) → list_any (λ row. row) mask ≡ b → is_null (cond b (Some mask) None) n ≡ has mask n
some_mask mask n l true e = refl
some_mask mask n l false e = not_there mask n l e (has mask n) refl

-- the cells of the canonical vector are those that it was made of
pub canonical_cell : (t : ℕ) (cells : List (Option ℤ)) (n : ℕ) → IsLaneWidth t → length cells ≤ 1024 → HaveAll (λ z. FitsSigned (integer_width t) z) cells → n < length cells → vector_cell (canonical_vector t cells) n ≡ get_or cells n None
canonical_cell t cells n w limit fit h =
    let null : is_null (null_mask cells) n ≡ is_null_cell (get_or cells n None) =
    some_mask (null_rows cells) n (omega (arith, length-null_rows cells)) (list_any (λ row. row) (null_rows cells)) refl
    ∙ has-null_rows cells n (omega arith) ∙ ap is_null_cell (get_or_default cells n (Some (pos 0)) None h) in
    ap (λ b. cond b None (Some (value_in (canonical_form t (filled cells)) n))) null
    ∙ canonical_cell_at cells n (get_or cells n None) (value_in (canonical_form t (filled cells)) n) refl
    (λ y e. form_cell (choice t (filled cells)) t cells w fit limit n y h e)

pub recoded_is_a_vector : (coding : Coding) (v : VectorForm) → IsVector v → IsLaneWidth (lane_width_of v.coded) → IsVector (recoded_vector coding v)
recoded_is_a_vector coding v is w = record {
  form = least_form_is_a_form coding (lane_width_of v.coded) (filled (cells_of v)) w (length-filled (cells_of v)) (filled_in_range (lane_width_of v.coded) (cells_of v) w (cells_in_range v is));
  some = is.some;
  limit = is.limit;
  nulls = is.nulls;
}

pub recoded_stands : (coding : Coding) (v : VectorForm) → IsVector v → IsLaneWidth (lane_width_of v.coded) → StandsFor (recoded_vector coding v) v
recoded_stands coding v is w = record {
  form = recoded_is_a_vector coding v is w;
  rows = refl;
  lane_width = lane_width_of-least_form coding (lane_width_of v.coded) (filled (cells_of v));
  cells = λ n h. same_cond (is_null v.nulls n) _ _
      (λ not_null.
      let limit = is.limit in
      let count = length-cells_of v in
      let here : get_or (cells_of v) n None ≡ Some (value_in v.coded n) = get_or-cells_of v n None h ∙ ap (λ b. cond b None (Some (value_in v.coded n))) not_null in
      form_cell coding (lane_width_of v.coded) (cells_of v) w (cells_in_range v is) (omega arith) n (value_in v.coded n) (omega arith) here);
}

-- a form's lane width is a lane width
pub lane_width_is : (c : Coded) → IsCodedForm c → IsLaneWidth (lane_width_of c)
lane_width_is (For form) is = is.lane_width
lane_width_is (Delta form) is = is.lane_width
lane_width_is (Runs form) is = is.lane_width
lane_width_is (Dict form) is = is.lane_width

pub lane_width-canonical : (t : ℕ) (cells : List (Option ℤ)) → lane_width_of (canonical_vector t cells).coded ≡ t
lane_width-canonical t cells = lane_width_of-least_form (choice t (filled cells)) t (filled cells)
