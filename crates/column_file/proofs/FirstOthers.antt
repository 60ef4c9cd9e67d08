-- The first vector that isn't canonical, put into its canonical form: the bytes of the columns then differ from those that were read
-- where those of the canonical columns do.
use Rattle.std.proofs.Common.{◌≡◌, ℕ, ◌+◌, ◌<◌, ◌≤◌, true, eqb, List, [], map, length, get_or, set, take, slice_get, slice_index_or, Some, Option, Bool, IsTrue, ℤ, Result, Ok, Err, OnOk, IfErr, inl, inr, All, sym, ap, subst, ◌∙◌, arith}
use Rattle.std.proofs.lemmas.Bool.{and_parts, eqb-true}
use Rattle.std.proofs.lemmas.List.{length-map, length-set, length-take-le, get_or-set_same, get_or-map, take-set, take_all, take_more_same}
use Rattle.std.proofs.lemmas.List.Elements.{All-from_recursion}
use Rattle.std.proofs.lemmas.Option.{slice_get_within, get_or_from_slice_get, slice_get-get_or}
use Rattle.transpose_order.specs.Place.{IsLaneWidth}
use Rattle.table_model.specs.Outcome.{Acts}
use Rattle.table_model.specs.Table.{Table}
use Rattle.table_model.specs.declared.refusal.Refusal.{Refusal}
use Rattle.table_model.specs.declared.refusal.Refusal.TheVariants.{Memory}
use Rattle.segment_core.specs.Fill.{filled}
use Rattle.segment_core.specs.Coded.{lane_width_of, least_form, coding_of}
use Rattle.segment_core.specs.Choice.{choice}
use Rattle.segment_core.specs.CodedVector.{VectorForm, cells_of, canonical_of, recoded_vector, IsVector}
use Rattle.segment_core.specs.Segment.{SegmentForm, vector_count, vector_at, rows_in, with_vector, widths_of, widths_in, batch_of, canonical_forms, canonical_vectors, recoded, recoded_found, put_in, IsSegment}
use Rattle.segment_core.specs.SegmentBytes.{column, columns, batch_columns, HasBytesIn}
use Rattle.segment_core.specs.VectorBytes.{vector}
use Rattle.segment_core.specs.Format.{Format, valid_all}
use Rattle.segment_core.specs.declared.coding.Coding.{Coding}
use Rattle.segment_core.proofs.CanonicalCopies.{canonical_copy_forms}
use Rattle.segment_core.proofs.CodedLemmas.{coding_of-least_form}
use Rattle.segment_core.proofs.VectorLaws.{vector_is_lawful}
use Rattle.segment_core.proofs.VectorLemmas.{length-cells_of, null_mask-cells_of}
use Rattle.segment_core.proofs.LaneWidths.{widths_are_lanes}
use Rattle.column_file.specs.Differing.{DifferAlike, IsFirstOther, IsFirstOtherIn, ColumnsDifferAlike}
use Rattle.column_file.proofs.Differences.{all_alike, alike_from, valid_at}

-- ---- the search

-- one more item that stays as it is
pub map_more : {A : Type 0} (f : A → A) (xs : List A) (k : ℕ) (x : A) → slice_get xs k ≡ Some x → f x ≡ x → take k (map f xs) ≡ take k xs → take (k + 1) (map f xs) ≡ take (k + 1) xs
map_more f xs k x there same front =
    let below = slice_get_within xs k x there in
    let here : get_or xs k x ≡ x = get_or_from_slice_get xs k x x there in
    let long : k < length (map f xs) = omega (arith, below, length-map xs f) in
    take_more_same (map f xs) xs k x long below front (get_or-map f xs k x x below ∙ ap f here ∙ same ∙ sym here)

-- all stay as they are
pub map_whole : {A : Type 0} (f : A → A) (xs : List A) (k : ℕ) → length xs ≤ k → take k (map f xs) ≡ take k xs → map f xs ≡ xs
map_whole f xs k past front = sym (take_all k (map f xs) (omega (arith, past, length-map xs f))) ∙ front ∙ take_all k xs past

-- a segment of which each vector is canonical
pub all_canonical : (s : SegmentForm) (rows : ℕ) → IsSegment rows s.forms → s.rows ≡ batch_of rows s.forms → map canonical_vectors s.forms ≡ s.forms → s.forms ≡ canonical_forms (widths_in s.forms) s.rows
all_canonical s rows is batch same = sym same ∙ canonical_copy_forms rows s.forms is ∙ ap (canonical_forms (widths_in s.forms)) (sym batch)

-- ---- the canonical form

-- the form that is put into the place of a vector
pub recoded_is_canonical : (v : VectorForm) (coding : Coding) → IsVector v → coding ≡ coding_of (canonical_of v).coded → recoded_vector coding v ≡ canonical_of v
recoded_is_canonical v coding is chosen =
    let t = lane_width_of v.coded in
    let full = filled (cells_of v) in
    let coding_is : coding ≡ choice t full = chosen ∙ coding_of-least_form (choice t full) t full in
    let rows = length-cells_of v in
    let nulls = null_mask-cells_of v is in
    λ i. record { rows = sym rows i; nulls = sym nulls i; coded = least_form (coding_is i) t full }

-- ---- the bytes

column_alike : (t rows : ℕ) (vs : List VectorForm) (k : ℕ) (v : VectorForm) → IsLaneWidth t → (column t rows).valid vs ≡ true → (column t rows).valid (set vs k (canonical_of v)) ≡ true → slice_get vs k ≡ Some v → IsFirstOther vs k
    → DifferAlike ((column t rows).spell vs) ((column t rows).spell (set vs k (canonical_of v))) ((column t rows).spell (canonical_vectors vs))
unfolding column
column_alike t rows vs k v lanes old new there first =
    let item : List VectorForm → Format VectorForm = λ front. vector t (rows_in rows (length front)) in
    let w = canonical_of v in
    let ws = set vs k w in
    let below = slice_get_within vs k v there in
    let long : k < length ws = omega (arith, below, length-set vs k w) in
    let long_all : k < length (canonical_vectors vs) = omega (arith, below, length-map vs canonical_of) in
    let same : take k ws ≡ take k vs = take-set vs k w in
    let at_old : get_or vs k v ≡ v = get_or_from_slice_get vs k v v there in
    let at_new : get_or ws k v ≡ w = get_or-set_same vs k w v below in
    let at_all : get_or (canonical_vectors vs) k v ≡ w = get_or-map canonical_of vs k v v below ∙ ap canonical_of at_old in
    let valid_old = valid_at item [] vs k v (and_parts (eqb (length vs) (vector_count rows)) (valid_all item [] vs) old).1 below in
    let valid_new = valid_at item [] ws k v (and_parts (eqb (length ws) (vector_count rows)) (valid_all item [] ws) new).1 long in
    let IsValid : VectorForm → Type 0 = λ u. (item (take k vs)).valid u ≡ true in
    let one : (item (take k vs)).valid v ≡ true = subst IsValid at_old valid_old in
    let two : (item (take k vs)).valid w ≡ true = subst IsValid at_new (ap (λ (front : List VectorForm). (item front).valid (get_or ws k v)) (sym same) ∙ valid_new) in
    let here = alike_from (item (take k vs)) (vector_is_lawful t (rows_in rows (length (take k vs))) lanes) v w one two (first.other v there) in
    all_alike item k v vs ws (canonical_vectors vs) below long long_all same first.front (rw (at_old, at_new, at_all) here)

columns_alike : (widths : List ℕ) (rows : ℕ) (forms : List (List VectorForm)) (c k : ℕ) (v : VectorForm) → All (λ t. IsLaneWidth t) widths → (columns widths rows).valid forms ≡ true → (columns widths rows).valid (with_vector forms c k (canonical_of v)) ≡ true
    → vector_at forms c k ≡ Some v → IsFirstOtherIn forms c k
    → DifferAlike ((columns widths rows).spell forms) ((columns widths rows).spell (with_vector forms c k (canonical_of v))) ((columns widths rows).spell (map canonical_vectors forms))
unfolding columns
columns_alike widths rows forms c k v lanes old new there first =
    let item : List (List VectorForm) → Format (List VectorForm) = λ front. column (slice_index_or widths (length front) 0) rows in
    let vs : List VectorForm = slice_index_or forms c [] in
    let ws = set vs k (canonical_of v) in
    let made = set forms c ws in
    let below = slice_get_within forms c first.vectors first.there in
    let is : vs ≡ first.vectors = get_or_from_slice_get forms c first.vectors [] first.there in
    let first_in : IsFirstOther vs k = subst (λ (xs : List VectorForm). IsFirstOther xs k) (sym is) first.first in
    let long : c < length made = omega (arith, below, length-set forms c ws) in
    let long_all : c < length (map canonical_vectors forms) = omega (arith, below, length-map forms canonical_vectors) in
    let same : take c made ≡ take c forms = take-set forms c ws in
    let at_new : get_or made c [] ≡ ws = get_or-set_same forms c ws [] below in
    let at_all : get_or (map canonical_vectors forms) c [] ≡ canonical_vectors vs = get_or-map canonical_vectors forms c [] [] below in
    let parts = and_parts (eqb (length forms) (length widths)) (valid_all item [] forms) old in
    let count : length forms ≡ length widths = eqb-true _ _ parts.0 in
    let valid_old : (item (take c forms)).valid vs ≡ true = valid_at item [] forms c [] parts.1 below in
    let valid_new = valid_at item [] made c [] (and_parts (eqb (length made) (length widths)) (valid_all item [] made) new).1 long in
    let IsValid : List VectorForm → Type 0 = λ xs. (item (take c forms)).valid xs ≡ true in
    let two : (item (take c forms)).valid ws ≡ true = subst IsValid at_new (ap (λ (front : List (List VectorForm)). (item front).valid (get_or made c [])) (sym same) ∙ valid_new) in
    let place : length (take c forms) ≡ c = length-take-le c forms (omega (arith, below)) in
    let lane : IsLaneWidth (slice_index_or widths (length (take c forms)) 0) = lanes (length (take c forms)) 0 (omega (arith, place, below, count)) in
    let here = column_alike (slice_index_or widths (length (take c forms)) 0) rows vs k v lane valid_old two there first_in in
    all_alike item c [] forms made (map canonical_vectors forms) below long long_all same first.front (rw (at_new, at_all) here)

-- ---- a segment

ok_made : Result (Unit {0} × SegmentForm) Refusal → SegmentForm → SegmentForm
ok_made (Ok x) other = x.1
ok_made (Err e) other = other

made_is : (s made : SegmentForm) (c k : ℕ) (coding : Coding) (v : VectorForm) → vector_at s.forms c k ≡ Some v → recoded s c k coding ≡ Ok (tt, made) → made.forms ≡ with_vector s.forms c k (recoded_vector coding v)
unfolding recoded ok_made
made_is s made c k coding v there is =
    let found : recoded s c k coding ≡ Ok (tt, record s { forms = with_vector s.forms c k (recoded_vector coding v) }) = ap (λ (o : Option VectorForm). put_in s c k (recoded_found coding o)) there in
    ap (λ (r : Result (Unit {0} × SegmentForm) Refusal). (ok_made r s).forms) (sym is ∙ found)

pub recoded_alike : (s made : SegmentForm) (rows c k : ℕ) (coding : Coding) (v : VectorForm) (r : Result (Unit {0}) Refusal) → IsSegment rows s.forms → s.rows ≡ batch_of rows s.forms → IsFirstOtherIn s.forms c k → vector_at s.forms c k ≡ Some v
    → coding ≡ coding_of (canonical_of v).coded → Acts (λ (done : Unit {0}). done) s r made (recoded s c k coding) → made.rows ≡ s.rows
    → ((table : Table) → widths_in s.forms ≡ widths_of table → HasBytesIn table s) → ((table : Table) → widths_in s.forms ≡ widths_of table → HasBytesIn table made) → OnOk r (ColumnsDifferAlike s made)
recoded_alike s made rows c k coding v (Err e) is batch first there chosen acts kept old new = tt
recoded_alike s made rows c k coding v (Ok done) is batch first there chosen acts kept old new = λ table widths.
    let vs : List VectorForm = slice_index_or s.forms c [] in
    let within = slice_get_within s.forms c first.vectors first.there in
    let proper : IsVector v = (is.columns c vs (slice_get-get_or s.forms c [] within)).each k v there in
    let forms : made.forms ≡ with_vector s.forms c k (canonical_of v) = made_is s made c k coding v there acts ∙ ap (with_vector s.forms c k) (recoded_is_canonical v coding proper chosen) in
    let canonical : map canonical_vectors s.forms ≡ canonical_forms (widths_of table) s.rows =
    canonical_copy_forms rows s.forms is ∙ (λ i. canonical_forms (widths i) (sym batch i)) in
    let n = length s.rows in
    let IsValid : List (List VectorForm) → Type 0 = λ fs. (batch_columns table n).valid fs ≡ true in
    let valid_old : (batch_columns table n).valid s.forms ≡ true = is_true (old table widths) in
    let valid_new : (batch_columns table n).valid (with_vector s.forms c k (canonical_of v)) ≡ true = subst IsValid forms (ap (λ (rs : List (List (Option ℤ))). (batch_columns table (length rs)).valid made.forms) (sym kept) ∙ is_true (new table widths)) in
    let lanes : All (λ t. IsLaneWidth t) (widths_of table) = All-from_recursion (λ t. IsLaneWidth t) (widths_of table) (widths_are_lanes table.columns) in
    let here = columns_alike (widths_of table) n s.forms c k v lanes valid_old valid_new there first in
    rw (forms, sym canonical) here
  where
    is_true : {b : Bool} → IsTrue b → b ≡ true
    is_true h = h

-- nothing is refused but for want of memory
pub recoded_refused : (s made : SegmentForm) (c k : ℕ) (coding : Coding) (v : VectorForm) (r : Result (Unit {0}) Refusal) → vector_at s.forms c k ≡ Some v → Acts (λ (done : Unit {0}). done) s r made (recoded s c k coding) → IfErr r (λ (e : Refusal). e ≡ Memory)
unfolding recoded
recoded_refused s made c k coding v (Ok done) there acts = tt
recoded_refused s made c k coding v (Err e) there acts =
    let found : recoded s c k coding ≡ Ok (tt, record s { forms = with_vector s.forms c k (recoded_vector coding v) }) = ap (λ (o : Option VectorForm). put_in s c k (recoded_found coding o)) there in
    elim acts.1 [
      | inl other ↦ absurd cc
      | inr memory ↦ memory.0
    ]
