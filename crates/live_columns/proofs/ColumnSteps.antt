-- A column's cells at one vector more.
use Rattle.std.proofs.Common.{◌≡◌, ℕ, zero, suc, ◌+◌, ◌*◌, ◌≤◌, ◌<◌, ℤ, Bool, cond, List, [], ◌∷◌, ◌++◌, map, length, take, drop, set, get_or, count_by, Option, is_none, refl, sym, ap, subst, ◌∙◌, arith, append_assoc, append-nil}
use Rattle.std.specs.List.{flat_map}
use Rattle.std.proofs.lemmas.Grind.{flat_map-append}
use Rattle.std.proofs.lemmas.List.{drop_at, length-append, length-map, map-append, set_split, take_at, take_more}
use Rattle.std.proofs.lemmas.List.Sums.{sum_by-append, count_by-le-length}
use borrow.Rule.Slice.PartMut.{put_mid}
use Rattle.table_model.specs.State.{State, Cells}
use Rattle.table_model.specs.declared.names.RowName.{RowName}
use Rattle.transpose_order.proofs.ByteLemmas.{length-bytes_of_bits}
use Rattle.query_eval.specs.declared.filter.kept_rows.KeptVector.{KeptVector}
use Rattle.live_columns.specs.Chosen.{cells_in, columns_in, kept_in}
use Rattle.live_columns.specs.Columns.{has_value, null_count, number_at, numbers_of, stride_of, validities, validity}

pub cells-append : (column : ℕ) (xs ys : List (RowName × Cells)) → cells_in column (xs ++ ys) ≡ cells_in column xs ++ cells_in column ys
cells-append column xs ys = map-append _ xs ys

pub cells-length : (column : ℕ) (rows : List (RowName × Cells)) → length (cells_in column rows) ≡ length rows
cells-length column rows = length-map {B = Option ℤ} rows _

-- their numbers
pub step-values : (s r : State) (column first rows : ℕ) (kept : KeptVector) (front all : List (RowName × Cells)) (old new : List ℤ) → r ≡ s → all ≡ front ++ kept_in s kept → rows ≡ length (kept_in s kept) → take first old ≡ map number_at (cells_in column front) →
    take (first + length (kept_in r kept)) new ≡ take first old ++ map number_at (cells_in column (kept_in r kept)) → take (first + rows) new ≡ map number_at (cells_in column all)
step-values s r column first rows kept front all old new same more many before here =
    let now : take (first + length (kept_in s kept)) new ≡ take first old ++ map number_at (cells_in column (kept_in s kept)) =
    subst (λ (x : State). take (first + length (kept_in x kept)) new ≡ take first old ++ map number_at (cells_in column (kept_in x kept))) same here in
    ap (λ n. take (first + n) new) many ∙ now ∙ ap (λ l. l ++ map number_at (cells_in column (kept_in s kept))) before
    ∙ sym (map-append number_at (cells_in column front) (cells_in column (kept_in s kept)))
    ∙ ap (map number_at) (sym (cells-append column front (kept_in s kept))) ∙ ap (λ l. map number_at (cells_in column l)) (sym more)

-- which are null
pub step-flags : (s r : State) (column : ℕ) (kept : KeptVector) (front all : List (RowName × Cells)) → r ≡ s → all ≡ front ++ kept_in s kept →
    map is_none (cells_in column front) ++ map is_none (cells_in column (kept_in r kept)) ≡ map is_none (cells_in column all)
step-flags s r column kept front all same more =
    ap (λ (x : State). map is_none (cells_in column front) ++ map is_none (cells_in column (kept_in x kept))) same
    ∙ sym (map-append is_none (cells_in column front) (cells_in column (kept_in s kept)))
    ∙ ap (map is_none) (sym (cells-append column front (kept_in s kept))) ∙ ap (λ l. map is_none (cells_in column l)) (sym more)

-- how many are
pub step-nulls : (s r : State) (column : ℕ) (kept : KeptVector) (front all : List (RowName × Cells)) → r ≡ s → all ≡ front ++ kept_in s kept →
    null_count (cells_in column front) + null_count (cells_in column (kept_in r kept)) ≡ null_count (cells_in column all)
step-nulls s r column kept front all same more =
    ap (λ (x : State). null_count (cells_in column front) + null_count (cells_in column (kept_in x kept))) same
    ∙ sym (sum_by-append (λ (o : Option ℤ). cond (is_none o) 1 0) (cells_in column front) (cells_in column (kept_in s kept)))
    ∙ ap null_count (sym (cells-append column front (kept_in s kept))) ∙ ap (λ l. null_count (cells_in column l)) (sym more)

-- no more than rows
pub nulls-few : (column : ℕ) (rows : List (RowName × Cells)) → null_count (cells_in column rows) ≤ length rows
nulls-few column rows = omega (arith, count_by-le-length is_none (cells_in column rows), cells-length column rows)

-- ---- one column more
-- behind a part of a list's rest
drop-none : {X : Type 0} (n : ℕ) → drop {A = X} n [] ≡ []
drop-none zero = refl
drop-none (suc n) = refl

pub drop-behind : {X : Type 0} (n a : ℕ) (xs : List X) → drop n (drop a xs) ≡ drop (a + n) xs
drop-behind n zero xs = ap (λ k. drop k xs) (let e : n ≡ 0 + n = omega arith in e)
drop-behind n (suc a) [] = drop-none n ∙ sym (drop-none (suc a + n))
drop-behind n (suc a) (x ∷ xs) = drop-behind n a xs ∙ ap (λ k. drop k (x ∷ xs)) (let e : suc (a + n) ≡ suc a + n = omega arith in e)

-- a part that is written behind a front
pub put-behind : {X : Type 0} (a n m b : ℕ) (front old xs new : List X) → m ≡ n → b ≡ a + n → xs ≡ front ++ drop a old → length front ≡ a → put_mid a m xs new ≡ (front ++ new) ++ drop b old
put-behind a n m b front old xs new width end is long =
    let rest : drop m (drop a xs) ≡ drop b old =
    ap (λ k. drop k (drop a xs)) width ∙ ap (λ l. drop n (drop a l)) is ∙ ap (drop n) (drop_at front (drop a old) a long)
    ∙ drop-behind n a old ∙ ap (λ k. drop k old) (sym end) in
    ap (λ l. take a xs ++ (new ++ l)) rest
    ∙ ap (λ l. l ++ (new ++ drop b old)) (ap (take a) is ∙ take_at front (drop a old) a long)
    ∙ sym (append_assoc front new (drop b old))

-- an element that is written behind a front
pub set-behind : {X : Type 0} (i : ℕ) (front old xs : List X) (x : X) → xs ≡ front ++ drop i old → length front ≡ i → i < length xs → set xs i x ≡ (front ++ x ∷ []) ++ drop (i + 1) old
set-behind i front old xs x is long inside =
    let one : suc i ≡ i + 1 = omega arith in
    let rest : drop (suc i) xs ≡ drop (i + 1) old =
    ap (λ k. drop k xs) one ∙ sym (drop-behind 1 i xs) ∙ ap (λ l. drop 1 (drop i l)) is ∙ ap (drop 1) (drop_at front (drop i old) i long) ∙ drop-behind 1 i old in
    set_split xs i x inside
    ∙ ap (λ l. take i xs ++ (x ∷ l)) rest
    ∙ ap (λ l. l ++ (x ∷ drop (i + 1) old)) (ap (take i) is ∙ take_at front (drop i old) i long)
    ∙ sym (append_assoc front (x ∷ []) (drop (i + 1) old))

-- columns' numbers, bits and nulls, one column more
pub columns-more : (places : List ℕ) (i : ℕ) (rows : List (RowName × Cells)) → i < length places → columns_in (take (i + 1) places) rows ≡ columns_in (take i places) rows ++ cells_in (get_or places i 0) rows ∷ []
columns-more places i rows l = ap (λ p. columns_in p rows) (take_more places i 0 l) ∙ map-append (λ place. cells_in place rows) (take i places) (get_or places i 0 ∷ [])

pub each-more : {X : Type 0} (f : List (Option ℤ) → List X) (columns more : List (List (Option ℤ))) (column : List (Option ℤ)) → more ≡ columns ++ column ∷ [] → flat_map f more ≡ flat_map f columns ++ f column
each-more f columns more column is = ap (flat_map f) is ∙ flat_map-append f columns (column ∷ []) ∙ ap (λ l. flat_map f columns ++ l) (append-nil (f column))

pub nulls-more : (columns more : List (List (Option ℤ))) (column : List (Option ℤ)) → more ≡ columns ++ column ∷ [] → map null_count more ≡ map null_count columns ++ null_count column ∷ []
nulls-more columns more column is = ap (map null_count) is ∙ map-append null_count columns (column ∷ [])

-- how long they are
pub numbers-long : (places : List ℕ) (rows : List (RowName × Cells)) → length (numbers_of (columns_in places rows)) ≡ length places * length rows
numbers-long [] rows = omega arith
numbers-long (place ∷ places) rows =
    let here : length (map number_at (cells_in place rows)) ≡ length rows = length-map {B = ℤ} (cells_in place rows) number_at ∙ cells-length place rows in
    omega (arith, numbers-long places rows, here, length-append (map number_at (cells_in place rows)) (numbers_of (columns_in places rows)))

validity-long : (cells : List (Option ℤ)) → length (validity cells) ≡ stride_of (length cells)
unfolding validity
validity-long cells = length-bytes_of_bits (stride_of (length cells)) (λ i. cond (has_value cells i) 1 0)

pub validities-long : (places : List ℕ) (rows : List (RowName × Cells)) → length (validities (columns_in places rows)) ≡ length places * stride_of (length rows)
validities-long [] rows = omega arith
validities-long (place ∷ places) rows =
    let stride : ℕ = stride_of (length rows) in
    let here : length (validity (cells_in place rows)) ≡ stride = validity-long (cells_in place rows) ∙ ap stride_of (cells-length place rows) in
    let step : suc (length places) * stride ≡ length places * stride + stride = one_more (length places) stride in
    length-append (validity (cells_in place rows)) (validities (columns_in places rows)) ∙ ap (λ n. n + length (validities (columns_in places rows))) here ∙ ap (λ n. stride + n) (validities-long places rows) ∙ (swapped stride (length places * stride) ∙ sym step)
  where
    one_more : (n m : ℕ) → suc n * m ≡ n * m + m
    one_more n m = omega arith

    swapped : (a b : ℕ) → a + b ≡ b + a
    swapped a b = omega arith
