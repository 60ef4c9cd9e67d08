-- Rows by their ends: one more row at the end, and each row by its place.
use Rattle.std.proofs.Common.{◌≡◌, ℕ, zero, suc, ◌+◌, ◌-◌, ◌<◌, ◌≤◌, List, [], ◌∷◌, ◌++◌, map, min, take, drop, length, get_or, None, refl, sym, ◌∙◌, ap, arith}
use Rattle.std.specs.List.{slice_range}
use Rattle.std.proofs.lemmas.List.{take-append-le, drop-append-le, take_all, length-drop, length-take, length-map, same_lists, get_or_default, get_or-take, get_or-drop, get_or-map}
use Rattle.table_model.specs.State.{Cells, Batch}
use Rattle.table_model.specs.Ends.{rows_from, AreEnds}

pub ends_within : (start : ℕ) (ends : List ℕ) (count : ℕ) → AreEnds start ends count → start ≤ count
ends_within start [] count h = omega (arith, h)
ends_within start (end ∷ ends) count h = omega (arith, h.0, ends_within end ends count h.1)

pub AreEnds-push : (start : ℕ) (ends : List ℕ) (count more : ℕ) → AreEnds start ends count → AreEnds start (ends ++ (count + more) ∷ []) (count + more)
AreEnds-push start [] count more h = (omega (arith, h), refl)
AreEnds-push start (end ∷ ends) count more h = (h.0, AreEnds-push end ends count more h.1)

pub length-rows_from : (start : ℕ) (ends : List ℕ) (cells : Cells) → length (rows_from start ends cells) ≡ length ends
length-rows_from start [] cells = refl
length-rows_from start (end ∷ ends) cells = ap suc (length-rows_from end ends cells)

-- where row n starts, and where it ends
pub row_bounds : (start : ℕ) (ends : List ℕ) (count n : ℕ) → AreEnds start ends count → n < length ends → (get_or (start ∷ ends) n 0 ≤ get_or ends n 0) × (get_or ends n 0 ≤ count)
row_bounds start [] count n h l = absurd (omega arith)
row_bounds start (end ∷ ends) count zero h l = (h.0, ends_within end ends count h.1)
row_bounds start (end ∷ ends) count (suc n) h l = row_bounds end ends count n h.1 (omega arith)

pub row_is : (start : ℕ) (ends : List ℕ) (cells : Cells) (n : ℕ) → n < length ends → get_or (rows_from start ends cells) n [] ≡ slice_range cells (get_or (start ∷ ends) n 0) (get_or ends n 0)
row_is start [] cells n l = absurd (omega arith)
row_is start (end ∷ ends) cells zero l = refl
row_is start (end ∷ ends) cells (suc n) l = row_is end ends cells n (omega arith)

slice_range-append : (xs ys : Cells) (a b : ℕ) → a ≤ b → b ≤ length xs → slice_range (xs ++ ys) a b ≡ slice_range xs a b
slice_range-append xs ys a b h l =
    ap (take (b - a)) (drop-append-le a xs ys (omega arith))
    ∙ take-append-le (b - a) (drop a xs) ys (omega (arith, length-drop a xs))

drop-front : (xs ys : Cells) → drop (length xs) (xs ++ ys) ≡ ys
drop-front [] ys = refl
drop-front (x ∷ xs) ys = drop-front xs ys

last_row : (xs ys : Cells) → slice_range (xs ++ ys) (length xs) (length xs + length ys) ≡ ys
last_row xs ys =
    ap (take (length xs + length ys - length xs)) (drop-front xs ys) ∙ take_all (length xs + length ys - length xs) ys (omega arith)

pub rows_from-push : (start : ℕ) (ends : List ℕ) (cells row : Cells) → AreEnds start ends (length cells) → rows_from start (ends ++ (length cells + length row) ∷ []) (cells ++ row) ≡ rows_from start ends cells ++ row ∷ []
rows_from-push start [] cells row h = ap (λ (r : Cells). r ∷ []) (ap (λ (n : ℕ). slice_range (cells ++ row) n (length cells + length row)) h ∙ last_row cells row)
rows_from-push start (end ∷ ends) cells row h =
    ap (λ (r : Cells). r ∷ rows_from end (ends ++ (length cells + length row) ∷ []) (cells ++ row)) (slice_range-append cells row start end h.0 (ends_within end ends (length cells) h.1))
    ∙ ap (λ (rs : Batch). slice_range cells start end ∷ rs) (rows_from-push end ends cells row h.1)

-- ---- a column's cells
pub column_at : (rows : Batch) (column n : ℕ) → n < length rows → get_or (map (λ (row : Cells). get_or row column None) rows) n None ≡ get_or (get_or rows n []) column None
column_at rows column n h = get_or-map (λ (row : Cells). get_or row column None) rows n [] None h

pub column_part : (rows : Batch) (column first : ℕ) (cells : Cells) → first + length cells ≤ length rows → ((k : ℕ) → k < length cells → get_or cells k None ≡ get_or (get_or rows (first + k) []) column None) → cells ≡ take (length cells) (drop first (map (λ (row : Cells). get_or row column None) rows))
column_part rows column first cells room h =
    let all : Cells = map (λ (row : Cells). get_or row column None) rows in
    let long : length all ≡ length rows = length-map rows (λ (row : Cells). get_or row column None) in
    let left : length (drop first all) ≡ length all - first = length-drop first all in
    let count : length (take (length cells) (drop first all)) ≡ min (length cells) (length (drop first all)) = length-take (length cells) (drop first all) in
    same_lists cells (take (length cells) (drop first all)) (omega arith)
    (λ k d l.
    let within : first + k < length rows = omega arith in
    let inside : first + k < length all = omega arith in
    get_or_default cells k d None l
    ∙ h k l
    ∙ sym (column_at rows column (first + k) within)
    ∙ sym (get_or_default all (first + k) d None inside)
    ∙ sym (get_or-take (length cells) (drop first all) k d l ∙ get_or-drop first all k d))
