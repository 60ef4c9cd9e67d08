-- The values of a column at the rows of a mask, and how many rows a mask has.
use Rattle.std.proofs.Common.{◌≡◌, ℕ, ◌≤◌, Bool, true, false, cond, List, [], ◌∷◌, map, length, Option, Some, None, count_by, refl, sym, ap, ◌∙◌, arith}
use Rattle.std.specs.List.{range_with_len, cons_option}
use Rattle.std.specs.Option.{is_some}
use Rattle.std.proofs.lemmas.List.Sums.{sum_by-cons, count_by-le-length}
use Rattle.table_model.specs.Group.{cell, values_in}
use Rattle.table_model.specs.State.{Cells}
use Rattle.table_model.specs.Values.{present}
use Rattle.transpose_order.specs.Mask.{rows_of, has}
use Rattle.transpose_order.specs.MaskWords.{rows_of-like, rows_of-same}
use Rattle.query_eval.specs.Kept.{rows_at}
use Rattle.query_eval.specs.Vector.{Vector, row_at, looked_at}

one_value : (column : ℕ) (b : Bool) (row : Cells) (rows : List Cells) → present (map (λ r. cell r column) (cons_option (cond b (Some row) None) rows)) ≡ cons_option (cond b (cell row column) None) (present (map (λ r. cell r column) rows))
one_value column true row rows = refl
one_value column false row rows = refl

pub values-of : (column : ℕ) (p : ℕ → Bool) (row : ℕ → Cells) (ns : List ℕ) → present (map (λ r. cell r column) (present (map (λ n. cond (p n) (Some (row n)) None) ns))) ≡ present (map (λ n. cond (p n) (cell (row n) column) None) ns)
values-of column p row [] = refl
values-of column p row (n ∷ ns) =
    one_value column (p n) (row n) (present (map (λ m. cond (p m) (Some (row m)) None) ns)) ∙ ap (cons_option (cond (p n) (cell (row n) column) None)) (values-of column p row ns)

pub values-at : (v : Vector) (column : ℕ) (mask : List Bool) → values_in column (rows_at v mask) ≡ looked_at v column mask
unfolding values_in rows_at looked_at rows_of
values-at v column mask = values-of column (has mask) (row_at v) (range_with_len 0 1024)

-- ---- how many rows have something
one_counted : {X : Type 0} (o : Option X) (xs : List X) (bs : List Bool) → length xs ≡ count_by (λ y. y) bs → length (cons_option o xs) ≡ count_by (λ y. y) (is_some o ∷ bs)
one_counted (Some x) xs bs e = omega (arith, e, sum_by-cons (λ (y : Bool). cond y 1 0) true bs)
one_counted None xs bs e = omega (arith, e, sum_by-cons (λ (y : Bool). cond y 1 0) false bs)

counted : {X : Type 0} (f : ℕ → Option X) (ns : List ℕ) → length (present (map f ns)) ≡ count_by (λ y. y) (map (λ n. is_some (f n)) ns)
counted f [] = refl
counted f (n ∷ ns) = one_counted (f n) (present (map f ns)) (map (λ m. is_some (f m)) ns) (counted f ns)

pub length-present : {X : Type 0} (f : ℕ → Option X) → length (present (rows_of f)) ≡ count_by (λ y. y) (rows_of (λ n. is_some (f n)))
unfolding rows_of
length-present f = counted f (range_with_len 0 1024)

-- as many as a mask has rows
pub length-masked : {X : Type 0} (mask : List Bool) (row : ℕ → X) → length mask ≡ 1024 → length (present (rows_of (λ n. cond (has mask n) (Some (row n)) None))) ≡ count_by (λ y. y) mask
length-masked {X = X} mask row l =
    length-present (λ n. cond (has mask n) (Some (row n)) None)
    ∙ ap (count_by (λ y. y)) (rows_of-like (λ n. is_some (cond (has mask n) (Some (row n)) None)) (has mask) (λ n _. one (has mask n) (row n)) ∙ sym (rows_of-same (has mask) mask false l (λ n _. refl)))
  where
    one : (b : Bool) (x : X) → is_some (cond b (Some x) None) ≡ b
    one true x = refl
    one false x = refl

pub length-rows_at : (v : Vector) (mask : List Bool) → length mask ≡ 1024 → length (rows_at v mask) ≡ count_by (λ y. y) mask
unfolding rows_at
length-rows_at v mask l = length-masked mask (row_at v) l

pub count-small : (mask : List Bool) → length mask ≡ 1024 → count_by (λ y. y) mask ≤ 1024
count-small mask l = omega (arith, l, count_by-le-length (λ (y : Bool). y) mask)
