-- Sets of rows that come one after another, in whatever order.
use Rattle.std.proofs.Common.{◌≡◌, ◌<◌, ◌+◌, ◌-◌, ℕ, Bool, ◌||◌, List, [], ◌∷◌, ◌++◌, length, get_or, take, sym, ap, ◌∙◌, arith}
use Rattle.std.specs.FinSet as set
use Rattle.std.specs.List.{list_any}
use Rattle.std.specs.List.Sorted.{IsPermutation}
use Rattle.std.specs.Ordering.{eq_by_cmp}
use Rattle.std.proofs.lemmas.List.{take_more}
use Rattle.std.proofs.lemmas.List.Folds.{list_any-append}
use Rattle.std.proofs.lemmas.List.Sorted.{list_any-IsPermutation}
use Rattle.table_model.specs.Name.{row_name_cmp}
use Rattle.table_model.specs.declared.names.RowName.{RowName}
use Rattle.table_model.proofs.NameOrder.{row_names_total, exact_row_names}
use Rattle.catalogue_join.specs.RowRange.{row_names, rows_between}

-- a row alone is a range
row_alone : (q : RowName) → rows_between q q.ordinal ≡ q ∷ []
row_alone q = ap (row_names q.batch q.ordinal) (let e : q.ordinal + 1 - q.ordinal ≡ 1 = omega arith in e)

-- sets of rows with the same members
same_members : (xs ys : List RowName) → ((q : RowName) → list_any (eq_by_cmp row_name_cmp q) xs ≡ list_any (eq_by_cmp row_name_cmp q) ys) → set.from_list {R = row_name_cmp} xs ≡ set.from_list ys
same_members xs ys h =
    set.same_set row_names_total exact_row_names (set.from_list xs) (set.from_list ys)
    (λ q. set.contains-from_list row_names_total xs q ∙ h q ∙ sym (set.contains-from_list row_names_total ys q))

-- one row more
pub row_more : (rows : List RowName) (i : ℕ) (d : RowName) → i < length rows → set.union (set.from_list {R = row_name_cmp} (take i rows)) (set.from_list (rows_between (get_or rows i d) (get_or rows i d).ordinal)) ≡ set.from_list (take (i + 1) rows)
row_more rows i d below =
    let q : RowName = get_or rows i d in
    let front : List RowName = take i rows in
    ap (λ (l : List RowName). set.union (set.from_list {R = row_name_cmp} front) (set.from_list l)) (row_alone q)
    ∙ set.same_set row_names_total exact_row_names (set.union (set.from_list front) (set.from_list (q ∷ []))) (set.from_list (front ++ q ∷ []))
    (λ r.
    set.contains-union row_names_total (set.from_list front) (set.from_list (q ∷ [])) r
    ∙ ap (λ (b : Bool). b || set.contains (set.from_list {R = row_name_cmp} (q ∷ [])) r) (set.contains-from_list row_names_total front r)
    ∙ ap (λ (b : Bool). list_any (eq_by_cmp row_name_cmp r) front || b) (set.contains-from_list row_names_total (q ∷ []) r)
    ∙ sym (list_any-append (eq_by_cmp row_name_cmp r) front (q ∷ []))
    ∙ sym (set.contains-from_list row_names_total (front ++ q ∷ []) r))
    ∙ ap (λ (l : List RowName). set.from_list {R = row_name_cmp} l) (sym (take_more rows i d below))

-- in another order they are the same set
pub in_any_order : (xs ys : List RowName) → IsPermutation xs ys → set.from_list {R = row_name_cmp} xs ≡ set.from_list ys
in_any_order xs ys h = same_members xs ys (λ q. list_any-IsPermutation (eq_by_cmp row_name_cmp q) xs ys h)
