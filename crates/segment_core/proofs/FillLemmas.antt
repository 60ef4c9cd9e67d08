-- A filled vector row by row: the values so far end with the row's own, where it has one.
use Rattle.std.proofs.Common.{◌≡◌, ◌≢◌, ℕ, suc, ◌<◌, ◌≤◌, ◌⊎◌, inl, inr, Bool, true, false, not, cond, ◌&&◌, nat_lt, ℤ, pos, List, [], ◌∷◌, ◌++◌, take, drop, drop-cons, length, get_or, set, get_or-set_same, get_or-set_other, Option, Some, None, refl, sym, ◌∙◌, ap, arith, append-nil}
use Rattle.std.proofs.lemmas.List.FromFn.{length-map-range_with_len, get_or-map-range_with_len}
use Rattle.std.proofs.Math.Seq.{take-suc}
use Rattle.std.proofs.Math.ListN.{length-set}
use Rattle.std.proofs.lemmas.List.{same_lists, take_all, take-append-drop, get_or_default}
use Rattle.std.proofs.lemmas.Bool.{cases_lt, cases_eq}
use Rattle.std.proofs.lemmas.Bool.Decides.{nat_tests}
use Rattle.transpose_order.specs.Mask.{has}
use Rattle.transpose_order.specs.MaskWords.{length-rows_of, get_or-rows_of, rows_of-same}
use Rattle.bit_interleave.specs.Range.{value_at}
use Rattle.table_model.specs.Values.{present}
use Rattle.segment_core.specs.Fill.{first_or, last_or, filled_at, filled, cell_under, cells_under}

-- ---- present values
pub present-append : (xs ys : List (Option ℤ)) → present (xs ++ ys) ≡ present xs ++ present ys
present-append [] ys = refl
present-append (None ∷ xs) ys = present-append xs ys
present-append (Some z ∷ xs) ys = ap (λ zs. z ∷ zs) (present-append xs ys)

pub last_or-append : (d z : ℤ) (xs : List ℤ) → last_or d (xs ++ (z ∷ [])) ≡ z
last_or-append d z [] = refl
last_or-append d z (x ∷ xs) = last_or-append x z xs

-- one more cell
pub last_or-push_none : (d : ℤ) (xs : List (Option ℤ)) → last_or d (present (xs ++ (None ∷ []))) ≡ last_or d (present xs)
last_or-push_none d xs = ap (last_or d) (present-append xs (None ∷ []) ∙ append-nil (present xs))

pub last_or-push_some : (d z : ℤ) (xs : List (Option ℤ)) → last_or d (present (xs ++ (Some z ∷ []))) ≡ z
last_or-push_some d z xs = ap (last_or d) (present-append xs (Some z ∷ [])) ∙ last_or-append d z (present xs)

-- ---- the filled vector of any cells
pub length-filled : (cells : List (Option ℤ)) → length (filled cells) ≡ 1024
unfolding filled
length-filled cells = length-rows_of (filled_at cells)

pub value_at-filled : (cells : List (Option ℤ)) (n : ℕ) → n < 1024 → value_at (filled cells) n ≡ filled_at cells n
unfolding filled
value_at-filled cells n h = get_or-rows_of (filled_at cells) n (pos 0) h

pub filled_is : (cells : List (Option ℤ)) (values : List ℤ) → length values ≡ 1024 → ((n : ℕ) → n < 1024 → value_at values n ≡ filled_at cells n) → values ≡ filled cells
unfolding filled
filled_is cells values l h = rows_of-same (filled_at cells) values (pos 0) l h

-- a row that has a value keeps it
pub filled_at-some : (cells : List (Option ℤ)) (n : ℕ) (z : ℤ) → n < length cells → get_or cells n None ≡ Some z → filled_at cells n ≡ z
unfolding filled_at
filled_at-some cells n z h e =
    let d : ℤ = first_or (pos 0) (present cells) in
    ap (λ xs. last_or d (present xs)) (take-suc cells n None h ∙ ap (λ c. take n cells ++ (c ∷ [])) e) ∙ last_or-push_some d z (take n cells)

-- ---- the cells under a mask
pub length-cells_under : (rows : ℕ) (nulls : List Bool) (values : List ℤ) → length (cells_under rows nulls values) ≡ rows
unfolding cells_under
length-cells_under rows nulls values = length-map-range_with_len (cell_under nulls values) 0 rows

pub get_or-cells_under : (rows : ℕ) (nulls : List Bool) (values : List ℤ) (n : ℕ) (d : Option ℤ) → n < rows → get_or (cells_under rows nulls values) n d ≡ cell_under nulls values n
unfolding cells_under
get_or-cells_under rows nulls values n d h = get_or-map-range_with_len (cell_under nulls values) 0 rows n n d h (omega arith)

-- one more cell, null or not
pushed : (d z : ℤ) (xs : List (Option ℤ)) (null : Bool) → cond (not null) z (last_or d (present xs)) ≡ last_or d (present (xs ++ (cond null None (Some z) ∷ [])))
pushed d z xs true = sym (last_or-push_none d xs)
pushed d z xs false = sym (last_or-push_some d z xs)

latest_at : (rows : ℕ) (nulls : List Bool) (values : List ℤ) (n : ℕ) (d latest : ℤ) → latest ≡ last_or d (present (take n (cells_under rows nulls values))) → (n < rows) ⊎ (rows ≤ n) → cond (nat_lt n rows && not (has nulls n)) (value_at values n) latest ≡ last_or d (present (take (suc n) (cells_under rows nulls values)))
latest_at rows nulls values n d latest e (inl h) =
    let cells : List (Option ℤ) = cells_under rows nulls values in
    let test : nat_lt n rows ≡ true = grind (arith, nat_tests) in
    let long : n < length cells = omega (arith, length-cells_under rows nulls values) in
    ap (λ t. cond (t && not (has nulls n)) (value_at values n) latest) test
    ∙ ap (λ x. cond (not (has nulls n)) (value_at values n) x) e
    ∙ pushed d (value_at values n) (take n cells) (has nulls n)
    ∙ ap (λ c. last_or d (present (take n cells ++ (c ∷ [])))) (sym (get_or-cells_under rows nulls values n None h))
    ∙ ap (λ xs. last_or d (present xs)) (sym (take-suc cells n None long))
latest_at rows nulls values n d latest e (inr h) =
    let cells : List (Option ℤ) = cells_under rows nulls values in
    let test : nat_lt n rows ≡ false = grind (arith, nat_tests) in
    let whole : take n cells ≡ cells = take_all n cells (omega (arith, length-cells_under rows nulls values)) in
    let after : take (suc n) cells ≡ cells = take_all (suc n) cells (omega (arith, length-cells_under rows nulls values)) in
    ap (λ t. cond (t && not (has nulls n)) (value_at values n) latest) test ∙ e ∙ ap (λ xs. last_or d (present xs)) (whole ∙ sym after)

-- the latest value after a row: the row's own where it has one, else the one before
pub latest_after : (rows : ℕ) (nulls : List Bool) (values : List ℤ) (n : ℕ) (d latest : ℤ) → latest ≡ last_or d (present (take n (cells_under rows nulls values))) → cond (nat_lt n rows && not (has nulls n)) (value_at values n) latest ≡ last_or d (present (take (suc n) (cells_under rows nulls values)))
latest_after rows nulls values n d latest e = latest_at rows nulls values n d latest e (cases_lt n rows)

-- ---- the first row that has a value
pub none_more : (rows : ℕ) (nulls : List Bool) (values : List ℤ) (n : ℕ) → n < rows → has nulls n ≡ true → present (take n (cells_under rows nulls values)) ≡ [] → present (take (suc n) (cells_under rows nulls values)) ≡ []
none_more rows nulls values n h null none =
    let cells : List (Option ℤ) = cells_under rows nulls values in
    let here : get_or cells n None ≡ None = get_or-cells_under rows nulls values n None h ∙ ap (λ b. cond b None (Some (value_at values n))) null in
    ap present (take-suc cells n None (omega (arith, length-cells_under rows nulls values)) ∙ ap (λ c. take n cells ++ (c ∷ [])) here)
    ∙ present-append (take n cells) (None ∷ []) ∙ ap (λ xs. xs ++ []) none

pub first_found : (rows : ℕ) (nulls : List Bool) (values : List ℤ) (n : ℕ) (d : ℤ) → n < rows → has nulls n ≡ false → present (take n (cells_under rows nulls values)) ≡ [] → first_or d (present (cells_under rows nulls values)) ≡ value_at values n
first_found rows nulls values n d h some none =
    let cells : List (Option ℤ) = cells_under rows nulls values in
    let here : get_or cells n None ≡ Some (value_at values n) = get_or-cells_under rows nulls values n None h ∙ ap (λ b. cond b None (Some (value_at values n))) some in
    let rest : drop n cells ≡ Some (value_at values n) ∷ drop (suc n) cells =
    drop-cons cells n None (omega (arith, length-cells_under rows nulls values)) ∙ ap (λ c. c ∷ drop (suc n) cells) here in
    ap (λ xs. first_or d (present xs)) (sym (take-append-drop n cells) ∙ ap (λ xs. take n cells ++ xs) rest)
    ∙ ap (first_or d) (present-append (take n cells) (Some (value_at values n) ∷ drop (suc n) cells) ∙ ap (λ xs. xs ++ present (Some (value_at values n) ∷ drop (suc n) cells)) none)

pub none_at_all : (rows : ℕ) (nulls : List Bool) (values : List ℤ) (n : ℕ) (d : ℤ) → rows ≤ n → present (take n (cells_under rows nulls values)) ≡ [] → first_or d (present (cells_under rows nulls values)) ≡ d
none_at_all rows nulls values n d h none =
    let cells : List (Option ℤ) = cells_under rows nulls values in
    ap (λ xs. first_or d (present xs)) (sym (take_all n cells (omega (arith, length-cells_under rows nulls values)))) ∙ ap (first_or d) none

-- ---- a step of the loop that fills
-- the rows so far are filled, the others are as they were, and the latest value is that of the row before
pub record Filling (rows : ℕ) (nulls : List Bool) (given now : List ℤ) (n : ℕ) (latest : ℤ) : Type 0 where
  pub long : length now ≡ 1024
  pub latest_is : latest ≡ last_or (first_or (pos 0) (present (cells_under rows nulls given))) (present (take n (cells_under rows nulls given)))
  pub filled_so_far : (k : ℕ) → k < n → value_at now k ≡ filled_at (cells_under rows nulls given) k
  pub others : (k : ℕ) → n ≤ k → value_at now k ≡ value_at given k

filled_here : (cells : List (Option ℤ)) (n : ℕ) (z : ℤ) → z ≡ last_or (first_or (pos 0) (present cells)) (present (take (suc n) cells)) → z ≡ filled_at cells n
unfolding filled_at
filled_here cells n z e = e

filled_upto : (cells : List (Option ℤ)) (now : List ℤ) (n : ℕ) (z : ℤ) → n < length now → ((k : ℕ) → k < n → value_at now k ≡ filled_at cells k) → z ≡ filled_at cells n → (k : ℕ) → (k ≡ n) ⊎ (k ≢ n) → k < suc n → value_at (set now n z) k ≡ filled_at cells k
filled_upto cells now n z within before here k (inl e) l =
    ap (value_at (set now n z)) e ∙ get_or-set_same now n z (pos 0) within ∙ here ∙ ap (filled_at cells) (sym e)
filled_upto cells now n z within before here k (inr ne) l = get_or-set_other now n k z (pos 0) ne ∙ before k (omega arith)

pub fill_step : (rows : ℕ) (nulls : List Bool) (given now : List ℤ) (n : ℕ) (latest z : ℤ) → n < 1024 → Filling rows nulls given now n latest → z ≡ cond (nat_lt n rows && not (has nulls n)) (value_at now n) latest → Filling rows nulls given (set now n z) (suc n) z
fill_step rows nulls given now n latest z below h e =
    let cells : List (Option ℤ) = cells_under rows nulls given in
    let here : z ≡ last_or (first_or (pos 0) (present cells)) (present (take (suc n) cells)) =
    e ∙ ap (λ x. cond (nat_lt n rows && not (has nulls n)) x latest) (h.others n (omega arith))
    ∙ latest_after rows nulls given n (first_or (pos 0) (present cells)) latest h.latest_is in
    let within : n < length now = let l = h.long in omega arith in
    record {
      long = length-set now n z ∙ h.long;
      latest_is = here;
      filled_so_far = λ k l. filled_upto cells now n z within h.filled_so_far (filled_here cells n z here) k (cases_eq k n) l;
      others = λ k l. let ne : k ≢ n = omega arith in get_or-set_other now n k z (pos 0) ne ∙ h.others k (omega arith);
    }

-- ---- cells that are the same
pub under_are : (rows : ℕ) (nulls : List Bool) (values : List ℤ) (cells : List (Option ℤ)) → length cells ≡ rows → ((n : ℕ) → n < rows → cell_under nulls values n ≡ get_or cells n None) → cells_under rows nulls values ≡ cells
under_are rows nulls values cells count h =
    same_lists (cells_under rows nulls values) cells (length-cells_under rows nulls values ∙ sym count)
    (λ n d w.
    let below : n < rows = omega (arith, length-cells_under rows nulls values) in
    get_or-cells_under rows nulls values n d below ∙ h n below ∙ get_or_default cells n None d (omega arith))

pub under_at : (rows : ℕ) (nulls : List Bool) (values : List ℤ) (cells : List (Option ℤ)) (n : ℕ) → cells_under rows nulls values ≡ cells → n < rows → cell_under nulls values n ≡ get_or cells n None
under_at rows nulls values cells n e h = sym (get_or-cells_under rows nulls values n None h) ∙ ap (λ (xs : List (Option ℤ)). get_or xs n None) e

-- where each row has a value there is nothing to fill
pub full_is_filled : (rows : ℕ) (nulls : List Bool) (values : List ℤ) → length values ≡ 1024 → ((n : ℕ) → n < 1024 → (n < rows) × (has nulls n ≡ false)) → values ≡ filled (cells_under rows nulls values)
full_is_filled rows nulls values long full =
    filled_is (cells_under rows nulls values) values long
    (λ n h.
    let f = full n h in
    let below : n < rows = f.0 in
    sym (filled_at-some (cells_under rows nulls values) n (value_at values n) (omega (arith, length-cells_under rows nulls values))
    (get_or-cells_under rows nulls values n None below ∙ ap (λ b. cond b None (Some (value_at values n))) f.1)))

-- one of the rows more
pub fill_row : (rows : ℕ) (nulls : List Bool) (given now : List ℤ) (n : ℕ) (latest z : ℤ) → rows ≤ 1024 → n < rows → Filling rows nulls given now n latest → z ≡ cond (not (has nulls n)) (value_at now n) latest → Filling rows nulls given (set now n z) (suc n) z
fill_row rows nulls given now n latest z limit below h e =
    let test : true ≡ nat_lt n rows = grind (arith, nat_tests) in
    fill_step rows nulls given now n latest z (omega arith) h (e ∙ ap (λ b. cond (b && not (has nulls n)) (value_at now n) latest) test)

last_of_first : (d : ℤ) (values : List ℤ) → last_or (first_or d values) values ≡ last_or d values
last_of_first d [] = refl
last_of_first d (x ∷ xs) = refl

-- after all rows the latest value is the last
pub filling_last : (rows : ℕ) (nulls : List Bool) (given now : List ℤ) (n : ℕ) (latest : ℤ) → rows ≤ n → Filling rows nulls given now n latest → latest ≡ last_or (pos 0) (present (cells_under rows nulls given))
filling_last rows nulls given now n latest past h =
    let cells : List (Option ℤ) = cells_under rows nulls given in
    let whole : take n cells ≡ cells = take_all n cells (omega (arith, length-cells_under rows nulls given)) in
    h.latest_is ∙ ap (λ xs. last_or (first_or (pos 0) (present cells)) (present xs)) whole ∙ last_of_first (pos 0) (present cells)

-- at the last row, and past the rows, the filled value is the last
pub filled_past : (cells : List (Option ℤ)) (n : ℕ) → length cells ≤ suc n → filled_at cells n ≡ last_or (pos 0) (present cells)
unfolding filled_at
filled_past cells n past = ap (λ xs. last_or (first_or (pos 0) (present cells)) (present xs)) (take_all (suc n) cells (omega arith)) ∙ last_of_first (pos 0) (present cells)

filled_part : (rows : ℕ) (nulls : List Bool) (given part now : List ℤ) (last : ℤ) (n : ℕ) → n < 1024
    → ((k : ℕ) → k < rows → value_at part k ≡ filled_at (cells_under rows nulls given) k) → last ≡ last_or (pos 0) (present (cells_under rows nulls given))
    → ((k : ℕ) → k < rows → value_at now k ≡ value_at part k) → ((k : ℕ) → rows ≤ k → k < 1024 → value_at now k ≡ last)
    → (n < rows) ⊎ (rows ≤ n) → value_at now n ≡ filled_at (cells_under rows nulls given) n
filled_part rows nulls given part now last n within filled is kept rest (inl h) = kept n h ∙ filled n h
filled_part rows nulls given part now last n within filled is kept rest (inr h) = rest n h within ∙ is ∙ sym (filled_past (cells_under rows nulls given) n (omega (arith, length-cells_under rows nulls given)))

-- the rows are filled, and then the rest with the last value
pub filled_parts : (rows : ℕ) (nulls : List Bool) (given part now : List ℤ) (last : ℤ) → length now ≡ 1024
    → ((k : ℕ) → k < rows → value_at part k ≡ filled_at (cells_under rows nulls given) k) → last ≡ last_or (pos 0) (present (cells_under rows nulls given))
    → ((k : ℕ) → k < rows → value_at now k ≡ value_at part k) → ((k : ℕ) → rows ≤ k → k < 1024 → value_at now k ≡ last)
    → now ≡ filled (cells_under rows nulls given)
filled_parts rows nulls given part now last long filled is kept rest =
    filled_is (cells_under rows nulls given) now long (λ n h. filled_part rows nulls given part now last n h filled is kept rest (cases_lt n rows))
