-- Slices of a vector's rows by their keys.
use Rattle.std.proofs.Common.{◌≡◌, ◌==◌, ℕ, zero, suc, ◌+◌, ◌-◌, ◌<◌, ◌≤◌, ltb, Bool, true, false, cond, not, ◌&&◌, ◌||◌, List, [], ◌∷◌, ◌++◌, map, filter, length, get_or, take, Some, None, ℤ, pos, refl, sym, ap, subst, ◌∙◌, arith, append-nil, append_assoc}
use Rattle.query_eval.specs.Entries.{Entries, place_in}
use Rattle.std.specs.List.{cons_option, list_any, range_with_len}
use Rattle.std.specs.Option.{is_some}
use Rattle.std.specs.Ordering.{int_eq}
use Rattle.std.proofs.Math.Bool.{and_assoc, and-false, and-true, or_assoc}
use Rattle.std.proofs.lemmas.Bool.{and_parts, false≢true, le-ltb, lt-ltb, ltb-false, not-false, or_parts}
use Rattle.std.proofs.lemmas.Bool.Decides.{Decides-eqb, Decides-int_eq}
use Rattle.std.proofs.lemmas.List.{map-append, take_more}
use Rattle.std.proofs.lemmas.Option.{same_Some}
use Rattle.table_model.specs.Group.{key_of, rows_with}
use Rattle.table_model.specs.State.{Cells, same_cell, same_cells}
use Rattle.table_model.specs.Values.{present}
use Rattle.table_model.proofs.SameRows.{one_row, itself_row}
use Rattle.transpose_order.specs.Mask.{has, rows_of}
use Rattle.transpose_order.specs.MaskWords.{has-rows_of, rows_of-like}
use Rattle.query_eval.specs.Keys.{key_cell}
use Rattle.query_eval.specs.Kept.{rows_at}
use Rattle.query_eval.specs.Places.{ArePlaced, IsGrown, IsTakenIn, rows_placed}
use Rattle.query_eval.specs.Slices.{AreByCode, AreParted, AreSliced, IsSlice, IsSplit, differs_at, occurs_in, rows_outside, rows_sliced, slices_of, slices_of_spans}
use Rattle.query_eval.specs.Vector.{Vector, row_at}
use Rattle.query_eval.specs.declared.grouping.key_columns.KeyColumn.{KeyColumn}
use Rattle.query_eval.specs.declared.grouping.split.Slice.{Slice}
use Rattle.query_eval.specs.declared.grouping.split.Span.{Span}
use Rattle.query_eval.specs.declared.grouping.split.Split.{Split}
use Rattle.query_eval.proofs.Lifted.{rows_of-alike}
use Rattle.query_eval.proofs.PlaceLemmas.{grown_more, grown_same, placed_nowhere, turned}
use Rattle.query_eval.proofs.RowsBelow.{below_all}

-- ---- the rows with a cell
pub like_null : (nulls : List Bool) (values : List ℤ) (row n : ℕ) → has nulls row ≡ true → has nulls n ≡ same_cell (cond (has nulls row) None (Some (get_or values row (pos 0)))) (cond (has nulls n) None (Some (get_or values n (pos 0))))
like_null nulls values row n on = one (has nulls n) ∙ ap (λ b. same_cell (cond b None (Some (get_or values row (pos 0)))) (cond (has nulls n) None (Some (get_or values n (pos 0))))) (sym on)
  where
    one : (b : Bool) → b ≡ same_cell None (cond b None (Some (get_or values n (pos 0))))
    one true = refl
    one false = refl

pub like_value : (nulls equal rows : List Bool) (values : List ℤ) (row n : ℕ) → n < 1024 → has nulls row ≡ false → equal ≡ rows_of (λ n. int_eq (get_or values row (pos 0)) (get_or values n (pos 0))) → rows ≡ rows_of (λ n. has equal n && not (has nulls n)) → has rows n ≡ same_cell (cond (has nulls row) None (Some (get_or values row (pos 0)))) (cond (has nulls n) None (Some (get_or values n (pos 0))))
like_value nulls equal rows values row n l off e f =
    ap (λ m. has m n) f ∙ has-rows_of (λ n. has equal n && not (has nulls n)) n l
    ∙ ap (λ b. b && not (has nulls n)) (ap (λ m. has m n) e ∙ has-rows_of (λ n. int_eq (get_or values row (pos 0)) (get_or values n (pos 0))) n l)
    ∙ one (has nulls n) ∙ ap (λ b. same_cell (cond b None (Some (get_or values row (pos 0)))) (cond (has nulls n) None (Some (get_or values n (pos 0))))) (sym off)
  where
    same : Bool
    same = int_eq (get_or values row (pos 0)) (get_or values n (pos 0))

    one : (b : Bool) → (same && not b) ≡ same_cell (Some (get_or values row (pos 0))) (cond b None (Some (get_or values n (pos 0))))
    one true = and-false same
    one false = and-true same

-- one column more
like_more : (row n : ℕ) (columns : List KeyColumn) (column : KeyColumn) → same_cells (map (λ d. key_cell d row) (columns ++ column ∷ [])) (map (λ d. key_cell d n) (columns ++ column ∷ [])) ≡ (same_cells (map (λ d. key_cell d row) columns) (map (λ d. key_cell d n) columns) && same_cell (key_cell column row) (key_cell column n))
like_more row n [] column = and-true (same_cell (key_cell column row) (key_cell column n))
like_more row n (d ∷ ds) column =
    ap (λ b. same_cell (key_cell d row) (key_cell d n) && b) (like_more row n ds column)
    ∙ sym (and_assoc (same_cell (key_cell d row) (key_cell d n)) (same_cells (map (λ d. key_cell d row) ds) (map (λ d. key_cell d n) ds)) (same_cell (key_cell column row) (key_cell column n)))

pub like_next : (row n i : ℕ) (mask rows like next : List Bool) (columns : List KeyColumn) (column : KeyColumn) → n < 1024 → i < length columns → column ≡ get_or columns i column
    → has rows n ≡ (has mask n && same_cells (map (λ d. key_cell d row) (take i columns)) (map (λ d. key_cell d n) (take i columns)))
    → has like n ≡ same_cell (key_cell column row) (key_cell column n) → next ≡ rows_of (λ n. has rows n && has like n)
    → has next n ≡ (has mask n && same_cells (map (λ d. key_cell d row) (take (i + 1) columns)) (map (λ d. key_cell d n) (take (i + 1) columns)))
like_next row n i mask rows like next columns column l inside at before one is =
    let front : take (i + 1) columns ≡ take i columns ++ column ∷ [] = take_more columns i column inside ∙ ap (λ d. take i columns ++ d ∷ []) (sym at) in
    ap (λ m. has m n) is ∙ has-rows_of (λ n. has rows n && has like n) n l ∙ ap (λ b. b && has like n) before
    ∙ ap (λ b. (has mask n && same_cells (map (λ d. key_cell d row) (take i columns)) (map (λ d. key_cell d n) (take i columns))) && b) one
    ∙ and_assoc (has mask n) (same_cells (map (λ d. key_cell d row) (take i columns)) (map (λ d. key_cell d n) (take i columns))) (same_cell (key_cell column row) (key_cell column n))
    ∙ ap (λ b. has mask n && b) (sym (like_more row n (take i columns) column))
    ∙ ap (λ ds. has mask n && same_cells (map (λ d. key_cell d row) ds) (map (λ d. key_cell d n) ds)) (sym front)

-- ---- the rows where a cell may differ from that of the row before
pub unchanged_value : (nulls rows turning both : List Bool) (values : List ℤ) (n : ℕ) → n + 1 < 1024 → rows ≡ rows_of (differs_at values) → (has turning (n + 1) ≡ false → has nulls (n + 1) ≡ has nulls n) → both ≡ rows_of (λ k. has rows k || has turning k) → has both (n + 1) ≡ false
    → cond (has nulls (n + 1)) None (Some (get_or values (n + 1) (pos 0))) ≡ cond (has nulls n) None (Some (get_or values n (pos 0)))
unchanged_value nulls rows turning both values n l e null f off =
    let next : suc n ≡ n + 1 = omega arith in
    let each = or_parts (has rows (n + 1)) (has turning (n + 1)) (sym (has-rows_of (λ k. has rows k || has turning k) (n + 1) l) ∙ sym (ap (λ m. has m (n + 1)) f) ∙ off) in
    let same : int_eq (get_or values n (pos 0)) (get_or values (suc n) (pos 0)) ≡ true = not-false (int_eq (get_or values n (pos 0)) (get_or values (suc n) (pos 0))) (ap (differs_at values) next ∙ sym (has-rows_of (differs_at values) (n + 1) l) ∙ sym (ap (λ m. has m (n + 1)) e) ∙ each.0) in
    ap (λ b. cond b None (Some (get_or values (n + 1) (pos 0)))) (null each.1)
    ∙ ap (λ z. cond (has nulls n) None (Some z)) (sym ((Decides-int_eq (get_or values n (pos 0)) (get_or values (suc n) (pos 0))).0 same ∙ ap (λ k. get_or values k (pos 0)) next))

-- one column more
pub unchanged_next : (n i : ℕ) (columns : List KeyColumn) (column : KeyColumn) (before changes next : List Bool) → n + 1 < 1024 → i < length columns → column ≡ get_or columns i column
    → (has before (n + 1) ≡ false → map (λ d. key_cell d (n + 1)) (take i columns) ≡ map (λ d. key_cell d n) (take i columns)) → (has changes (n + 1) ≡ false → key_cell column (n + 1) ≡ key_cell column n) → next ≡ rows_of (λ k. has before k || has changes k)
    → has next (n + 1) ≡ false → map (λ d. key_cell d (n + 1)) (take (i + 1) columns) ≡ map (λ d. key_cell d n) (take (i + 1) columns)
unchanged_next n i columns column before changes next l inside at so_far one is off =
    let front : take (i + 1) columns ≡ take i columns ++ column ∷ [] = take_more columns i column inside ∙ ap (λ d. take i columns ++ d ∷ []) (sym at) in
    let both = or_parts (has before (n + 1)) (has changes (n + 1)) (sym (has-rows_of (λ k. has before k || has changes k) (n + 1) l) ∙ sym (ap (λ m. has m (n + 1)) is) ∙ off) in
    ap (map (λ d. key_cell d (n + 1))) front ∙ map-append (λ d. key_cell d (n + 1)) (take i columns) (column ∷ [])
    ∙ ap (λ cells. cells ++ key_cell column (n + 1) ∷ []) (so_far both.0)
    ∙ ap (λ cell. map (λ d. key_cell d n) (take i columns) ++ cell ∷ []) (one both.1)
    ∙ sym (map-append (λ d. key_cell d n) (take i columns) (column ∷ [])) ∙ sym (ap (map (λ d. key_cell d n)) front)

-- up to where the key may change, it is that of the first row
pub run_same : (columns : List KeyColumn) (changes : List Bool) (row end : ℕ) → end ≤ 1024 → ((n : ℕ) → n + 1 < 1024 → has changes (n + 1) ≡ false → map (λ d. key_cell d (n + 1)) columns ≡ map (λ d. key_cell d n) columns)
    → ((k : ℕ) → row + 1 ≤ k → k < end → has changes k ≡ false) → (n : ℕ) → row ≤ n → n < end → map (λ d. key_cell d n) columns ≡ map (λ d. key_cell d row) columns
run_same columns changes row end within same none n h l =
    let there : n ≡ row + (n - row) = omega (arith, h) in
    ap (λ k. map (λ d. key_cell d k) columns) there ∙ steps (n - row) (omega (arith, h, l))
  where
    steps : (d : ℕ) → row + d < end → map (λ c. key_cell c (row + d)) columns ≡ map (λ c. key_cell c row) columns
    steps zero _ = ap (λ k. map (λ c. key_cell c k) columns) (let e : row + zero ≡ row = omega arith in e)
    steps (suc d) before =
        ap (λ k. map (λ c. key_cell c k) columns) (let e : row + suc d ≡ (row + d) + 1 = omega arith in e) ∙ same (row + d) (omega (arith, before, within)) (none ((row + d) + 1) (omega arith) (omega (arith, before)))
        ∙ steps d (omega (arith, before))

-- two tests of rows of a mask are alike where they are so at its rows
pub and_under : (a b c : Bool) → (a ≡ true → b ≡ c) → (a && b) ≡ (a && c)
and_under true b c h = h refl
and_under false b c h = refl

-- all rows with a key are those below 1024
pub all_below : (mask rows : List Bool) (n : ℕ) (b : Bool) → n < 1024 → has rows n ≡ (has mask n && b) → has rows n ≡ (has mask n && (ltb n 1024 && b))
all_below mask rows n b l e = e ∙ ap (λ x. has mask n && (x && b)) (sym (lt-ltb n 1024 l))

-- ---- the rows of a mask that have a key, and those that haven't
any_at : (bs : List Bool) (n : ℕ) → get_or bs n false ≡ true → list_any (λ b. b) bs ≡ true
any_at [] n e = absurd (false≢true e)
any_at (b ∷ bs) zero e = ap (λ x. x || list_any (λ y. y) bs) e
any_at (true ∷ bs) (suc n) e = refl
any_at (false ∷ bs) (suc n) e = any_at bs n e

flags_of : (test : Cells → Bool) (p : ℕ → Bool) (row : ℕ → Cells) (by : List ℕ) (ns : List ℕ) → list_any test (map (key_of by) (present (map (λ n. cond (p n) (Some (row n)) None) ns))) ≡ list_any (λ b. b) (map (λ n. p n && test (key_of by (row n))) ns)
flags_of test p row by [] = refl
flags_of test p row by (n ∷ ns) = one (p n) ∙ ap (λ b. (p n && test (key_of by (row n))) || b) (flags_of test p row by ns)
  where
    rest : List Cells
    rest = present (map (λ n. cond (p n) (Some (row n)) None) ns)

    one : (b : Bool) → list_any test (map (key_of by) (cons_option (cond b (Some (row n)) None) rest)) ≡ ((b && test (key_of by (row n))) || list_any test (map (key_of by) rest))
    one true = refl
    one false = refl

kept_of : (test : Cells → Bool) (p : ℕ → Bool) (row : ℕ → Cells) (ns : List ℕ) → filter test (present (map (λ n. cond (p n) (Some (row n)) None) ns)) ≡ present (map (λ n. cond (p n && test (row n)) (Some (row n)) None) ns)
kept_of test p row [] = refl
kept_of test p row (n ∷ ns) = one (p n) (test (row n)) refl ∙ ap (cons_option (cond (p n && test (row n)) (Some (row n)) None)) (kept_of test p row ns)
  where
    rest : List Cells
    rest = present (map (λ n. cond (p n) (Some (row n)) None) ns)

    one : (b c : Bool) → test (row n) ≡ c → filter test (cons_option (cond b (Some (row n)) None) rest) ≡ cons_option (cond (b && test (row n)) (Some (row n)) None) (filter test rest)
    one false c e = refl
    one true true e = ap (λ x. cond x (row n ∷ filter test rest) (filter test rest)) e ∙ ap (λ x. cons_option (cond x (Some (row n)) None) (filter test rest)) (sym e)
    one true false e = ap (λ x. cond x (row n ∷ filter test rest) (filter test rest)) e ∙ ap (λ x. cons_option (cond x (Some (row n)) None) (filter test rest)) (sym e)

-- the rows that pass a test below an end, and then the others
picked : (ℕ → Bool) → (ℕ → Cells) → List ℕ → List Cells
picked p row ns = present (map (λ n. cond (p n) (Some (row n)) None) ns)

none_below : (p : ℕ → Bool) (row : ℕ → Cells) (end k count : ℕ) → end ≤ k → picked (λ n. p n && ltb n end) row (range_with_len k count) ≡ []
unfolding picked
none_below p row end k zero h = refl
none_below p row end k (suc count) h = ap (λ b. cons_option (cond b (Some (row k)) None) (picked (λ n. p n && ltb n end) row (range_with_len (k + 1) count))) (ap (λ b. p k && b) (le-ltb k end h) ∙ and-false (p k)) ∙ none_below p row end (k + 1) count (omega (arith, h))

all_after : (p : ℕ → Bool) (row : ℕ → Cells) (end k count : ℕ) → end ≤ k → picked (λ n. p n && not (ltb n end)) row (range_with_len k count) ≡ picked p row (range_with_len k count)
unfolding picked
all_after p row end k zero h = refl
all_after p row end k (suc count) h =
    ap (λ b. cons_option (cond b (Some (row k)) None) (picked (λ n. p n && not (ltb n end)) row (range_with_len (k + 1) count))) (ap (λ b. p k && not b) (le-ltb k end h) ∙ and-true (p k))
    ∙ ap (cons_option (cond (p k) (Some (row k)) None)) (all_after p row end (k + 1) count (omega (arith, h)))

parted_at : (p : ℕ → Bool) (row : ℕ → Cells) (end k count : ℕ) → picked (λ n. p n && ltb n end) row (range_with_len k count) ++ picked (λ n. p n && not (ltb n end)) row (range_with_len k count) ≡ picked p row (range_with_len k count)
unfolding picked
parted_at p row end k zero = refl
parted_at p row end k (suc count) = by_test (parted_at p row end (k + 1) count) (ltb k end) refl
  where
    front : List Cells
    front = picked (λ n. p n && ltb n end) row (range_with_len (k + 1) count)

    back : List Cells
    back = picked (λ n. p n && not (ltb n end)) row (range_with_len (k + 1) count)

    at_front : (b : Bool) → cons_option (cond (b && true) (Some (row k)) None) front ++ cons_option (cond (b && false) (Some (row k)) None) back ≡ cons_option (cond b (Some (row k)) None) (front ++ back)
    at_front true = refl
    at_front false = refl

    by_test : front ++ back ≡ picked p row (range_with_len (k + 1) count) → (b : Bool) → ltb k end ≡ b → cons_option (cond (p k && ltb k end) (Some (row k)) None) front ++ cons_option (cond (p k && not (ltb k end)) (Some (row k)) None) back ≡ cons_option (cond (p k) (Some (row k)) None) (picked p row (range_with_len (k + 1) count))
    by_test further true e =
        ap (λ b. cons_option (cond (p k && b) (Some (row k)) None) front ++ cons_option (cond (p k && not b) (Some (row k)) None) back) e ∙ at_front (p k)
        ∙ ap (cons_option (cond (p k) (Some (row k)) None)) further
    by_test further false e =
        let past : end ≤ k = ltb-false k end e in
        ap (λ rows. rows ++ picked (λ n. p n && not (ltb n end)) row (range_with_len k (suc count))) (none_below p row end k (suc count) past) ∙ all_after p row end k (suc count) past

module _ (by : List ℕ) (v : Vector) where
  key_at : ℕ → Cells
  key_at n = key_of by (row_at v n)

  -- the rows that pass a test
  passing : (ℕ → Bool) → List Cells
  passing p = present (rows_of (λ n. cond (p n) (Some (row_at v n)) None))

  passing_like : (p q : ℕ → Bool) → ((n : ℕ) → n < 1024 → p n ≡ q n) → passing p ≡ passing q
  unfolding passing
  passing_like p q h = ap present (rows_of-alike (λ n. cond (p n) (Some (row_at v n)) None) (λ n. cond (q n) (Some (row_at v n)) None) None (λ n l. ap (λ b. cond b (Some (row_at v n)) None) (h n l)))

  passing_parted : (p : ℕ → Bool) (end : ℕ) → passing (λ n. p n && ltb n end) ++ passing (λ n. p n && not (ltb n end)) ≡ passing p
  unfolding passing rows_of picked
  passing_parted p end = parted_at p (row_at v) end 0 1024

  with_key : (mask : List Bool) (q : Cells) → rows_with by (rows_at v mask) q ≡ passing (λ n. has mask n && same_cells q (key_at n))
  unfolding rows_with rows_at rows_of key_at passing
  with_key mask q = kept_of (λ row. same_cells q (key_of by row)) (has mask) (row_at v) (range_with_len 0 1024)

  all_of : (mask : List Bool) → rows_at v mask ≡ passing (has mask)
  unfolding rows_at passing
  all_of mask = refl

  flagged : (mask : List Bool) (q : Cells) → occurs_in by v q mask ≡ list_any (λ b. b) (rows_of (λ n. has mask n && same_cells q (key_at n)))
  unfolding rows_at rows_of key_at
  flagged mask q = flags_of (same_cells q) (has mask) (row_at v) by (range_with_len 0 1024)

  module _ (index : Entries) (mask : List Bool) (slice : Slice) (one : IsSlice by v index mask slice) (q : Cells) where
    is_outside : (n : ℕ) → n < 1024 → has (rows_outside mask slice) n ≡ (has mask n && not (has mask n && (ltb n one.end && same_cells one.key (key_at n))))
    unfolding key_at
    is_outside n l = has-rows_of (λ n. has mask n && not (has slice.rows n)) n l ∙ ap (λ b. has mask n && not b) (one.rows n l)

    -- the rows with the slice's key that are outside it are those from its end on
    outside_same : same_cells q one.key ≡ true → (n : ℕ) → n < 1024 → (has (rows_outside mask slice) n && same_cells q (key_at n)) ≡ ((has mask n && same_cells q (key_at n)) && not (ltb n one.end))
    outside_same e n l =
        ap (λ b. b && same_cells q (key_at n)) (is_outside n l)
        ∙ ap (λ (k : Cells). (has mask n && not (has mask n && (ltb n one.end && same_cells k (key_at n)))) && same_cells q (key_at n)) (sym (one_row q one.key e)) ∙ after (has mask n) (ltb n one.end) (same_cells q (key_at n))
      where
        after : (a c b : Bool) → ((a && not (a && (c && b))) && b) ≡ ((a && b) && not c)
        after true true true = refl
        after true true false = refl
        after true false true = refl
        after true false false = refl
        after false c b = refl

    -- the rows outside a slice have the other keys
    outside_other : same_cells q one.key ≡ false → (n : ℕ) → n < 1024 → (has (rows_outside mask slice) n && same_cells q (key_at n)) ≡ (has mask n && same_cells q (key_at n))
    outside_other e n l = ap (λ b. b && same_cells q (key_at n)) (is_outside n l) ∙ by_test (same_cells q (key_at n)) refl
      where
        same : (a c : Bool) → ((a && not (a && (c && false))) && true) ≡ (a && true)
        same true true = refl
        same true false = refl
        same false c = refl

        by_test : (b : Bool) → same_cells q (key_at n) ≡ b → ((has mask n && not (has mask n && (ltb n one.end && same_cells one.key (key_at n)))) && b) ≡ (has mask n && b)
        by_test false f = and-false (has mask n && not (has mask n && (ltb n one.end && same_cells one.key (key_at n)))) ∙ sym (and-false (has mask n))
        by_test true f =
            let apart : same_cells one.key (key_at n) ≡ false = ap (same_cells one.key) (sym (one_row q (key_at n) f)) ∙ turned q one.key e in
            ap (λ b. (has mask n && not (has mask n && (ltb n one.end && b))) && true) apart ∙ same (has mask n) (ltb n one.end)

    -- a key occurs where it is the slice's, or occurs outside
    pub occurs_parted : (row : ℕ) → row < 1024 → has mask row ≡ true → one.key ≡ key_of by (row_at v row) → (same_cells q one.key || occurs_in by v q (rows_outside mask slice)) ≡ occurs_in by v q mask
    unfolding key_at
    occurs_parted row l on is = by_test (same_cells q one.key) refl
      where
        by_test : (b : Bool) → same_cells q one.key ≡ b → (b || occurs_in by v q (rows_outside mask slice)) ≡ occurs_in by v q mask
        by_test true e =
            sym (flagged mask q ∙ any_at (rows_of (λ n. has mask n && same_cells q (key_at n))) row
            (has-rows_of (λ n. has mask n && same_cells q (key_at n)) row l ∙ ap (λ b. b && same_cells q (key_at row)) on ∙ ap (same_cells q) (sym is) ∙ e))
        by_test false e =
            flagged (rows_outside mask slice) q ∙ ap (list_any (λ b. b)) (rows_of-like (λ n. has (rows_outside mask slice) n && same_cells q (key_at n)) (λ n. has mask n && same_cells q (key_at n)) (outside_other e)) ∙ sym (flagged mask q)

    -- the rows with the slice's key are its own, and then those outside it
    pub rows_same : same_cells q one.key ≡ true → rows_at v slice.rows ++ rows_with by (rows_at v (rows_outside mask slice)) q ≡ rows_with by (rows_at v mask) q
    unfolding key_at
    rows_same e =
        let test : ℕ → Bool = λ n. has mask n && same_cells q (key_at n) in
        ap (λ rows. rows ++ rows_with by (rows_at v (rows_outside mask slice)) q)
        (all_of slice.rows ∙ passing_like (has slice.rows) (λ n. test n && ltb n one.end) (λ n l. one.rows n l ∙ ap (λ (k : Cells). has mask n && (ltb n one.end && same_cells k (key_at n))) (sym (one_row q one.key e)) ∙ first (has mask n) (ltb n one.end) (same_cells q (key_at n))))
        ∙ ap (λ rows. passing (λ n. test n && ltb n one.end) ++ rows) (with_key (rows_outside mask slice) q ∙ passing_like (λ n. has (rows_outside mask slice) n && same_cells q (key_at n)) (λ n. test n && not (ltb n one.end)) (outside_same e))
        ∙ passing_parted test one.end ∙ sym (with_key mask q)
      where
        first : (a c b : Bool) → (a && (c && b)) ≡ ((a && b) && c)
        first true true true = refl
        first true true false = refl
        first true false true = refl
        first true false false = refl
        first false c b = refl

    pub rows_other : same_cells q one.key ≡ false → rows_with by (rows_at v (rows_outside mask slice)) q ≡ rows_with by (rows_at v mask) q
    rows_other e = with_key (rows_outside mask slice) q ∙ passing_like (λ n. has (rows_outside mask slice) n && same_cells q (key_at n)) (λ n. has mask n && same_cells q (key_at n)) (outside_other e) ∙ sym (with_key mask q)

-- ---- one slice more
slice_grown : (by : List ℕ) (v : Vector) (mid new : Entries) (mask : List Bool) (slice : Slice) → IsGrown mid new → IsSlice by v mid mask slice → IsSlice by v new mask slice
slice_grown by v mid new mask slice grown h = record { key = h.key; end = h.end; placed = grown.kept h.key slice.place h.placed; rows = h.rows }

parted_grown : (by : List ℕ) (v : Vector) (mid new : Entries) (mask left : List Bool) (slices : List Slice) → IsGrown mid new → AreParted by v mid mask slices left → AreParted by v new mask slices left
parted_grown by v mid new mask left [] grown h = h
parted_grown by v mid new mask left (s ∷ ss) grown h = (slice_grown by v mid new mask s grown h.0, parted_grown by v mid new (rows_outside mask s) left ss grown h.1)

parted_push : (by : List ℕ) (v : Vector) (new : Entries) (mask left : List Bool) (slices : List Slice) (slice : Slice) → IsSlice by v new left slice → AreParted by v new mask slices left → AreParted by v new mask (slices ++ slice ∷ []) (rows_outside left slice)
parted_push by v new mask left [] slice one h = (subst (λ (m : List Bool). IsSlice by v new m slice) (sym h) one, ap (λ m. rows_outside m slice) h)
parted_push by v new mask left (s ∷ ss) slice one h = (h.0, parted_push by v new (rows_outside mask s) left ss slice one h.1)

-- the rows that are left are rows of the mask
pub left_within : (by : List ℕ) (v : Vector) (index : Entries) (mask left : List Bool) (slices : List Slice) → AreParted by v index mask slices left → (n : ℕ) → n < 1024 → has left n ≡ true → has mask n ≡ true
left_within by v index mask left [] h n l on = ap (λ m. has m n) h ∙ on
left_within by v index mask left (s ∷ ss) h n l on =
    (and_parts (has mask n) (not (has s.rows n)) (sym (has-rows_of (λ k. has mask k && not (has s.rows k)) n l) ∙ left_within by v index (rows_outside mask s) left ss h.1 n l on)).0

pub sliced_none : (by : List ℕ) (v : Vector) (mask : List Bool) (m : Entries) (slices : List Slice) → slices ≡ [] → AreSliced by v mask mask m m slices
sliced_none by v mask m slices e = subst (AreSliced by v mask mask m m) (sym e) (record { grown = grown_same m; parted = refl; occurs = λ q. refl })

pub sliced_more : (by : List ℕ) (v : Vector) (mask left next : List Bool) (old mid new : Entries) (slices after : List Slice) (slice : Slice) (key : Cells) (row end : ℕ) → AreSliced by v mask left old mid slices → row < 1024 → has left row ≡ true → key ≡ key_of by (row_at v row) → IsTakenIn key slice.place mid new
    → ((n : ℕ) → n < 1024 → has slice.rows n ≡ (has left n && (ltb n end && same_cells key (key_of by (row_at v n))))) → next ≡ rows_outside left slice → after ≡ slices ++ slice ∷ [] → AreSliced by v mask next old new after
sliced_more by v mask left next old mid new slices after slice key row end h l on is t rows e f =
    let one : IsSlice by v new left slice = record { key = key; end = end; placed = t.now; rows = rows } in
    subst (λ (m : List Bool). AreSliced by v mask m old new after) (sym e)
    (subst (AreSliced by v mask (rows_outside left slice) old new) (sym f)
    (record {
      grown = grown_more old mid new h.grown t.grown;
      parted = parted_push by v new mask left slices slice one (parted_grown by v mid new mask left slices t.grown h.parted);
      occurs = λ q.
          ap (λ b. b || occurs_in by v q (rows_outside left slice)) (t.occurs q) ∙ or_assoc (is_some (place_in mid q)) (same_cells q key) (occurs_in by v q (rows_outside left slice))
          ∙ ap (λ b. is_some (place_in mid q) || b) (occurs_parted by v new left slice one q row l on is) ∙ h.occurs q;
    }))

-- ---- the spans and slices, and then the rows that are left
pub spans_alone : (mask : List Bool) (spans : List Span) (slices : List Slice) → slices ≡ [] → slices_of_spans mask spans ≡ slices_of_spans mask spans ++ slices
spans_alone mask spans slices e = sym (ap (λ xs. slices_of_spans mask spans ++ xs) e ∙ append-nil (slices_of_spans mask spans))

pub slices_alone : (mask : List Bool) (spans : List Span) (slices : List Slice) → spans ≡ [] → slices ≡ slices_of_spans mask spans ++ slices
slices_alone mask spans slices e = sym (ap (λ xs. slices_of_spans mask xs ++ slices) e)

pub split_all : (by : List ℕ) (v : Vector) (mask : List Bool) (old mid new : Entries) (split : Split) → AreSliced by v mask split.left old mid (slices_of split) → ArePlaced 1024 by v split.left mid new split.places → IsSplit by v mask old new split
split_all by v mask old mid new split h p = record {
  grown = grown_more old mid new h.grown p.grown;
  parted = parted_grown by v mid new mask split.left (slices_of split) p.grown h.parted;
  placed = p.placed;
  occurs = λ q. p.occurs q ∙ ap (λ rows. is_some (place_in mid q) || list_any (same_cells q) (map (key_of by) rows)) (below_all 1024 v split.left refl) ∙ h.occurs q;
}

-- no row is left
pub split_whole : (by : List ℕ) (v : Vector) (mask : List Bool) (old new : Entries) (split : Split) → AreSliced by v mask split.left old new (slices_of split) → ((n : ℕ) → n < 1024 → has split.left n ≡ false) → IsSplit by v mask old new split
split_whole by v mask old new split h none = split_all by v mask old new new split h (placed_nowhere 1024 by v split.left new split.places none)

-- a split that isn't by codes owes nothing of them
pub not_by_code : (split : Split) → split.coded ≡ false → AreByCode split
not_by_code split off = record {
  within = λ on. absurd (false≢true (sym off ∙ on));
  few = λ on. absurd (false≢true (sym off ∙ on));
  rows = λ on. absurd (false≢true (sym off ∙ on));
}

-- the rows with a key's place are those with the key
pub shared_with : (by : List ℕ) (v : Vector) (index : Entries) (places : List ℕ) (left : List Bool) (q : Cells) (g : ℕ) → ((key other : Cells) (place : ℕ) → place_in index key ≡ Some place → place_in index other ≡ Some place → key ≡ other) → place_in index q ≡ Some g
    → rows_placed 1024 v left places g ≡ rows_with by (rows_at v left) q → (mask : List Bool) (slices : List Slice) → AreParted by v index mask slices left → rows_sliced v slices g ++ rows_placed 1024 v left places g ≡ rows_with by (rows_at v mask) q
shared_with by v index places left q g apart is last mask [] h = last ∙ ap (λ m. rows_with by (rows_at v m) q) (sym h)
shared_with by v index places left q g apart is last mask (s ∷ ss) h = by_test (shared_with by v index places left q g apart is last (rows_outside mask s) ss h.1) (same_cells q h.0.key) refl
  where
    rest : List Cells
    rest = rows_sliced v ss g ++ rows_placed 1024 v left places g

    by_place : (b : Bool) → (s.place == g) ≡ b → same_cells q h.0.key ≡ false → b ≡ false
    by_place false e f = refl
    by_place true e f =
        let same : q ≡ h.0.key = apart q h.0.key g is (h.0.placed ∙ ap Some ((Decides-eqb s.place g).0 e)) in
        absurd (false≢true (sym f ∙ ap (same_cells q) (sym same) ∙ itself_row q))

    by_test : rest ≡ rows_with by (rows_at v (rows_outside mask s)) q → (b : Bool) → same_cells q h.0.key ≡ b → (cond (s.place == g) (rows_at v s.rows) [] ++ rows_sliced v ss g) ++ rows_placed 1024 v left places g ≡ rows_with by (rows_at v mask) q
    by_test further true e =
        let here : (s.place == g) ≡ true = (Decides-eqb s.place g).1 (same_Some _ _ (sym h.0.placed ∙ ap (place_in index) (sym (one_row q h.0.key e)) ∙ is)) in
        append_assoc (cond (s.place == g) (rows_at v s.rows) []) (rows_sliced v ss g) (rows_placed 1024 v left places g)
        ∙ ap (λ b. cond b (rows_at v s.rows) [] ++ rest) here
        ∙ ap (λ l. rows_at v s.rows ++ l) further ∙ rows_same by v index mask s h.0 q e
    by_test further false e =
        let away : (s.place == g) ≡ false = by_place (s.place == g) refl e in
        ap (λ b. (cond b (rows_at v s.rows) [] ++ rows_sliced v ss g) ++ rows_placed 1024 v left places g) away ∙ further ∙ rows_other by v index mask s h.0 q e
