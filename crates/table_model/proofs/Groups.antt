-- The groups of some rows part them: each row's keys occur, and the keys that occur all differ.
use Rattle.std.specs.Prelude.{◌≡◌, ℕ, zero, suc, ◌≤◌, Bool, true, false, cond, ◌&&◌, ◌||◌, List, [], ◌∷◌, ◌++◌, map, filter, length, sum_by, All, AllPairs, is_some, Option, Some, None, ◌+ℤ◌}
use Rattle.std.specs.FinMap as finite
use Rattle.std.specs.FinMap.Entries.{find}
use Rattle.std.specs.List.{flat_map, list_any, list_all}
use Rattle.std.specs.List.Sorted.{IsPermutation}
use Rattle.std.specs.Ordering.{eq_by_cmp}
use Rattle.std.specs.declared.cmp.Ordering.TheVariants.{Less}
use Rattle.std.proofs.Common.{refl, sym, ap, subst, ◌∙◌, arith, append-nil, get_or, ◌<◌}
use Rattle.std.proofs.lemmas.Bool.{false≢true, or_right}
use Rattle.std.proofs.lemmas.Cmp.{eq_by_cmp_equiv}
use Rattle.std.proofs.lemmas.List.{map-append, get_or-map, length-map}
use Rattle.std.proofs.lemmas.List.Elements.{All-nil, All-cons, All-map, All-weaker, filter_passes, filter_map-append}
use Rattle.std.proofs.lemmas.List.Concat.{length-flat_map}
use Rattle.std.proofs.lemmas.List.Folds.{flat_map-map}
use Rattle.std.proofs.lemmas.List.Sorted.{IsPermutation-refl, length_permutation}
use Rattle.table_model.specs.Group.{Group, AreAscending, GroupLaws, cell, key_cmp, key_of, keys_in, rows_with, group_at, groups_of, values_in}
use Rattle.table_model.specs.State.{Cells, same_cells}
use Rattle.table_model.specs.Values.{present, total}
use Rattle.table_model.proofs.Alike.{Rearranged-map, Rearranged-present, list_any-alike, total-alike}
use Rattle.table_model.proofs.Appended.{total-append}
use Rattle.table_model.proofs.Keys.{key_total, tied_keys, tied_is, keys_ascend}
use Rattle.table_model.proofs.Parts.{picked_all}
use Rattle.table_model.proofs.Rearranged.{Rearranged, rearranged}
use Rattle.table_model.proofs.SameRows.{one_row, itself_row}

abbrev pub mark : Bool → Option (Unit {0})
mark b = cond b (Some tt) None

pub either_marked : (b c : Bool) → cond b (Some tt) (mark c) ≡ mark (b || c)
either_marked true c = refl
either_marked false c = refl

is_some-mark : (b : Bool) → is_some (mark b) ≡ b
is_some-mark true = refl
is_some-mark false = refl

turned : (k q : Cells) → eq_by_cmp key_cmp q k ≡ same_cells k q
turned k q = (eq_by_cmp_equiv key_total).symm q k ∙ sym (tied_keys k q)

any_turned : (ks : List Cells) (q : Cells) → list_any (eq_by_cmp key_cmp q) ks ≡ list_any (λ k. same_cells k q) ks
any_turned [] q = refl
any_turned (k ∷ ks) q = λ i. turned k q i || any_turned ks q i

itself : (q : Cells) → eq_by_cmp key_cmp q q ≡ true
itself q = sym (tied_keys q q) ∙ itself_row q

any_itself : (ks : List Cells) (i : ℕ) (d : Cells) → i < length ks → list_any (eq_by_cmp key_cmp (get_or ks i d)) ks ≡ true
any_itself [] i d h = absurd (omega arith)
any_itself (k ∷ ks) zero d h = ap (λ b. b || list_any (eq_by_cmp key_cmp k) ks) (itself k)
any_itself (k ∷ ks) (suc i) d h = or_right (eq_by_cmp key_cmp (get_or ks i d) k) _ (any_itself ks i d (omega arith))

one_more : (b c : Bool) (row : Cells) (rows : List Cells) → (b || c) ≡ true → (c ≡ true → 1 ≤ length rows) → 1 ≤ length (cond b (row ∷ rows) rows)
one_more true c row rows h rest = omega arith
one_more false c row rows h rest = rest h

module _ (by : List ℕ) where
  abbrev marked_key : Cells → Cells × Unit {0}
  marked_key row = (key_of by row, tt)

  found : (q : Cells) (rows : List Cells) → find key_cmp q (map marked_key rows) ≡ mark (list_any (eq_by_cmp key_cmp q) (map (key_of by) rows))
  found q [] = refl
  found q (row ∷ rows) =
      let first : Option (Unit {0}) → Option (Unit {0}) = cond (eq_by_cmp key_cmp q (key_of by row)) (Some tt) in
      ap first (found q rows) ∙ either_marked (eq_by_cmp key_cmp q (key_of by row)) (list_any (eq_by_cmp key_cmp q) (map (key_of by) rows))

  pub get-keys_in : (rows : List Cells) (q : Cells) → finite.get (keys_in by rows) q ≡ mark (list_any (eq_by_cmp key_cmp q) (map (key_of by) rows))
  unfolding keys_in
  get-keys_in rows q = finite.get-from_entries key_total (map marked_key rows) q ∙ found q rows

  -- a list of keys is one of the groups' exactly where a row has it
  pub occurs : (rows : List Cells) (q : Cells) → list_any (eq_by_cmp key_cmp q) (finite.keys (keys_in by rows)) ≡ list_any (eq_by_cmp key_cmp q) (map (key_of by) rows)
  occurs rows q = sym (finite.contains_key-keys (keys_in by rows) q) ∙ ap is_some (get-keys_in rows q) ∙ is_some-mark (list_any (eq_by_cmp key_cmp q) (map (key_of by) rows))

  -- rows in another order have the same keys
  pub keys_in-alike : (xs ys : List Cells) → Rearranged xs ys → keys_in by xs ≡ keys_in by ys
  keys_in-alike xs ys h =
      finite.same_map key_total tied_is (keys_in by xs) (keys_in by ys)
      (λ q. get-keys_in xs q ∙ ap mark (list_any-alike (eq_by_cmp key_cmp q) _ _ (Rearranged-map (key_of by) xs ys h)) ∙ sym (get-keys_in ys q))

  each_among : (ks : List Cells) (rows : List Cells) → ((q : Cells) → list_any (eq_by_cmp key_cmp q) (map (key_of by) rows) ≡ true → list_any (eq_by_cmp key_cmp q) ks ≡ true) → list_all (λ row. list_any (λ k. same_cells k (key_of by row)) ks) rows ≡ true
  each_among ks [] found = refl
  each_among ks (row ∷ rows) found =
      let here : list_any (λ k. same_cells k (key_of by row)) ks ≡ true = sym (any_turned ks (key_of by row)) ∙ found (key_of by row) (ap (λ b. b || list_any (eq_by_cmp key_cmp (key_of by row)) (map (key_of by) rows)) (itself (key_of by row))) in
      ap (λ b. b && list_all (λ x. list_any (λ k. same_cells k (key_of by x)) ks) rows) here
      ∙ each_among ks rows (λ q later. found q (or_right (eq_by_cmp key_cmp q (key_of by row)) _ later))

  group_rows : (rows : List Cells) (ks : List Cells) → flat_map (λ group. group.rows) (map (group_at by rows) ks) ≡ flat_map (λ k. rows_with by rows k) ks
  group_rows rows ks = flat_map-map (λ group. group.rows) (group_at by rows) ks

  parts_by : (rows : List Cells) → IsPermutation rows (flat_map (λ group. group.rows) (map (group_at by rows) (finite.keys (keys_in by rows))))
  unfolding rows_with
  parts_by rows =
      let ks = finite.keys (keys_in by rows) in
      subst (IsPermutation rows) (sym (group_rows rows ks))
      (picked_all same_cells one_row (key_of by) ks rows (keys_ascend by rows).1 (each_among ks rows (λ q here. occurs rows q ∙ here)))

  keys_by : (rows ks : List Cells) → All (λ group. All (λ row. key_of by row ≡ group.key) group.rows) (map (group_at by rows) ks)
  unfolding rows_with
  keys_by rows ks =
      All-map (λ (group : Group). All (λ row. key_of by row ≡ group.key) group.rows) (group_at by rows) ks
      (λ i d h. All-weaker (λ row. same_cells (get_or ks i d) (key_of by row) ≡ true) (λ row. key_of by row ≡ get_or ks i d) (λ row e. sym (one_row _ _ e)) (rows_with by rows (get_or ks i d)) (filter_passes (λ row. same_cells (get_or ks i d) (key_of by row)) rows))

  some_picked : (q : Cells) (rows : List Cells) → list_any (eq_by_cmp key_cmp q) (map (key_of by) rows) ≡ true → 1 ≤ length (filter (λ row. same_cells q (key_of by row)) rows)
  some_picked q [] h = absurd (false≢true h)
  some_picked q (row ∷ rows) h =
      let rest = list_any (eq_by_cmp key_cmp q) (map (key_of by) rows) in
      one_more (same_cells q (key_of by row)) rest row (filter (λ x. same_cells q (key_of by x)) rows) (ap (λ b. b || rest) (tied_keys q (key_of by row)) ∙ h) (some_picked q rows)

  some_by : (rows : List Cells) → All (λ group. 1 ≤ length group.rows) (map (group_at by rows) (finite.keys (keys_in by rows)))
  unfolding rows_with
  some_by rows =
      let ks = finite.keys (keys_in by rows) in
      All-map (λ (group : Group). 1 ≤ length group.rows) (group_at by rows) ks
      (λ i d h. some_picked (get_or ks i d) rows (sym (occurs rows (get_or ks i d)) ∙ any_itself ks i d h))

parts : (by : List ℕ) (rows : List Cells) → IsPermutation rows (flat_map (λ group. group.rows) (groups_of by rows))
unfolding groups_of
parts [] rows = subst (IsPermutation rows) (sym (append-nil rows)) (IsPermutation-refl rows)
parts (column ∷ by) rows = parts_by (column ∷ by) rows

pub keys : (by : List ℕ) (rows : List Cells) → All (λ group. All (λ row. key_of by row ≡ group.key) group.rows) (groups_of by rows)
unfolding groups_of
keys [] rows =
    let whole : Group = record { key = []; rows = rows } in
    All-cons (λ (group : Group). All (λ row. key_of [] row ≡ group.key) group.rows) whole [] (λ i d h. refl) (All-nil (λ (group : Group). All (λ row. key_of [] row ≡ group.key) group.rows))
keys (column ∷ by) rows = keys_by (column ∷ by) rows (finite.keys (keys_in (column ∷ by) rows))

-- groups ascend as their keys do
ascending_by : (by : List ℕ) (rows ks : List Cells) → AllPairs (λ a b. key_cmp a b ≡ Less) ks → AreAscending (map (group_at by rows) ks)
ascending_by by rows ks up i j d before last =
    let within : j < length ks = omega (arith, length-map ks (group_at by rows)) in
    let at_i = ap (λ (group : Group). group.key) (get_or-map (group_at by rows) ks i [] d (omega arith)) in
    let at_j = ap (λ (group : Group). group.key) (get_or-map (group_at by rows) ks j [] d within) in
    (λ t. key_cmp (at_i t) (at_j t)) ∙ up i j [] before within

pub ascending : (by : List ℕ) (rows : List Cells) → AreAscending (groups_of by rows)
unfolding groups_of
ascending [] rows = λ i j d p q. absurd (omega arith)
ascending (column ∷ by) rows = ascending_by (column ∷ by) rows (finite.keys (keys_in (column ∷ by) rows)) (keys_ascend (column ∷ by) rows).0

some : (column : ℕ) (by : List ℕ) (rows : List Cells) → All (λ group. 1 ≤ length group.rows) (groups_of (column ∷ by) rows)
unfolding groups_of
some column by rows = some_by (column ∷ by) rows

counts : (by : List ℕ) (rows : List Cells) → sum_by (λ group. length group.rows) (groups_of by rows) ≡ length rows
counts by rows = sym (length-flat_map (λ (group : Group). group.rows) (groups_of by rows)) ∙ length_permutation rows _ (parts by rows)

pub values_in-append : (column : ℕ) (xs ys : List Cells) → values_in column (xs ++ ys) ≡ values_in column xs ++ values_in column ys
unfolding values_in
values_in-append column xs ys = ap present (map-append (λ row. cell row column) xs ys) ∙ filter_map-append (λ x. x) (map (λ row. cell row column) xs) (map (λ row. cell row column) ys)

pub values_in-alike : (column : ℕ) (xs ys : List Cells) → Rearranged xs ys → Rearranged (values_in column xs) (values_in column ys)
unfolding values_in
values_in-alike column xs ys h = Rearranged-present _ _ (Rearranged-map (λ row. cell row column) xs ys h)

total-values_in-flat_map : (column : ℕ) (groups : List Group) → total (values_in column (flat_map (λ group. group.rows) groups)) ≡ total (map (λ group. total (values_in column group.rows)) groups)
unfolding values_in
total-values_in-flat_map column [] = refl
total-values_in-flat_map column (group ∷ groups) =
    let rest = flat_map (λ (g : Group). g.rows) groups in
    ap total (values_in-append column group.rows rest)
    ∙ total-append (values_in column group.rows) (values_in column rest)
    ∙ ap (λ t. total (values_in column group.rows) +ℤ t) (total-values_in-flat_map column groups)

sums : (by : List ℕ) (rows : List Cells) (column : ℕ) → total (map (λ group. total (values_in column group.rows)) (groups_of by rows)) ≡ total (values_in column rows)
sums by rows column =
    sym (total-alike _ _ (values_in-alike column rows _ (rearranged rows _ (parts by rows))) ∙ total-values_in-flat_map column (groups_of by rows))

pub groups : GroupLaws
groups = record {
  parts = parts;
  keys = keys;
  ascending = ascending;
  some = some;
  counts = counts;
  sums = sums;
}
