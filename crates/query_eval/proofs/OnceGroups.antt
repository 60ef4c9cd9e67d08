-- The groups by columns that are each named once are those by all mentions: the same rows, in the same order.
use Rattle.std.proofs.Common.{◌≡◌, ℕ, suc, ◌==◌, ◌+◌, ◌<◌, ◌≤◌, Bool, true, false, cond, not, ◌||◌, List, [], ◌∷◌, ◌++◌, fold, map, filter, length, get_or, slice_index_or, None, AllPairs, append-nil, append_assoc, length-append, refl, sym, ap, subst, ◌∙◌, arith}
use Rattle.std.specs.FinMap as finite
use Rattle.std.specs.List.{flat_map, list_any, position_or_len}
use Rattle.std.specs.Option.{option_cmp}
use Rattle.std.specs.Ordering.{int_cmp, eq_by_cmp, is_eq, ordering_then}
use Rattle.std.specs.declared.cmp.Ordering.{Ordering}
use Rattle.std.specs.declared.cmp.Ordering.TheVariants.{Less, Equal, Greater}
use Rattle.std.proofs.lemmas.Bool.{false≢true, or_right}
use Rattle.std.proofs.lemmas.Bool.Decides.{Decides-eqb}
use Rattle.std.proofs.lemmas.List.{get_or-map, length-map}
use Rattle.std.proofs.lemmas.Simd.{map-map}
use Rattle.table_model.specs.Answer.{whole}
use Rattle.table_model.specs.Group.{Group, cell, group_at, groups_of, key_cmp, key_of, keys_in, rows_with}
use Rattle.table_model.specs.Meaning.{at_group, function_value, group_cell, grouping_of, is_kept, item_value, place_of}
use Rattle.table_model.specs.Query.{QueryShape}
use Rattle.table_model.specs.State.{Cells, same_cells}
use Rattle.table_model.specs.Table.{ColumnShape}
use Rattle.table_model.specs.declared.answer.Field.{Field}
use Rattle.table_model.specs.declared.query.ItemValue.{ItemValue}
use Rattle.table_model.specs.declared.query.ItemValue.TheVariants.{Grouped, Computed}
use Rattle.table_model.specs.declared.query.Operand.{Operand}
use Rattle.table_model.specs.declared.query.Operand.TheVariants.{Column, Literal, Function}
use Rattle.table_model.proofs.Groups.{occurs}
use Rattle.table_model.proofs.KeyLists.{keys_are}
use Rattle.table_model.proofs.Keys.{keys_ascend, tied_keys}
use Rattle.table_model.proofs.SameRows.{itself_row, one_row}
use Rattle.query_eval.specs.Aggregate.{aggregates_of, functions_of, having_functions, item_functions}
use Rattle.query_eval.specs.Finished.{GroupFields, finished_by, finished_groups, finished_of, seen_item, seen_operand}
use Rattle.query_eval.specs.Once.{asked_once, places_once, with_place}
use Rattle.query_eval.proofs.FinishLemmas.{all_named, chosen_alike, items_seen, kept_seen, parted}
use Rattle.query_eval.proofs.OnceLemmas.{in-once, is_in, named-once}

-- ---- keys compare as those of all mentions do
abbrev tie : ℕ → Cells → Cells → Ordering
tie p a b = option_cmp int_cmp (cell a p) (cell b p)

abbrev pub ordered : List ℕ → Cells → Cells → Ordering
ordered by a b = key_cmp (key_of by a) (key_of by b)

then_alike : (o x y : Ordering) → (o ≡ Equal → x ≡ y) → ordering_then o x ≡ ordering_then o y
then_alike Less x y h = refl
then_alike Equal x y h = h refl
then_alike Greater x y h = refl

tied_dropped : (a b : Cells) (p : ℕ) (before rest : List ℕ) → tie p a b ≡ Equal → ordered (before ++ p ∷ rest) a b ≡ ordered (before ++ rest) a b
tied_dropped a b p [] rest e = ap (λ o. ordering_then o (ordered rest a b)) e
tied_dropped a b p (s ∷ before) rest e = ap (ordering_then (tie s a b)) (tied_dropped a b p before rest e)

again_dropped : (a b : Cells) (p : ℕ) (before rest : List ℕ) → is_in p before ≡ true → ordered (before ++ p ∷ rest) a b ≡ ordered (before ++ rest) a b
again_dropped a b p [] rest h = absurd (false≢true h)
again_dropped a b p (s ∷ before) rest h = by_test (again_dropped a b p before rest) (s == p) refl
  where
    by_test : (is_in p before ≡ true → ordered (before ++ p ∷ rest) a b ≡ ordered (before ++ rest) a b) → (t : Bool) → (s == p) ≡ t → ordered ((s ∷ before) ++ p ∷ rest) a b ≡ ordered ((s ∷ before) ++ rest) a b
    by_test later true e =
        then_alike (tie s a b) (ordered (before ++ p ∷ rest) a b) (ordered (before ++ rest) a b)
        (λ tied. tied_dropped a b p before rest (subst (λ (x : ℕ). tie x a b ≡ Equal) ((Decides-eqb s p).0 e) tied))
    by_test later false e = ap (ordering_then (tie s a b)) (later (ap (λ t. t || is_in p before) (sym e) ∙ h))

one_dropped : (a b : Cells) (p : ℕ) (before rest : List ℕ) → ordered (with_place before p ++ rest) a b ≡ ordered (before ++ p ∷ rest) a b
one_dropped a b p before rest =
    elim (is_in p before) as (λ t. is_in p before ≡ t → ordered (cond t before (before ++ p ∷ []) ++ rest) a b ≡ ordered (before ++ p ∷ rest) a b) [
      | true ↦ λ e. sym (again_dropped a b p before rest e)
      | false ↦ λ e. ap (λ (l : List ℕ). ordered l a b) (append_assoc before (p ∷ []) rest)
    ] refl

all_dropped : (a b : Cells) (rest before : List ℕ) → ordered (fold with_place before rest) a b ≡ ordered (before ++ rest) a b
all_dropped a b [] before = ap (λ (l : List ℕ). ordered l a b) (sym (append-nil before))
all_dropped a b (p ∷ rest) before = all_dropped a b rest (with_place before p) ∙ one_dropped a b p before rest

pub ordered-once : (by : List ℕ) (a b : Cells) → ordered (places_once by) a b ≡ ordered by a b
unfolding places_once
ordered-once by a b = all_dropped a b by []

-- ---- a grouping column's cell in a row's key
at_or_later : (p c : ℕ) (t b : Bool) (row key : Cells) (n : ℕ) → (p == c) ≡ t → slice_index_or key n None ≡ cond b (cell row c) None → slice_index_or (cell row p ∷ key) (cond (not t) (1 + n) 0) None ≡ cond (t || b) (cell row c) None
at_or_later p c true b row key n is later = ap (cell row) ((Decides-eqb p c).0 is)
at_or_later p c false b row key n is later = let next : 1 + n ≡ suc n = omega arith in ap (λ k. slice_index_or (cell row p ∷ key) k None) next ∙ later

pub cell_seen : (by : List ℕ) (row : Cells) (c : ℕ) → slice_index_or (key_of by row) (position_or_len (λ place. place == c) by) None ≡ cond (is_in c by) (cell row c) None
cell_seen [] row c = refl
cell_seen (p ∷ by) row c = at_or_later p c (p == c) (is_in c by) row (key_of by row) (position_or_len (λ place. place == c) by) refl (cell_seen by row c)

-- ---- lists of keys
any_tied : (q : Cells) (ks : List Cells) → list_any (same_cells q) ks ≡ list_any (eq_by_cmp key_cmp q) ks
any_tied q [] = refl
any_tied q (k ∷ ks) = λ i. tied_keys q k i || any_tied q ks i

pub bool_alike : (x y : Bool) → (x ≡ true → y ≡ true) → (y ≡ true → x ≡ true) → x ≡ y
bool_alike true true f g = refl
bool_alike true false f g = absurd (false≢true (f refl))
bool_alike false true f g = absurd (false≢true (g refl))
bool_alike false false f g = refl

pub witness : (by : List ℕ) (q : Cells) (xs : List Cells) → list_any (same_cells q) (map (key_of by) xs) ≡ true → (r : Cells) × (q ≡ key_of by r)
witness by q [] h = absurd (false≢true h)
witness by q (x ∷ xs) h = by_test (witness by q xs) (same_cells q (key_of by x)) refl
  where
    by_test : (list_any (same_cells q) (map (key_of by) xs) ≡ true → (r : Cells) × (q ≡ key_of by r)) → (t : Bool) → same_cells q (key_of by x) ≡ t → (r : Cells) × (q ≡ key_of by r)
    by_test later true e = (x, one_row q (key_of by x) e)
    by_test later false e = later (ap (λ t. t || list_any (same_cells q) (map (key_of by) xs)) (sym e) ∙ h)

represented : (by : List ℕ) (ks : List Cells) → ((k : Cells) → list_any (same_cells k) ks ≡ true → (r : Cells) × (k ≡ key_of by r)) → (rs : List Cells) × (ks ≡ map (key_of by) rs)
represented by [] h = ([], refl)
represented by (k ∷ ks) h =
    let first = h k (ap (λ t. t || list_any (same_cells k) ks) (itself_row k)) in
    let rest = represented by ks (λ q e. h q (or_right (same_cells q k) _ e)) in
    (first.0 ∷ rest.0, λ i. first.1 i ∷ rest.1 i)

keys_occur : (by : List ℕ) (rows : List Cells) (q : Cells) → list_any (same_cells q) (finite.keys (keys_in by rows)) ≡ list_any (same_cells q) (map (key_of by) rows)
keys_occur by rows q = any_tied q (finite.keys (keys_in by rows)) ∙ occurs by rows q ∙ sym (any_tied q (map (key_of by) rows))

-- ---- two lists of columns by which rows compare alike
module _ (once by : List ℕ) (alike : (a b : Cells) → ordered once a b ≡ ordered by a b) where
  pub tied : (a b : Cells) → same_cells (key_of once a) (key_of once b) ≡ same_cells (key_of by a) (key_of by b)
  tied a b = tied_keys (key_of once a) (key_of once b) ∙ ap is_eq (alike a b) ∙ sym (tied_keys (key_of by a) (key_of by b))

  pub rows_alike : (rows : List Cells) (r : Cells) → rows_with once rows (key_of once r) ≡ rows_with by rows (key_of by r)
  unfolding rows_with
  rows_alike [] r = refl
  rows_alike (row ∷ rows) r = λ i. cond (tied r row i) (row ∷ rows_alike rows r i) (rows_alike rows r i)

  pub any_alike : (xs : List Cells) (r : Cells) → list_any (same_cells (key_of once r)) (map (key_of once) xs) ≡ list_any (same_cells (key_of by r)) (map (key_of by) xs)
  any_alike [] r = refl
  any_alike (x ∷ xs) r = λ i. tied r x i || any_alike xs r i

  moved : (xs ys : List Cells) → ((q : Cells) → list_any (same_cells q) (map (key_of once) xs) ≡ list_any (same_cells q) (map (key_of once) ys)) → (q : Cells) → list_any (same_cells q) (map (key_of by) xs) ≡ true → list_any (same_cells q) (map (key_of by) ys) ≡ true
  moved xs ys h q e =
      let w = witness by q xs e in
      let here : list_any (same_cells (key_of by w.0)) (map (key_of by) xs) ≡ true = subst (λ (x : Cells). list_any (same_cells x) (map (key_of by) xs) ≡ true) w.1 e in
      subst (λ (x : Cells). list_any (same_cells x) (map (key_of by) ys) ≡ true) (sym w.1) (sym (any_alike ys w.0) ∙ sym (h (key_of once w.0)) ∙ any_alike xs w.0 ∙ here)

  pairs_alike : (rs : List Cells) → AllPairs (λ a b. key_cmp a b ≡ Less) (map (key_of once) rs) → AllPairs (λ a b. key_cmp a b ≡ Less) (map (key_of by) rs)
  pairs_alike rs up i j d before last =
      let within : j < length rs = omega (arith, length-map rs (key_of by)) in
      let at_i = get_or-map (key_of by) rs i [] d (omega arith) in
      let at_j = get_or-map (key_of by) rs j [] d within in
      let was_i = get_or-map (key_of once) rs i [] d (omega arith) in
      let was_j = get_or-map (key_of once) rs j [] d within in
      let inside : j < length (map (key_of once) rs) = omega (arith, within, length-map rs (key_of once)) in
      (λ t. key_cmp (at_i t) (at_j t)) ∙ sym (alike (get_or rs i []) (get_or rs j [])) ∙ sym (λ t. key_cmp (was_i t) (was_j t)) ∙ up i j d before inside

  keys_alike : (rows rs : List Cells) → finite.keys (keys_in once rows) ≡ map (key_of once) rs → finite.keys (keys_in by rows) ≡ map (key_of by) rs
  keys_alike rows rs are =
      let same : (q : Cells) → list_any (same_cells q) (map (key_of once) rs) ≡ list_any (same_cells q) (map (key_of once) rows) = λ q. sym (ap (list_any (same_cells q)) are) ∙ keys_occur once rows q in
      keys_are by rows (map (key_of by) rs) (pairs_alike rs (subst (AllPairs (λ a b. key_cmp a b ≡ Less)) are (keys_ascend once rows).0))
      (λ q. sym (any_tied q (map (key_of by) rs)) ∙ bool_alike _ _ (moved rs rows same q) (moved rows rs (λ p. sym (same p)) q) ∙ any_tied q (map (key_of by) rows))

-- ---- a group's row stands for it
abbrev group_with : List ℕ → List Cells → Cells → Group
group_with by rows r = group_at by rows (key_of by r)

abbrev ArePaired : List ℕ → List ℕ → List Cells → List Cells → Type 0
ArePaired once by rows rs = (groups_of once rows ≡ map (group_with once rows) rs) × (groups_of by rows ≡ map (group_with by rows) rs)

some_groups : (by : List ℕ) (rows : List Cells) → 1 ≤ length by → groups_of by rows ≡ map (group_at by rows) (finite.keys (keys_in by rows))
unfolding groups_of
some_groups [] rows h = absurd (omega (arith, h))
some_groups (c ∷ by) rows h = refl

with_rows : (by : List ℕ) (rows rs : List Cells) → 1 ≤ length by → finite.keys (keys_in by rows) ≡ map (key_of by) rs → groups_of by rows ≡ map (group_with by rows) rs
with_rows by rows rs some are = some_groups by rows some ∙ ap (map (group_at by rows)) are ∙ map-map (group_at by rows) (key_of by) rs

longer : (rest before : List ℕ) → length before ≤ length (fold with_place before rest)
longer [] before = omega arith
longer (p ∷ rest) before =
    let one : length before ≤ length (with_place before p) =
    elim (is_in p before) as (λ b. length before ≤ length (cond b before (before ++ p ∷ []))) [
      | true ↦ omega arith
      | false ↦ omega (arith, length-append before (p ∷ []))
    ] in
    omega (arith, one, longer rest (with_place before p))

pub some_once : (c : ℕ) (by : List ℕ) → 1 ≤ length (places_once (c ∷ by))
unfolding places_once
some_once c by = longer by (c ∷ [])

pub none_once : places_once [] ≡ []
unfolding places_once
none_once = refl

all_with : (rows : List Cells) → rows_with [] rows [] ≡ rows
unfolding rows_with
all_with [] = refl
all_with (row ∷ rows) = ap (λ (l : List Cells). row ∷ l) (all_with rows)

whole_group : (rows : List Cells) → groups_of [] rows ≡ map (group_with [] rows) ([] ∷ [])
unfolding groups_of
whole_group rows = ap (λ (l : List Cells). (let one : Group = record { key = []; rows = l } in one) ∷ []) (sym (all_with rows))

paired : (by : List ℕ) (rows : List Cells) → (rs : List Cells) × ArePaired (places_once by) by rows rs
paired [] rows = ([] ∷ [], (subst (λ (l : List ℕ). groups_of l rows ≡ map (group_with l rows) ([] ∷ [])) (sym none_once) (whole_group rows), whole_group rows))
paired (c ∷ by) rows =
    let all = c ∷ by in
    let once = places_once all in
    let found = represented once (finite.keys (keys_in once rows)) (λ k e. witness once k rows (sym (keys_occur once rows k) ∙ e)) in
    (found.0, (with_rows once rows found.0 (some_once c by) found.1, with_rows all rows found.0 (omega arith) (keys_alike once all (ordered-once all) rows found.0 found.1)))

-- ---- what is seen of a group
module _ (columns : List ColumnShape) (by : List ℕ) (rows : List Cells) (r : Cells) where
  abbrev asked : Group
  asked = group_with (places_once by) rows r

  abbrev meant : Group
  meant = group_with by rows r

  cell_alike : (c : ℕ) → group_cell (places_once by) asked c ≡ group_cell by meant c
  cell_alike c = cell_seen (places_once by) r c ∙ ap (λ b. cond b (cell r c) None) (in-once by c) ∙ sym (cell_seen by r c)

  same_rows : asked.rows ≡ meant.rows
  same_rows = rows_alike (places_once by) by (ordered-once by) rows r

  pub operand_alike : (o : Operand) → at_group columns (places_once by) asked o ≡ at_group columns by meant o
  operand_alike (Column column) = ap whole (cell_alike (place_of columns column.name))
  operand_alike (Literal n) = refl
  operand_alike (Function f) = ap (function_value columns f) same_rows

  pub item_alike : (item : ItemValue) → item_value columns (places_once by) asked item ≡ item_value columns by meant item
  item_alike (Grouped column) = ap whole (cell_alike (place_of columns column.name))
  item_alike (Computed f) = ap (function_value columns f) same_rows

-- the rows of the groups that HAVING keeps, by finished groups of what is asked once
pub rows_once : (columns : List ColumnShape) (query : QueryShape) (rows : List Cells) → (let plan = asked_once columns query in map (λ group. map (λ item. seen_item columns plan group item.value) query.items) (filter (λ group. is_kept query.having (seen_operand columns plan group)) (finished_by plan rows)))
    ≡ map (λ group. map (λ item. item_value columns (grouping_of columns query) group item.value) query.items) (filter (λ group. is_kept query.having (at_group columns (grouping_of columns query) group)) (groups_of (grouping_of columns query) rows))
unfolding aggregates_of finished_groups
rows_once columns query rows =
    let plan = asked_once columns query in
    let by = grouping_of columns query in
    let named = parted columns plan (flat_map (λ item. item_functions item.value) query.items) (having_functions query.having) (all_named columns plan (functions_of query) (named-once (aggregates_of columns query))) in
    let both = paired by rows in
    let rs = both.0 in
    let p : GroupFields → Bool = λ group. is_kept query.having (seen_operand columns plan group) in
    let f : GroupFields → List Field = λ group. map (λ item. seen_item columns plan group item.value) query.items in
    let q : Group → Bool = λ group. is_kept query.having (at_group columns by group) in
    let g : Group → List Field = λ group. map (λ item. item_value columns by group item.value) query.items in
    let fin : Group → GroupFields = finished_of plan.aggregates in
    let asked : Cells → Group = group_with (places_once by) rows in
    let meant : Cells → Group = group_with by rows in
    ap (λ (gs : List Group). map f (filter p (map fin gs))) both.1.0
    ∙ ap (λ (l : List GroupFields). map f (filter p l)) (map-map fin asked rs)
    ∙ chosen_alike (λ r. fin (asked r)) p f (λ r. q (meant r)) (λ r. g (meant r))
    (λ r. kept_seen columns plan (asked r) query.having named.1 ∙ (λ i. is_kept query.having (λ o. operand_alike columns by rows r o i)))
    (λ r. items_seen columns plan (asked r) query.items named.0 ∙ (λ i. map (λ item. item_alike columns by rows r item.value i) query.items)) rs
    ∙ sym (chosen_alike meant q g (λ r. q (meant r)) (λ r. g (meant r)) (λ r. refl) (λ r. refl) rs)
    ∙ ap (λ (gs : List Group). map g (filter q gs)) (sym both.1.1)
