-- The partial answer of some rows: what it has at some keys, of rows in another order, of two lists of rows, and its answer.
use Rattle.std.specs.Prelude.{◌≡◌, ℕ, suc, Bool, true, false, cond, ◌||◌, T, List, [], ◌∷◌, ◌++◌, map as each, filter, All, Option, Some, None}
use Rattle.std.proofs.Common.{refl, sym, ap, ◌∙◌, arith}
use Rattle.std.specs.List.{list_any}
use Rattle.std.specs.Ordering.{eq_by_cmp, is_lt}
use Rattle.std.specs.FinMap as map
use Rattle.std.specs.FinMap.Entries.{find, below_all, is_sorted}
use Rattle.std.specs.declared.cmp.Ordering.TheVariants.{Less}
use Rattle.std.proofs.lemmas.Bool.{or_parts}
use Rattle.std.proofs.lemmas.List.{map-append}
use Rattle.std.proofs.lemmas.List.Elements.{All-head, All-tail, filter-append}
use Rattle.std.proofs.lemmas.List.Folds.{list_any-append}
use Rattle.table_model.specs.Group.{Group, AreAscending, key_cmp, key_of, keys_in, rows_with, group_at, groups_of}
use Rattle.table_model.specs.Meaning.{answer_over, groups_having, item_text, rows_where}
use Rattle.table_model.specs.Query.{QueryShape}
use Rattle.table_model.specs.State.{Cells, same_cells}
use Rattle.table_model.specs.Table.{Table}
use Rattle.table_model.proofs.Alike.{Rearranged-filter, Rearranged-map, list_any-alike}
use Rattle.table_model.proofs.Groups.{ascending, occurs}
use Rattle.table_model.proofs.Keys.{tied_keys}
use Rattle.table_model.proofs.Passed.{both_of, is_less}
use Rattle.table_model.proofs.Rearranged.{Rearranged}
use Rattle.query_eval.specs.Finished.{GroupFields, PlanShape, finished_of, groups_kept, plan_of, seen_items}
use Rattle.query_eval.specs.declared.tallies.aggregate.Aggregate.{Aggregate}
use Rattle.query_eval.proofs.FinishLemmas.{rows_seen}
use Rattle.partial_answers.specs.PartialAnswer.{Tallies, tallies_of, entry_of, partial_answer_over, either, combine, shown, finish}
use Rattle.partial_answers.proofs.Lists.{find-keyed}
use Rattle.partial_answers.specs.Measures.{measures_of, measured}
use Rattle.partial_answers.proofs.Measured.{fields-tallies}
use Rattle.partial_answers.proofs.Tallies.{tallies-alike, tallies-append}
use Rattle.partial_answers.proofs.Combined.{one_key, same_partial_answers, get-combine}

-- ---- the entries are in order
module _ (aggregates : List Aggregate) where
  below : (key : Cells) (groups : List Group) → All (λ g. key_cmp key g.key ≡ Less) groups → T (below_all key_cmp key (each (entry_of aggregates) groups))
  below key [] h = tt
  below key (g ∷ gs) h =
      both_of (is_lt (key_cmp key g.key)) (below_all key_cmp key (each (entry_of aggregates) gs)) (is_less (key_cmp key g.key) (All-head (λ (x : Group). key_cmp key x.key ≡ Less) g gs h))
      (below key gs (All-tail (λ (x : Group). key_cmp key x.key ≡ Less) g gs h))

  in_order : (groups : List Group) → AreAscending groups → T (is_sorted key_cmp (each (entry_of aggregates) groups))
  in_order [] up = tt
  in_order (g ∷ gs) up =
      both_of (below_all key_cmp g.key (each (entry_of aggregates) gs)) (is_sorted key_cmp (each (entry_of aggregates) gs)) (below g.key gs (λ i d h. up 0 (suc i) d (omega arith) (omega arith)))
      (in_order gs (λ i j d p q. up (suc i) (suc j) d (omega arith) (omega arith)))

pub entries-partial : (plan : PlanShape) (rows : List Cells) → map.entries (partial_answer_over plan rows) ≡ each (entry_of plan.aggregates) (groups_of plan.grouping rows)
unfolding partial_answer_over
entries-partial plan rows = map.entries-from_sorted key_cmp (each (entry_of plan.aggregates) (groups_of plan.grouping rows)) (in_order plan.aggregates _ (ascending plan.grouping rows))

-- ---- what a partial answer has at some keys
-- the rows have these keys; without GROUP BY there is one group, with none
abbrev pub has_keys : List ℕ → List Cells → Cells → Bool
has_keys [] rows k = eq_by_cmp key_cmp k []
has_keys (c ∷ by) rows k = list_any (eq_by_cmp key_cmp k) (each (key_of (c ∷ by)) rows)

abbrev pub rows_at : List ℕ → List Cells → Cells → List Cells
rows_at [] rows k = rows
rows_at (c ∷ by) rows k = rows_with (c ∷ by) rows k

abbrev pub when : Bool → Tallies → Option Tallies
when b t = cond b (Some t) None

pub entries-keyed : (aggregates : List Aggregate) (by : List ℕ) (rows ks : List Cells) → each (entry_of aggregates) (each (group_at by rows) ks) ≡ each (λ k. (k, tallies_of aggregates (rows_with by rows k))) ks
entries-keyed aggregates by rows [] = refl
entries-keyed aggregates by rows (k ∷ ks) = ap (λ (l : List (Cells × Tallies)). (k, tallies_of aggregates (rows_with by rows k)) ∷ l) (entries-keyed aggregates by rows ks)

found : (aggregates : List Aggregate) (by : List ℕ) (rows : List Cells) (k : Cells) → find key_cmp k (each (entry_of aggregates) (groups_of by rows)) ≡ when (has_keys by rows k) (tallies_of aggregates (rows_at by rows k))
unfolding groups_of
found aggregates [] rows k = refl
found aggregates (c ∷ by) rows k =
    let g : Cells → Tallies = λ key. tallies_of aggregates (rows_with (c ∷ by) rows key) in
    let ks = map.keys (keys_in (c ∷ by) rows) in
    ap (find key_cmp k) (entries-keyed aggregates (c ∷ by) rows ks)
    ∙ find-keyed key_cmp one_key g ks k
    ∙ ap (λ b. cond b (Some (g k)) None) (occurs (c ∷ by) rows k)

pub get-partial : (plan : PlanShape) (rows : List Cells) (k : Cells) → map.get (partial_answer_over plan rows) k ≡ when (has_keys plan.grouping rows k) (tallies_of plan.aggregates (rows_at plan.grouping rows k))
get-partial plan rows k = map.get-entries (partial_answer_over plan rows) k ∙ ap (find key_cmp k) (entries-partial plan rows) ∙ found plan.aggregates plan.grouping rows k

-- ---- rows in another order
keys-alike : (by : List ℕ) (xs ys : List Cells) (k : Cells) → Rearranged xs ys → has_keys by xs k ≡ has_keys by ys k
keys-alike [] xs ys k h = refl
keys-alike (c ∷ by) xs ys k h = list_any-alike (eq_by_cmp key_cmp k) _ _ (Rearranged-map (key_of (c ∷ by)) xs ys h)

rows-alike : (by : List ℕ) (xs ys : List Cells) (k : Cells) → Rearranged xs ys → Rearranged (rows_at by xs k) (rows_at by ys k)
unfolding rows_with
rows-alike [] xs ys k h = h
rows-alike (c ∷ by) xs ys k h = Rearranged-filter (λ row. same_cells k (key_of (c ∷ by) row)) xs ys h

pub partial-alike : (plan : PlanShape) (xs ys : List Cells) → Rearranged xs ys → partial_answer_over plan xs ≡ partial_answer_over plan ys
partial-alike plan xs ys h = same_partial_answers _ _ (λ k.
    get-partial plan xs k
    ∙ (λ i. when (keys-alike plan.grouping xs ys k h i) (tallies-alike plan.aggregates _ _ (rows-alike plan.grouping xs ys k h) i))
    ∙ sym (get-partial plan ys k))

-- ---- two lists of rows
none_with : (by : List ℕ) (rows : List Cells) (k : Cells) → list_any (eq_by_cmp key_cmp k) (each (key_of by) rows) ≡ false → filter (λ row. same_cells k (key_of by row)) rows ≡ []
none_with by [] k e = refl
none_with by (row ∷ rows) k e =
    let components = or_parts (eq_by_cmp key_cmp k (key_of by row)) (list_any (eq_by_cmp key_cmp k) (each (key_of by) rows)) e in
    ap (λ b. cond b (row ∷ filter (λ x. same_cells k (key_of by x)) rows) (filter (λ x. same_cells k (key_of by x)) rows)) (tied_keys k (key_of by row) ∙ components.0)
    ∙ none_with by rows k components.1

-- what is kept of two groups with the same keys, each of which may not be there
both_groups : (aggregates : List Aggregate) (a b : Bool) (xs ys : List Cells) → (a ≡ false → xs ≡ []) → (b ≡ false → ys ≡ []) → when (a || b) (tallies_of aggregates (xs ++ ys)) ≡ either (when a (tallies_of aggregates xs)) (when b (tallies_of aggregates ys))
both_groups aggregates true true xs ys f g = ap Some (tallies-append aggregates xs ys)
both_groups aggregates true false xs ys f g = ap (λ (l : List Cells). Some (tallies_of aggregates (xs ++ l))) (g refl) ∙ ap (λ (l : List Cells). Some (tallies_of aggregates l)) (nothing_more xs)
  where
    nothing_more : (l : List Cells) → l ++ [] ≡ l
    nothing_more [] = refl
    nothing_more (x ∷ l) = ap (λ (r : List Cells). x ∷ r) (nothing_more l)
both_groups aggregates false true xs ys f g = ap (λ (l : List Cells). Some (tallies_of aggregates (l ++ ys))) (f refl)
both_groups aggregates false false xs ys f g = refl

one_group : (aggregates : List Aggregate) (a : Bool) (xs ys : List Cells) → when a (tallies_of aggregates (xs ++ ys)) ≡ either (when a (tallies_of aggregates xs)) (when a (tallies_of aggregates ys))
one_group aggregates true xs ys = ap Some (tallies-append aggregates xs ys)
one_group aggregates false xs ys = refl

two_lists : (aggregates : List Aggregate) (by : List ℕ) (xs ys : List Cells) (k : Cells) → when (has_keys by (xs ++ ys) k) (tallies_of aggregates (rows_at by (xs ++ ys) k))
    ≡ either (when (has_keys by xs k) (tallies_of aggregates (rows_at by xs k))) (when (has_keys by ys k) (tallies_of aggregates (rows_at by ys k)))
unfolding rows_with
two_lists aggregates [] xs ys k = one_group aggregates (eq_by_cmp key_cmp k []) xs ys
two_lists aggregates (c ∷ by) xs ys k =
    let all = c ∷ by in
    let p : Cells → Bool = λ row. same_cells k (key_of all row) in
    let keys : list_any (eq_by_cmp key_cmp k) (each (key_of all) (xs ++ ys)) ≡ (list_any (eq_by_cmp key_cmp k) (each (key_of all) xs) || list_any (eq_by_cmp key_cmp k) (each (key_of all) ys)) =
    ap (list_any (eq_by_cmp key_cmp k)) (map-append (key_of all) xs ys) ∙ list_any-append (eq_by_cmp key_cmp k) (each (key_of all) xs) (each (key_of all) ys) in
    (λ i. when (keys i) (tallies_of aggregates (filter-append p xs ys i)))
    ∙ both_groups aggregates (list_any (eq_by_cmp key_cmp k) (each (key_of all) xs)) (list_any (eq_by_cmp key_cmp k) (each (key_of all) ys)) (filter p xs) (filter p ys) (none_with all xs k) (none_with all ys k)

pub partial-append : (plan : PlanShape) (xs ys : List Cells) → partial_answer_over plan (xs ++ ys) ≡ combine (partial_answer_over plan xs) (partial_answer_over plan ys)
partial-append plan xs ys = same_partial_answers _ _ (λ k.
    get-partial plan (xs ++ ys) k ∙ two_lists plan.aggregates plan.grouping xs ys k
    ∙ sym (get-combine (partial_answer_over plan xs) (partial_answer_over plan ys) k ∙ (λ i. either (get-partial plan xs k i) (get-partial plan ys k i))))

-- ---- the answer
shown-entries : (aggregates : List Aggregate) (groups : List Group) → each (shown aggregates) (each (entry_of (measures_of aggregates)) groups) ≡ each (finished_of aggregates) groups
shown-entries aggregates [] = refl
shown-entries aggregates (g ∷ gs) = λ i. record { key = g.key; fields = fields-tallies aggregates g.rows i } ∷ shown-entries aggregates gs i

pub finish-partial : (table : Table) (query : QueryShape) (rows : List Cells) → finish table query (partial_answer_over (measured (plan_of table.columns query)) (rows_where table.columns query rows)) ≡ answer_over table query rows
unfolding finish answer_over groups_having
finish-partial table query rows =
    let plan = plan_of table.columns query in
    let kept = rows_where table.columns query rows in
    let groups = groups_of plan.grouping kept in
    let given = ap (each (shown plan.aggregates)) (entries-partial (measured plan) kept) ∙ shown-entries plan.aggregates groups in
    let fields = ap (λ (gs : List GroupFields). each (seen_items table.columns plan query.items) (groups_kept table.columns plan query.having gs)) given ∙ rows_seen table.columns query groups in
    λ i. record { heading = each item_text query.items; rows = fields i }
