-- What the evaluator holds of few rows is what a partial answer has of them.
use Rattle.std.specs.Prelude.{◌≡◌, ℕ, suc, ◌≤◌, Bool, true, false, cond, ◌||◌, List, [], ◌∷◌, map as each, length, All, AllPairs, is_some, Option, Some, None, ℤ, pos}
use Rattle.std.proofs.Common.{refl, sym, ap, subst, ◌∙◌, arith, get_or}
use Rattle.std.specs.BTreeMap.{is_at}
use Rattle.std.specs.Cmp.{tied_itself}
use Rattle.std.specs.Global.{Vec}
use Rattle.std.specs.List.{AllByRecursion, list_any}
use Rattle.std.specs.List.Sorted.{IsStrictlySortedBy}
use Rattle.std.specs.Map.{keys_of, lookup}
use Rattle.std.specs.Ordering.{eq_by_cmp, is_eq}
use Rattle.std.specs.declared.cmp.Ordering.TheVariants.{Less}
use Rattle.std.proofs.lemmas.List.Elements.{All-nil, All-cons}
use Rattle.std.proofs.lemmas.List.Kept.{AllPairs-cons}
use Rattle.std.specs.FinMap as map
use Rattle.std.proofs.lemmas.Int.{ints}
use Rattle.std.proofs.lemmas.List.{length-map}
use Rattle.table_model.specs.Group.{state_row_limit, key_cmp, key_of, keys_in, rows_with, groups_of}
use Rattle.table_model.proofs.KeyLists.{keys_are}
use Rattle.table_model.proofs.Keys.{key_total, tied_keys}
use Rattle.table_model.specs.State.{Cells, same_cells}
use Rattle.table_model.specs.Table.{Table}
use Rattle.table_model.proofs.Bounds.{AreSmall, small_values, length-values_in}
use Rattle.query_eval.specs.Entries.{Entries, place_in}
use Rattle.query_eval.specs.Finished.{PlanShape}
use Rattle.query_eval.specs.Grouping.{AreGroups, AreHeld, IsHeld, aggregate_values}
use Rattle.query_eval.proofs.OrderLemmas.{few_with}
use Rattle.query_eval.specs.Kept.{AreFew}
use Rattle.query_eval.specs.Taken.{AreTallied}
use Rattle.query_eval.specs.Tally.{IsTally, kind_of}
use Rattle.query_eval.specs.declared.tallies.aggregate.Aggregate.{Aggregate}
use Rattle.query_eval.specs.declared.tallies.aggregate.Aggregate.TheVariants.{Rows, Folded}
use Rattle.table_model.specs.declared.extreme.Extreme.TheVariants.{Least, Greatest}
use Rattle.query_eval.specs.declared.tallies.tally.Tally.{Tally as Running}
use Rattle.query_eval.specs.declared.tallies.tally.Tally.TheVariants as running
use Rattle.query_eval.specs.declared.tallies.tally.TallyKind.{TallyKind}
use Rattle.partial_answers.specs.PartialAnswer.{Tallies, kept_of, tally_of, tallies_of, entry_of, partial_answer_over}
use Rattle.partial_answers.specs.Evaluated.{told, told_at, EvaluatedLaws}
use Rattle.partial_answers.proofs.Combined.{one_key}
use Rattle.partial_answers.proofs.Over.{entries-keyed}
use Rattle.partial_answers.proofs.Tallies.{tally_is, same_members}

zeros_small : (rows : List Cells) → AreSmall (each (λ _. pos 0) rows)
zeros_small [] = tt
zeros_small (row ∷ rows) = ((omega (arith, ints), omega (arith, ints)), zeros_small rows)

values_small : (a : Aggregate) (table : Table) (rows : List Cells) → AreFew table rows → AreSmall (aggregate_values a rows)
values_small Rows table rows few = zeros_small rows
values_small (Folded fold distinct place) table rows few = small_values table.columns rows place few.fit

values_few : (a : Aggregate) (table : Table) (rows : List Cells) → AreFew table rows → length (aggregate_values a rows) ≤ state_row_limit
values_few Rows table rows few = omega (arith, length-map {B = ℤ} rows (λ _. pos 0), few.few)
values_few (Folded fold distinct place) table rows few = omega (arith, length-values_in rows place, few.few)

-- a tally that has taken in few small values keeps what its kind keeps of them
kept : (values : List ℤ) (t : Running) → length values ≤ state_row_limit → AreSmall values → IsTally values t → told t ≡ kept_of (kind_of t) values
kept values (running.Count count) few small h = tally_is _ _ (h few) refl refl refl refl
kept values (running.Sum sums) few small h = tally_is _ _ (h few small).count (h few small).sum refl refl refl
kept values (running.Extreme Least value) few small h = tally_is _ _ refl refl h refl refl
kept values (running.Extreme Greatest value) few small h = tally_is _ _ refl refl refl h refl
kept values (running.Distinct seen) few small h = tally_is _ _ refl refl refl refl (same_members seen.value.values values h)

one : (table : Table) (rows : List Cells) (a : Aggregate) (t : Running) → AreFew table rows → IsHeld rows a t → told t ≡ tally_of rows a
one table rows a t few h =
    kept (aggregate_values a rows) t (values_few a table rows few) (values_small a table rows few) h.values
    ∙ ap (λ (kind : TallyKind). kept_of kind (aggregate_values a rows)) h.kind

pub all : (table : Table) (rows : List Cells) (aggregates : List Aggregate) (ts : List Running) → AreFew table rows → AreTallied aggregates rows ts → each told ts ≡ tallies_of aggregates rows
all table rows [] [] few h = refl
all table rows [] (t ∷ ts) few h = absurd (omega (arith, h.size))
all table rows (a ∷ rest) [] few h = absurd (omega (arith, h.size))
all table rows (a ∷ rest) (t ∷ ts) few h =
    let first = one table rows a t few (h.each 0 a t (omega arith)) in
    let others = all table rows rest ts few (record { size = omega (arith, h.size); each = λ i b u within. h.each (suc i) b u (omega (arith, within)) }) in
    λ i. first i ∷ others i

-- ---- groups
abbrev Places : Type 0
Places = List (Cells × ℕ)

-- it holds of each entry
abbrev Each : (Cells → ℕ → Type 0) → Places → Type 0
Each P [] = Unit {0}
Each P (e ∷ es) = P e.0 e.1 × Each P es

not_below : (q : Cells) (es : Places) → AllByRecursion (λ k. key_cmp q k ≡ Less) (keys_of es) → lookup (is_at (key_cmp q)) es ≡ None
not_below q [] h = refl
not_below q (e ∷ es) h = ap (λ o. cond (is_eq o) (Some e.1) (lookup (is_at (key_cmp q)) es)) h.0 ∙ not_below q es h.1

found_later : (e : Cells × ℕ) (es : Places) (q : Cells) (x : ℕ) → AllByRecursion (λ k. key_cmp e.0 k ≡ Less) (keys_of es) → lookup (is_at (key_cmp q)) es ≡ Some x → lookup (is_at (key_cmp q)) (e ∷ es) ≡ Some x
found_later e es q x h is =
    elim (eq_by_cmp key_cmp q e.0) as (λ b. eq_by_cmp key_cmp q e.0 ≡ b → cond b (Some e.1) (lookup (is_at (key_cmp q)) es) ≡ Some x) [
      | true ↦ λ tied.
          let none_there : lookup (is_at (key_cmp q)) es ≡ None = not_below q es (subst (λ (n : Cells). AllByRecursion (λ k. key_cmp n k ≡ Less) (keys_of es)) (sym (one_key q e.0 tied)) h) in
          let never : None ≡ Some x = sym none_there ∙ is in cc
      | false ↦ λ _. is
    ] refl

each_found : (P : Cells → ℕ → Type 0) (es : Places) → IsStrictlySortedBy key_cmp (keys_of es) → ((q : Cells) (x : ℕ) → lookup (is_at (key_cmp q)) es ≡ Some x → P q x) → Each P es
unfolding IsStrictlySortedBy
each_found P [] h f = tt
each_found P (e ∷ es) h f =
    (f e.0 e.1 (ap (λ o. cond (is_eq o) (Some e.1) (lookup (is_at (key_cmp e.0)) es)) (tied_itself key_total e.0)), each_found P es h.1 (λ q x is. f q x (found_later e es q x h.0 is)))

-- the tallies at the place of a group
pub at_place : (table : Table) (rows : List Cells) (aggregates : List Aggregate) (columns : List (Vec Running)) (t : Running) (place : ℕ) → AreFew table rows → AreHeld rows aggregates columns place → told_at columns t place ≡ tallies_of aggregates rows
at_place table rows [] [] t place few h = refl
at_place table rows [] (c ∷ cs) t place few h = absurd (omega (arith, h.size))
at_place table rows (a ∷ rest) [] t place few h = absurd (omega (arith, h.size))
at_place table rows (a ∷ rest) (c ∷ cs) t place few h =
    let first = one table rows a (get_or c.items place t) few (h.each 0 a c t (omega arith)) in
    let others = at_place table rows rest cs t place few (record { size = omega (arith, h.size); within = λ i d l. h.within (suc i) d (omega (arith, l)); each = λ i b d u l. h.each (suc i) b d u (omega (arith, l)) }) in
    λ i. first i ∷ others i

abbrev keyed : List Aggregate → List ℕ → List Cells → Cells → Cells × Tallies
keyed aggregates by rows k = (k, tallies_of aggregates (rows_with by rows k))

abbrev placed : List (Vec Running) → Running → Cells × ℕ → Cells × Tallies
placed columns t e = (e.0, told_at columns t e.1)

all_told : (table : Table) (by : List ℕ) (rows : List Cells) (aggregates : List Aggregate) (columns : List (Vec Running)) (t : Running) (es : Places) → AreFew table rows → Each (λ key place. AreHeld (rows_with by rows key) aggregates columns place) es
    → each (placed columns t) es ≡ each (keyed aggregates by rows) (keys_of es)
all_told table by rows aggregates columns t [] few h = refl
all_told table by rows aggregates columns t (e ∷ es) few h =
    let here = at_place table (rows_with by rows e.0) aggregates columns t e.1 (few_with table by rows e.0 few) h.0 in
    let rest = all_told table by rows aggregates columns t es few h.1 in
    λ i. (e.0, here i) ∷ rest i

all_of : (P : Cells → Type 0) (ks : List Cells) → AllByRecursion P ks → All P ks
all_of P [] h = All-nil P
all_of P (k ∷ ks) h = All-cons P k ks h.0 (all_of P ks h.1)

sorted_pairs : (ks : List Cells) → IsStrictlySortedBy key_cmp ks → AllPairs (λ a b. key_cmp a b ≡ Less) ks
unfolding IsStrictlySortedBy
sorted_pairs [] h = λ i j d p q. absurd (omega arith)
sorted_pairs (k ∷ ks) h = AllPairs-cons (λ a b. key_cmp a b ≡ Less) k ks (all_of (λ b. key_cmp k b ≡ Less) ks h.0) (sorted_pairs ks h.1)

some_or : (b : Bool) (t : ℕ) (o : Option ℕ) (rest : Bool) → is_some o ≡ rest → is_some (cond b (Some t) o) ≡ (b || rest)
some_or true t o rest e = refl
some_or false t o rest e = e

found_any : (q : Cells) (es : Places) → is_some (lookup (is_at (key_cmp q)) es) ≡ list_any (eq_by_cmp key_cmp q) (keys_of es)
found_any q [] = refl
found_any q (e ∷ es) = some_or (is_at (key_cmp q) e.0) e.1 (lookup (is_at (key_cmp q)) es) _ (found_any q es)

pub any_tied : (q : Cells) (ks : List Cells) → list_any (same_cells q) ks ≡ list_any (eq_by_cmp key_cmp q) ks
any_tied q [] = refl
any_tied q (k ∷ ks) = λ i. tied_keys q k i || any_tied q ks i

-- a look-up by the order of the keys finds a key's place
by_order : (es : Places) (q : Cells) → place_in es q ≡ lookup (is_at (key_cmp q)) es
by_order es q = λ i. lookup (λ k. tied_keys q k i) es

in_groups : (table : Table) (by : List ℕ) (rows : List Cells) (aggregates : List Aggregate) (columns : List (Vec Running)) (t : Running) (es : Entries) → 1 ≤ length by → AreFew table rows → IsStrictlySortedBy key_cmp (keys_of es) → AreGroups by aggregates rows es columns
    → each (placed columns t) es ≡ each (entry_of aggregates) (groups_of by rows)
unfolding groups_of
in_groups table [] rows aggregates columns t es some few up h = absurd (omega arith)
in_groups table (column ∷ by) rows aggregates columns t es some few up h =
    let all_columns = column ∷ by in
    let same = keys_are all_columns rows (keys_of es) (sorted_pairs (keys_of es) up) (λ q. sym (found_any q es) ∙ ap is_some (sym (by_order es q)) ∙ h.occurs q ∙ any_tied q (each (key_of all_columns) rows)) in
    all_told table all_columns rows aggregates columns t es few (each_found (λ key place. AreHeld (rows_with all_columns rows key) aggregates columns place) es up (λ q x is. h.held q x (by_order es q ∙ is)))
    ∙ ap (each (keyed aggregates all_columns rows)) (sym same)
    ∙ sym (entries-keyed aggregates all_columns rows (map.keys (keys_in all_columns rows)))

from_groups : (table : Table) (plan : PlanShape) (rows : List Cells) (entries : Entries) (columns : List (Vec Running)) (t : Running) → 1 ≤ length plan.grouping → AreFew table rows → IsStrictlySortedBy key_cmp (keys_of entries) → AreGroups plan.grouping plan.aggregates rows entries columns
    → map.from_sorted (each (λ (e : Cells × ℕ). (e.0, told_at columns t e.1)) entries) ≡ partial_answer_over plan rows
unfolding partial_answer_over
from_groups table plan rows entries columns t some few up h = ap map.from_sorted (in_groups table plan.grouping rows plan.aggregates columns t entries some few up h)

from_whole : (table : Table) (plan : PlanShape) (rows : List Cells) (ts : List Running) → plan.grouping ≡ [] → AreFew table rows → AreTallied plan.aggregates rows ts → map.from_sorted (([], each told ts) ∷ []) ≡ partial_answer_over plan rows
unfolding partial_answer_over groups_of
from_whole table plan rows ts none few h =
    (λ i. map.from_sorted (([], all table rows plan.aggregates ts few h i) ∷ []))
    ∙ sym (ap (λ (by : List ℕ). map.from_sorted (each (entry_of plan.aggregates) (groups_of by rows))) none)

pub evaluated : EvaluatedLaws
evaluated = record { tally = one; tallies = all; whole = from_whole; grouped = from_groups }
