-- What was taken in, put at its keys, is the partial answer of the rows.
use Rattle.std.specs.Prelude.{◌≡◌, ℕ, ◌≤◌, true, false, cond, List, [], ◌∷◌, map as each, length, is_some, Option, Some, None}
use Rattle.std.proofs.Common.{refl, sym, ap, subst, ◌∙◌, arith}
use Rattle.std.specs.BTreeMap.{BTreeMap}
use Rattle.std.specs.Global.{Vec}
use Rattle.std.specs.Ordering.{eq_by_cmp, is_eq, ordering_reverse}
use Rattle.std.specs.declared.cmp.Ordering.{Ordering}
use Rattle.std.specs.declared.cmp.Ordering.TheVariants.{Less, Equal, Greater}
use Rattle.table_model.specs.Group.{key_cmp, key_of, rows_with}
use Rattle.table_model.specs.State.{Cells}
use Rattle.table_model.specs.Table.{Table}
use Rattle.table_model.proofs.Keys.{key_total}
use Rattle.query_eval.specs.Entries.{Entries, place_in}
use Rattle.query_eval.specs.Finished.{PlanShape}
use Rattle.query_eval.specs.Grouping.{AreGroups, AreGroupsOf}
use Rattle.query_eval.specs.Kept.{AreFew}
use Rattle.query_eval.specs.Taken.{AreTallied}
use Rattle.query_eval.specs.declared.tallies.groups.Groups.{Groups}
use Rattle.query_eval.specs.declared.tallies.aggregate.Aggregate.{Aggregate}
use Rattle.query_eval.specs.declared.tallies.tally.Tally.{Tally as Running}
use Rattle.query_eval.proofs.OrderLemmas.{few_with}
use Rattle.partial_answers.specs.PartialAnswer.{partial_answer_over, tallies_of}
use Rattle.partial_answers.specs.Evaluated.{told, told_at, told_places, AreWithin}
use Rattle.partial_answers.specs.Groups.{partial_answer_in, tallies_at}
use Rattle.partial_answers.specs.declared.kept.Kept.{Kept}
use Rattle.partial_answers.proofs.Combined.{same_partial_answers}
use Rattle.partial_answers.proofs.Evaluated.{all, any_tied, at_place}
use Rattle.partial_answers.proofs.Over.{get-partial, has_keys, rows_at, when}
use Rattle.partial_answers.proofs.PartialAnswerIn.{get-partial_answer_in}

reversed : (o p : Ordering) → p ≡ ordering_reverse o → is_eq p ≡ is_eq o
reversed Less p e = ap is_eq e
reversed Equal p e = ap is_eq e
reversed Greater p e = ap is_eq e

tied_back : (a b : Cells) → eq_by_cmp key_cmp a b ≡ eq_by_cmp key_cmp b a
tied_back a b = reversed (key_cmp b a) (key_cmp a b) (key_total.antisymm a b)

pub whole_told : (table : Table) (plan : PlanShape) (rows : List Cells) (made : BTreeMap Cells (Vec Kept)) (ts : List Running) → plan.grouping ≡ [] → AreFew table rows → AreTallied plan.aggregates rows ts
    → ((k : Cells) → tallies_at made k ≡ cond (eq_by_cmp key_cmp [] k) (Some (each told ts)) None) → partial_answer_in made ≡ partial_answer_over plan rows
whole_told table plan rows made ts none few h is = same_partial_answers _ _ (λ k.
    get-partial_answer_in made k ∙ is k
    ∙ (λ i. when (tied_back [] k i) (all table rows plan.aggregates ts few h i))
    ∙ sym (get-partial plan rows k ∙ ap (λ (by : List ℕ). when (has_keys by rows k) (tallies_of plan.aggregates (rows_at by rows k))) none))

-- the partial answer of rows at some keys, by what the index has there
at_keys : (table : Table) (column : ℕ) (by : List ℕ) (rows : List Cells) (aggregates : List Aggregate) (index : Entries) (columns : List (Vec Running)) (t : Running) (k : Cells) (o : Option ℕ)
    → AreFew table rows → AreGroups (column ∷ by) aggregates rows index columns → place_in index k ≡ o
    → told_places columns t o ≡ when (has_keys (column ∷ by) rows k) (tallies_of aggregates (rows_at (column ∷ by) rows k))
at_keys table column by rows aggregates index columns t k None few h is =
    let gone : false ≡ has_keys (column ∷ by) rows k = sym (ap is_some is) ∙ h.occurs k ∙ any_tied k (each (key_of (column ∷ by)) rows) in
    ap (λ b. when b (tallies_of aggregates (rows_at (column ∷ by) rows k))) gone
at_keys table column by rows aggregates index columns t k (Some place) few h is =
    let there : true ≡ has_keys (column ∷ by) rows k = sym (ap is_some is) ∙ h.occurs k ∙ any_tied k (each (key_of (column ∷ by)) rows) in
    let kept : told_at columns t place ≡ tallies_of aggregates (rows_with (column ∷ by) rows k) = at_place table (rows_with (column ∷ by) rows k) aggregates columns t place (few_with table (column ∷ by) rows k few) (h.held k place is) in
    λ i. when (there i) (kept i)

keyed_told : (table : Table) (by : List ℕ) (rows : List Cells) (aggregates : List Aggregate) (index : Entries) (columns : List (Vec Running)) (t : Running) (k : Cells) → 1 ≤ length by
    → AreFew table rows → AreGroups by aggregates rows index columns → told_places columns t (place_in index k) ≡ when (has_keys by rows k) (tallies_of aggregates (rows_at by rows k))
keyed_told table [] rows aggregates index columns t k some few h = absurd (omega arith)
keyed_told table (column ∷ by) rows aggregates index columns t k some few h = at_keys table column by rows aggregates index columns t k (place_in index k) few h refl

pub groups_told : (table : Table) (plan : PlanShape) (rows : List Cells) (made : BTreeMap Cells (Vec Kept)) (groups : Groups) (t : Running) → 1 ≤ length plan.grouping → AreFew table rows → AreGroupsOf plan rows groups
    → ((k : Cells) → tallies_at made k ≡ told_places groups.tallies.items t (place_in groups.places.index.entries k)) → partial_answer_in made ≡ partial_answer_over plan rows
groups_told table plan rows made groups t some few h is = same_partial_answers _ _ (λ k.
    get-partial_answer_in made k ∙ is k ∙ keyed_told table plan.grouping rows plan.aggregates groups.places.index.entries groups.tallies.items t k some few h ∙ sym (get-partial plan rows k))

-- each place is within each column
pub within_told : (plan : PlanShape) (rows : List Cells) (groups : Groups) → AreGroupsOf plan rows groups → AreWithin groups.places.index.entries groups.tallies.items
within_told plan rows groups h = λ key place is i c lt. (h.held key place is).within i c (omega (arith, lt, h.size))

-- entries that give each key the place that it has in an index tell what the index does, with the same columns
pub same_told : (made : BTreeMap Cells (Vec Kept)) (entries index : Entries) (columns others : List (Vec Running)) → ((k : Cells) → place_in entries k ≡ place_in index k) → columns ≡ others
    → ((t : Running) → AreWithin entries columns → (k : Cells) → tallies_at made k ≡ told_places columns t (place_in entries k))
    → (t : Running) → AreWithin index others → (k : Cells) → tallies_at made k ≡ told_places others t (place_in index k)
same_told made entries index columns others e f h =
    subst (λ (cs : List (Vec Running)). (t : Running) → AreWithin index cs → (k : Cells) → tallies_at made k ≡ told_places cs t (place_in index k)) f
    (λ t within k. h t (λ key place is. within key place (sym (e key) ∙ is)) k ∙ ap (told_places columns t) (e k))
