-- What was taken in, put at its keys, has the shape that was asked for.
use Rattle.std.specs.Prelude.{◌≡◌, ℕ, suc, ◌≤◌, Bool, true, false, cond, ◌||◌, List, [], ◌∷◌, map as each, length, is_some, Option, Some, None}
use Rattle.std.proofs.Common.{refl, sym, ap, subst, ◌∙◌, arith, get_or}
use Rattle.std.specs.BTreeMap.{BTreeMap}
use Rattle.std.specs.Cmp.{tied_itself}
use Rattle.std.specs.Global.{Vec}
use Rattle.std.specs.List.{list_any}
use Rattle.std.specs.Ordering.{eq_by_cmp, is_eq}
use Rattle.std.proofs.lemmas.Bool.{false≢true}
use Rattle.std.proofs.lemmas.List.{length-map}
use Rattle.table_model.specs.Group.{cell, key_cmp, key_of}
use Rattle.table_model.specs.Query.{QueryShape}
use Rattle.table_model.specs.State.{Cells, same_cells}
use Rattle.table_model.specs.Table.{Table}
use Rattle.table_model.proofs.Keys.{key_total}
use Rattle.table_model.proofs.SameRows.{one_row}
use Rattle.query_eval.specs.Entries.{Entries, place_in}
use Rattle.query_eval.specs.Finished.{PlanShape, plan_of}
use Rattle.query_eval.specs.Grouping.{AreGroupsOf, AreHeld}
use Rattle.query_eval.specs.Taken.{AreTallied}
use Rattle.query_eval.specs.declared.tallies.groups.Groups.{Groups}
use Rattle.query_eval.specs.declared.tallies.aggregate.Aggregate.{Aggregate}
use Rattle.query_eval.specs.declared.tallies.tally.Tally.{Tally as Running}
use Rattle.partial_answers.specs.Evaluated.{told, told_places, AreWithin}
use Rattle.partial_answers.specs.Groups.{tallies_at, tallies_of_some}
use Rattle.partial_answers.specs.Kinds.{AllKeep, AreOfKinds, kinds_at, running_kind}
use Rattle.partial_answers.specs.Measures.{measured}
use Rattle.partial_answers.specs.PartialAnswer.{Tallies}
use Rattle.partial_answers.specs.Refusing.{KeptGroups}
use Rattle.partial_answers.specs.Shape.{FitPlan, HaveShape, kind_number, measure_kind}
use Rattle.partial_answers.proofs.Combined.{one_key}

-- the tallies of some rows are of the kinds of their set functions
tallied_kinds : (rows : List Cells) (aggregates : List Aggregate) (ts : List Running) → AreTallied aggregates rows ts → each running_kind ts ≡ each measure_kind aggregates
tallied_kinds rows [] [] h = refl
tallied_kinds rows [] (t ∷ ts) h = absurd (omega (arith, h.size))
tallied_kinds rows (a ∷ rest) [] h = absurd (omega (arith, h.size))
tallied_kinds rows (a ∷ rest) (t ∷ ts) h =
    let first : running_kind t ≡ measure_kind a = ap kind_number (h.each 0 a t (omega arith)).kind in
    let others = tallied_kinds rows rest ts (record { size = omega (arith, h.size); each = λ i b u within. h.each (suc i) b u (omega (arith, within)) }) in
    λ i. first i ∷ others i

-- so are those at the place of a group
held_kinds : (rows : List Cells) (aggregates : List Aggregate) (columns : List (Vec Running)) (t : Running) (place : ℕ) → AreHeld rows aggregates columns place → kinds_at columns t place ≡ each measure_kind aggregates
held_kinds rows [] [] t place h = refl
held_kinds rows [] (c ∷ cs) t place h = absurd (omega (arith, h.size))
held_kinds rows (a ∷ rest) [] t place h = absurd (omega (arith, h.size))
held_kinds rows (a ∷ rest) (c ∷ cs) t place h =
    let first : running_kind (get_or c.items place t) ≡ measure_kind a = ap kind_number (h.each 0 a c t (omega arith)).kind in
    let others = held_kinds rows rest cs t place (record { size = omega (arith, h.size); within = λ i d l. h.within (suc i) d (omega (arith, l)); each = λ i b d u l. h.each (suc i) b d u (omega (arith, l)) }) in
    λ i. first i ∷ others i

pub groups_of_kinds : (plan : PlanShape) (rows : List Cells) (groups : Groups) → AreGroupsOf plan rows groups → AreOfKinds (each measure_kind plan.aggregates) groups.places.index.entries groups.tallies.items
groups_of_kinds plan rows groups h = λ key place t at. held_kinds _ plan.aggregates groups.tallies.items t place (h.held key place at)

-- keys that occur have a cell for each grouping column
keyed_length : (by : List ℕ) (rows : List Cells) (k : Cells) → list_any (same_cells k) (each (key_of by) rows) ≡ true → length k ≡ length by
keyed_length by [] k h = absurd (false≢true h)
keyed_length by (row ∷ rows) k h =
    elim (same_cells k (key_of by row)) as (λ b. same_cells k (key_of by row) ≡ b → length k ≡ length by) [
      | true ↦ λ same. ap length (one_row k (key_of by row) same) ∙ length-map by (cell row)
      | false ↦ λ apart. keyed_length by rows k (sym (ap (λ b. b || list_any (same_cells k) (each (key_of by) rows)) apart) ∙ h)
    ] refl

none-some : (ts : Tallies) → None ≡ Some ts → ⊥
none-some ts e = cc

tied_there : (b : Bool) (ts us : Tallies) → Some us ≡ cond b (Some ts) None → b ≡ true
tied_there true ts us e = refl
tied_there false ts us e = absurd (none-some us (sym e))

place_there : (columns : List (Vec Running)) (t : Running) (o : Option ℕ) (us : Tallies) → Some us ≡ told_places columns t o → is_some o ≡ true
place_there columns t None us e = absurd (none-some us (sym e))
place_there columns t (Some place) us e = refl

pub whole_shape : (plan : PlanShape) (rows : List Cells) (made : KeptGroups) (ts : List Running) → plan.grouping ≡ [] → AreTallied plan.aggregates rows ts
    → ((k : Cells) → tallies_at made k ≡ cond (eq_by_cmp key_cmp [] k) (Some (each told ts)) None) → AllKeep (each running_kind ts) made → FitPlan plan made
whole_shape plan rows made ts none h is keep = record {
  groups = λ k kept at. (ap length (sym (one_key [] k (tied_there _ _ _ (sym (ap tallies_of_some at) ∙ is k)))) ∙ ap length (sym none), keep k kept at ∙ tallied_kinds rows plan.aggregates ts h);
  whole = λ e gone. none-some (each told ts) (sym (ap tallies_of_some gone) ∙ is [] ∙ ap (λ o. cond (is_eq o) (Some (each told ts)) None) (tied_itself key_total []));
}

pub groups_shape : (plan : PlanShape) (rows : List Cells) (made : KeptGroups) (groups : Groups) (t : Running) → 1 ≤ length plan.grouping → AreGroupsOf plan rows groups
    → ((k : Cells) → tallies_at made k ≡ told_places groups.tallies.items t (place_in groups.places.index.entries k)) → AllKeep (each measure_kind plan.aggregates) made → FitPlan plan made
groups_shape plan rows made groups t some h is keep = record {
  groups = λ k kept at. (keyed_length plan.grouping rows k (sym (h.occurs k) ∙ place_there groups.tallies.items t _ _ (sym (ap tallies_of_some at) ∙ is k)), keep k kept at);
  whole = λ e gone. absurd (omega (arith, ap length e, some));
}

-- entries that give each key the place that it has in an index keep the same kinds, with the same columns
pub same_kinds : (kinds : List ℕ) (made : KeptGroups) (entries index : Entries) (columns others : List (Vec Running)) → ((k : Cells) → place_in entries k ≡ place_in index k) → columns ≡ others
    → (AreWithin entries columns → AreOfKinds kinds entries columns → AllKeep kinds made) → AreWithin index others → AreOfKinds kinds index others → AllKeep kinds made
same_kinds kinds made entries index columns others e f h =
    subst (λ (cs : List (Vec Running)). AreWithin index cs → AreOfKinds kinds index cs → AllKeep kinds made) f
    (λ within asked. h (λ key place is. within key place (sym (e key) ∙ is)) (λ key place t is. asked key place t (sym (e key) ∙ is)))

-- what fits a query's measures has the shape that the query asks for
pub asked_shape : (table : Table) (query : QueryShape) (plan : PlanShape) (m : KeptGroups) → plan ≡ measured (plan_of table.columns query) → FitPlan plan m → HaveShape table query m
asked_shape table query plan m is fits = subst (λ (p : PlanShape). FitPlan p m) is fits
