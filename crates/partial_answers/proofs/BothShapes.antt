-- Groups of both partial answers have the shape that both have.
use Rattle.std.specs.Prelude.{◌≡◌, [], map as each, Option, Some, None}
use Rattle.std.proofs.Common.{refl, sym, ap, ◌∙◌}
use Rattle.std.specs.BTreeMap.{get}
use Rattle.std.specs.Global.{Vec}
use Rattle.table_model.specs.Group.{key_cmp}
use Rattle.table_model.specs.State.{Cells}
use Rattle.query_eval.specs.Finished.{PlanShape}
use Rattle.partial_answers.specs.Groups.{tallies_at, tallies_of_some}
use Rattle.partial_answers.specs.Kinds.{AllKeep}
use Rattle.partial_answers.specs.Kept.{tallies_in}
use Rattle.partial_answers.specs.PartialAnswer.{Tallies, either, pluses}
use Rattle.partial_answers.specs.Refusing.{KeptGroups}
use Rattle.partial_answers.specs.Shape.{FitPlan, measure_kind}
use Rattle.partial_answers.specs.declared.kept.Kept.{Kept}

gone : (ts : Tallies) → None ≡ Some ts → ⊥
gone ts e = cc

-- what holds where either has a group holds where both have one
by_either : (P : Type 0) (both one other : Option (Vec Kept)) (kept : Vec Kept) → tallies_of_some both ≡ either (tallies_of_some one) (tallies_of_some other) → both ≡ Some kept → ((v : Vec Kept) → one ≡ Some v → P) → ((v : Vec Kept) → other ≡ Some v → P) → P
by_either P both (Some v) other kept is at first second = first v refl
by_either P both None (Some v) kept is at first second = second v refl
by_either P both None None kept is at first second = absurd (gone (tallies_in kept.items) (sym is ∙ ap tallies_of_some at))

-- where both have none the first has none
none_first : (both one other : Option (Vec Kept)) → tallies_of_some both ≡ either (tallies_of_some one) (tallies_of_some other) → both ≡ None → one ≡ None
none_first both None other is at = refl
none_first both (Some v) None is at = absurd (gone (tallies_in v.items) (sym (ap tallies_of_some at) ∙ is))
none_first both (Some v) (Some u) is at = absurd (gone (pluses (tallies_in v.items) (tallies_in u.items)) (sym (ap tallies_of_some at) ∙ is))

pub both_shape : (plan : PlanShape) (both one other : KeptGroups) → FitPlan plan one → FitPlan plan other
    → ((k : Cells) → tallies_at both k ≡ either (tallies_at one k) (tallies_at other k)) → AllKeep (each measure_kind plan.aggregates) both → FitPlan plan both
both_shape plan both one other first second is keep = record {
  groups = λ k kept at. (
    by_either _ (get key_cmp both k) (get key_cmp one k) (get key_cmp other k) kept (is k) at (λ v there. (first.groups k v there).0) (λ v there. (second.groups k v there).0),
    keep k kept at,
  );
  whole = λ none gone. first.whole none (none_first (get key_cmp both []) (get key_cmp one []) (get key_cmp other []) (is []) gone);
}
