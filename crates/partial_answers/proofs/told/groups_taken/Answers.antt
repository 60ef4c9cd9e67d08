-- Of a query without GROUP BY and of one with it.
use Rattle.std.proofs.Common.{[], List, map, cond, Some, None, ap, subst, ◌∙◌}
use Rattle.std.specs.Ordering.{eq_by_cmp}
use Rattle.table_model.specs.Group.{key_cmp}
use Rattle.query_eval.specs.Taken.{AreTaken}
use Rattle.query_eval.specs.declared.answers.taken_rows.Taken.{Taken}
use Rattle.query_eval.specs.declared.tallies.tally.Tally.{Tally as Running}
use Rattle.query_eval.specs.declared.tallies.tally.Tally.TheVariants as running
use Rattle.partial_answers.specs.Evaluated.{told}
use Rattle.partial_answers.specs.Kinds.{AllKeep, running_kind}
use Rattle.partial_answers.specs.Shape.{measure_kind}
use Rattle.partial_answers.proofs.GroupShapes.{whole_shape, groups_shape, groups_of_kinds}
use Rattle.partial_answers.proofs.TakenPartialAnswers.{whole_told, groups_told, within_told}
use Rattle.partial_answers.proofs.told.groups_taken.Goals as goal

pub returns-in_ok-made-in-Whole-clause-value : goal.returns-in_ok-made-in-Whole-clause-value
returns-in_ok-made-in-Whole-clause-value c = λ table plan rows few taken.
    let h = subst (λ (t : Taken). AreTaken plan rows t) c.in-Whole.is taken in
    whole_told table plan rows _ c.in-Whole.tallies.items h.0 few h.1
    (λ k. c.in_ok-made-in-Whole.ensures.value k ∙ ap (λ (ts : List Running). cond (eq_by_cmp key_cmp [] k) (Some (map told ts)) None) c.as_slice.ensures.value)

pub returns-in_ok-made-in-Grouped-clause-value : goal.returns-in_ok-made-in-Grouped-clause-value
returns-in_ok-made-in-Grouped-clause-value c = λ table plan rows few taken.
    let h = subst (λ (t : Taken). AreTaken plan rows t) c.in-Grouped.is taken in
    let t : Running = running.Count 0 in
    groups_told table plan rows _ c.in-Grouped.groups t h.0 few h.1.1 (c.in_ok-made-in-Grouped.ensures.value t (within_told plan rows c.in-Grouped.groups h.1.1))

pub returns-in_ok-made-in-Whole-clause-shape : goal.returns-in_ok-made-in-Whole-clause-shape
returns-in_ok-made-in-Whole-clause-shape c = λ plan rows taken.
    let h = subst (λ (t : Taken). AreTaken plan rows t) c.in-Whole.is taken in
    whole_shape plan rows _ c.in-Whole.tallies.items h.0 h.1
    (λ k. c.in_ok-made-in-Whole.ensures.value k ∙ ap (λ (ts : List Running). cond (eq_by_cmp key_cmp [] k) (Some (map told ts)) None) c.as_slice.ensures.value)
    (subst (λ (ts : List Running). AllKeep (map running_kind ts) c.in_ok-made-in-Whole.made) c.as_slice.ensures.value c.in_ok-made-in-Whole.ensures.kinds)

pub returns-in_ok-made-in-Grouped-clause-shape : goal.returns-in_ok-made-in-Grouped-clause-shape
returns-in_ok-made-in-Grouped-clause-shape c = λ plan rows taken.
    let h = subst (λ (t : Taken). AreTaken plan rows t) c.in-Grouped.is taken in
    let t : Running = running.Count 0 in
    let within = within_told plan rows c.in-Grouped.groups h.1.1 in
    groups_shape plan rows _ c.in-Grouped.groups t h.0 h.1.1 (c.in_ok-made-in-Grouped.ensures.value t within)
    (c.in_ok-made-in-Grouped.ensures.kinds (map measure_kind plan.aggregates) within (groups_of_kinds plan rows c.in-Grouped.groups h.1.1))
