-- The groups of the rows, in the order of their keys.
use Rattle.std.proofs.Common.{List, map, sym, ap, subst, ◌∙◌}
use Rattle.std.specs.Global.{Vec}
use Rattle.std.specs.Map.{keys_of}
use Rattle.table_model.specs.Group.{group_at}
use Rattle.query_eval.specs.Finished.{finished_of}
use Rattle.query_eval.specs.Grouping.{AreGroups}
use Rattle.query_eval.specs.declared.tallies.aggregate.Aggregate.{Aggregate}
use Rattle.query_eval.specs.declared.tallies.tally.Tally.{Tally}
use Rattle.query_eval.proofs.OrderLemmas.{groups_alike, groups_in_order}
use Rattle.query_eval.proofs.tallies.grouped_table.grouped_table.Goals as goal

pub returns : goal.returns
returns c = λ table rows grouped few groups.
    let by = c.args.plan.now.grouping in
    let tallies = c.args.groups.tallies.items in
    let entries = c.in_ok-entries.entries.items in
    let named = c.args.plan.now.aggregates in
    let known = groups_alike by named rows c.args.groups.places.index.entries entries tallies c.in_ok-entries.ensures.places c.in_ok-entries.ensures.len groups in
    let shown =
    subst (λ (l : List (Vec Tally)). AreGroups by named rows entries l) (sym c.as_slice.ensures.value) known in
    c.in_ok-finished.ensures table by rows few (subst (λ (these : List Aggregate). AreGroups by these rows entries c.as_slice.result.now) (sym c.aggregates.ensures) shown)
    ∙ ap (λ (these : List Aggregate). map (λ key. finished_of these (group_at by rows key)) (keys_of entries)) c.aggregates.ensures
    ∙ groups_in_order entries named by rows tallies grouped c.in_ok-entries.ensures.ordered known
