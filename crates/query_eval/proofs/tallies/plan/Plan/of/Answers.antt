-- The places of GROUP BY, and the set functions of the items and then of HAVING.
use Rattle.std.proofs.Common.{◌≡◌, ℕ, List, ◌++◌, map, sym, ap, ◌∙◌}
use Rattle.std.specs.List.{flat_map}
use Rattle.std.proofs.lemmas.List.{map-append}
use Rattle.table_model.specs.Meaning.{place_of}
use Rattle.table_model.specs.declared.query.ColumnMention.{ColumnMention}
use Rattle.table_model.specs.declared.query.Item.{Item}
use Rattle.query_eval.specs.Aggregate.{aggregate_of, aggregates_of, having_functions, item_functions}
use Rattle.query_eval.specs.Finished.{plan_of}
use Rattle.query_eval.specs.declared.tallies.aggregate.Aggregate.{Aggregate}
use Rattle.query_eval.proofs.tallies.plan.Plan.of.Goals as goal

pub returns : goal.returns
unfolding aggregates_of
returns c =
    let columns = c.args.schema.now.columns in
    let q = c.query.inside in
    let places : List ColumnMention → List ℕ = λ l. map (λ column. place_of columns column.name) l in
    let named : List Item → List Aggregate = λ l. map (aggregate_of columns) (flat_map (λ item. item_functions item.value) l) in
    let grouped : c.add_places.new.out.items ≡ places q.grouping.items =
    c.in_ok-add_places.ensures ∙ ap (λ (l : List ℕ). l ++ places c.as_slice.result.now) c.new-grouping.ensures.items ∙ ap places c.as_slice.ensures.value in
    let selected : c.add_items.new.out.items ≡ named q.items.items =
    c.in_ok-add_items.ensures ∙ ap (λ (l : List Aggregate). l ++ named c.as_slice-2.result.now) c.new-aggregates.ensures.items ∙ ap named c.as_slice-2.ensures.value in
    let all = c.in_ok-add_having.ensures ∙ ap (λ (l : List Aggregate). l ++ map (aggregate_of columns) (having_functions q.having)) selected ∙ sym (map-append (aggregate_of columns) (flat_map (λ item. item_functions item.value) q.items.items) (having_functions q.having)) in
    (λ i. record { grouping = grouped i; aggregates = all i }) ∙ ap (plan_of columns) c.query.view_is
