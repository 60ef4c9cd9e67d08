-- Groups that are finished with each set function once are seen as those that are finished with each mention.
use Rattle.std.proofs.Common.{◌≡◌, true, Bool, List, map, sym, ◌∙◌, refl}
use Rattle.std.specs.Global.{Vec}
use Rattle.std.specs.List.{flat_map, list_any}
use Rattle.table_model.specs.Meaning.{is_kept}
use Rattle.table_model.specs.Query.{QueryShape}
use Rattle.table_model.specs.State.{Cells}
use Rattle.table_model.specs.Table.{ColumnShape}
use Rattle.table_model.specs.declared.answer.Field.{Field}
use Rattle.table_model.specs.declared.query.ItemValue.{ItemValue}
use Rattle.table_model.specs.declared.query.ItemValue.TheVariants.{Grouped, Computed}
use Rattle.table_model.specs.declared.query.Operand.{Operand}
use Rattle.table_model.specs.declared.query.Operand.TheVariants.{Column, Literal, Function}
use Rattle.query_eval.specs.Aggregate.{aggregate_of, aggregates_of, functions_of, having_functions, item_functions, operand_functions, same_aggregate}
use Rattle.query_eval.specs.Finished.{GroupFields, groups_kept, plan_of, seen_aggregate, seen_item, seen_items, seen_operand}
use Rattle.query_eval.specs.Once.{aggregates_once, functions_once}
use Rattle.query_eval.specs.declared.tallies.aggregate.Aggregate.{Aggregate}
use Rattle.query_eval.proofs.FinishLemmas.{AreNamed, all_named, chosen_alike, field_found, items_alike, kept_alike, parted}
use Rattle.query_eval.proofs.OnceLemmas.{named-once}
use Rattle.partial_answers.specs.Groups.{shown_entry, shown_entries}
use Rattle.partial_answers.specs.Kept.{tallies_in}
use Rattle.partial_answers.specs.PartialAnswer.{field_at}
use Rattle.partial_answers.specs.declared.kept.Kept.{Kept}

module _ (columns : List ColumnShape) (query : QueryShape) (measures : List Aggregate) (e : Cells × Vec Kept) where
  abbrev all : List Aggregate
  all = aggregates_of columns query

  abbrev once : GroupFields
  once = shown_entry measures (aggregates_once all) e

  abbrev each_one : GroupFields
  each_one = shown_entry measures all e

  function_alike : (a : Aggregate) → list_any (same_aggregate a) all ≡ true → seen_aggregate (functions_once (plan_of columns query)) once a ≡ seen_aggregate (plan_of columns query) each_one a
  function_alike a h =
      let value = field_at measures (tallies_in e.1.items) in
      field_found value a (aggregates_once all) (named-once all a h) ∙ sym (field_found value a all h)

  pub operand_once : (o : Operand) → AreNamed columns (plan_of columns query) (operand_functions o) → seen_operand columns (functions_once (plan_of columns query)) once o ≡ seen_operand columns (plan_of columns query) each_one o
  operand_once (Column column) h = refl
  operand_once (Literal n) h = refl
  operand_once (Function f) h = function_alike (aggregate_of columns f) h.0

  pub item_once : (item : ItemValue) → AreNamed columns (plan_of columns query) (item_functions item) → seen_item columns (functions_once (plan_of columns query)) once item ≡ seen_item columns (plan_of columns query) each_one item
  item_once (Grouped column) h = refl
  item_once (Computed f) h = function_alike (aggregate_of columns f) h.0

-- the rows of the groups that HAVING keeps are the same
pub shown_once : (columns : List ColumnShape) (query : QueryShape) (measures : List Aggregate) (es : List (Cells × Vec Kept))
    → (let whole = plan_of columns query in map (seen_items columns (functions_once whole) query.items) (groups_kept columns (functions_once whole) query.having (shown_entries measures (aggregates_once whole.aggregates) es)) ≡ map (seen_items columns whole query.items) (groups_kept columns whole query.having (shown_entries measures whole.aggregates es)))
unfolding aggregates_of
shown_once columns query measures es =
    let whole = plan_of columns query in
    let plan = functions_once whole in
    let named = parted columns whole (flat_map (λ item. item_functions item.value) query.items) (having_functions query.having) (all_named columns whole (functions_of query) (λ a h. h)) in
    let p : GroupFields → Bool = λ group. is_kept query.having (seen_operand columns plan group) in
    let f : GroupFields → List Field = seen_items columns plan query.items in
    let q : GroupFields → Bool = λ group. is_kept query.having (seen_operand columns whole group) in
    let g : GroupFields → List Field = seen_items columns whole query.items in
    let one : Cells × Vec Kept → GroupFields = shown_entry measures (aggregates_once whole.aggregates) in
    let every : Cells × Vec Kept → GroupFields = shown_entry measures whole.aggregates in
    chosen_alike one p f (λ e. q (every e)) (λ e. g (every e))
    (λ e. kept_alike columns whole (seen_operand columns plan (one e)) (seen_operand columns whole (every e)) (operand_once columns query measures e) query.having named.1)
    (λ e. items_alike columns whole (seen_item columns plan (one e)) (seen_item columns whole (every e)) (item_once columns query measures e) query.items named.0) es
    ∙ sym (chosen_alike every q g (λ e. q (every e)) (λ e. g (every e)) (λ e. refl) (λ e. refl) es)
