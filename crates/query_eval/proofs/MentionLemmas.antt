-- Each aggregate that a query asks for is a mention of a set function in it.
use Rattle.std.proofs.Common.{◌≡◌, ℕ, ◌+◌, ◌≤◌, List, [], ◌∷◌, ◌++◌, map, length, sum_by, Option, Some, None, refl, arith}
use Rattle.std.specs.List.{flat_map}
use Rattle.std.proofs.lemmas.List.{length-map}
use Rattle.std.proofs.lemmas.List.Sums.{sum_by-cons, sum_by-append}
use Rattle.table_model.specs.Formula.{Formula, says, in_parentheses, is_truth, negation, no_factor, both, no_term, either}
use Rattle.table_model.specs.Meaning.{grouping_of, place_of}
use Rattle.table_model.specs.Query.{QueryShape}
use Rattle.table_model.specs.Table.{ColumnShape}
use Rattle.table_model.specs.declared.query.ColumnMention.{ColumnMention}
use Rattle.table_model.specs.declared.query.Item.{Item}
use Rattle.table_model.specs.declared.query.ItemValue.{ItemValue}
use Rattle.table_model.specs.declared.query.ItemValue.TheVariants.{Grouped, Computed}
use Rattle.table_model.specs.declared.query.Operand.{Operand}
use Rattle.table_model.specs.declared.query.Operand.TheVariants.{Column, Literal, Function}
use Rattle.table_model.specs.declared.query.Predicate.{Predicate}
use Rattle.table_model.specs.declared.query.Predicate.TheVariants.{Compare, Between, In, IsNull}
use Rattle.table_model.specs.declared.query.SetFunction.{SetFunction}
use Rattle.table_model.specs.declared.query.SetFunction.TheVariants.{CountRows, Of}
use Rattle.query_eval.specs.Aggregate.{aggregate_of, aggregates_of, item_functions, operand_functions, predicate_functions, condition_functions, having_functions, functions_of}
use Rattle.query_eval.specs.Kept.{where_mentions}
use Rattle.query_eval.specs.QueryMentions.{aggregate_mentions, function_mentions, item_mentions, having_operand_mentions, having_predicate_mentions, having_condition_mentions, having_mentions, query_mentions}

-- the mentions in some set functions
abbrev all_mentions : List SetFunction → ℕ
all_mentions fs = sum_by function_mentions fs

alone : (f : SetFunction) → all_mentions (f ∷ []) ≡ function_mentions f
alone f = omega (arith, sum_by-cons function_mentions f [])

in_operand : (o : Operand) → all_mentions (operand_functions o) ≤ having_operand_mentions o
in_operand (Column column) = omega arith
in_operand (Literal n) = omega arith
in_operand (Function f) = omega (arith, alone f)

joined : (fs gs : List SetFunction) → all_mentions (fs ++ gs) ≡ all_mentions fs + all_mentions gs
joined fs gs = sum_by-append function_mentions fs gs

in_predicate : (p : Predicate) → all_mentions (predicate_functions p) ≤ having_predicate_mentions p
in_predicate (Compare left op right) = omega (arith, joined (operand_functions left) (operand_functions right), in_operand left, in_operand right)
in_predicate (Between operand negated low high) =
    omega (arith, joined (operand_functions operand) (operand_functions low ++ operand_functions high), joined (operand_functions low) (operand_functions high), in_operand operand, in_operand low, in_operand high)
in_predicate (In operand negated literals) = in_operand operand
in_predicate (IsNull operand negated) = in_operand operand

in_condition : (f : Formula) → all_mentions (condition_functions f) ≤ having_condition_mentions f
in_condition (says p) = in_predicate p
in_condition (in_parentheses f) = in_condition f
in_condition (is_truth f is) = in_condition f
in_condition (negation f) = in_condition f
in_condition no_factor = omega arith
in_condition (both f g) = omega (arith, joined (condition_functions f) (condition_functions g), in_condition f, in_condition g)
in_condition no_term = omega arith
in_condition (either f g) = omega (arith, joined (condition_functions f) (condition_functions g), in_condition f, in_condition g)

in_having : (o : Option Formula) → all_mentions (having_functions o) ≤ having_mentions o
in_having None = omega arith
in_having (Some f) = in_condition f

in_item : (value : ItemValue) → all_mentions (item_functions value) ≤ item_mentions value
in_item (Grouped column) = omega arith
in_item (Computed f) = omega (arith, alone f)

in_items : (items : List Item) → all_mentions (flat_map (λ item. item_functions item.value) items) ≤ sum_by (λ item. item_mentions item.value) items
in_items [] = omega arith
in_items (item ∷ items) =
    omega (arith, joined (item_functions item.value) (flat_map (λ i. item_functions i.value) items), in_item item.value, in_items items, sum_by-cons (λ (i : Item). item_mentions i.value) item items)

one_aggregate : (columns : List ColumnShape) (f : SetFunction) → aggregate_mentions (aggregate_of columns f) ≡ function_mentions f
one_aggregate columns CountRows = refl
one_aggregate columns (Of fold distinct column) = refl

as_aggregates : (columns : List ColumnShape) (fs : List SetFunction) → sum_by aggregate_mentions (map (aggregate_of columns) fs) ≡ all_mentions fs
as_aggregates columns [] = refl
as_aggregates columns (f ∷ fs) =
    omega (arith, sum_by-cons aggregate_mentions (aggregate_of columns f) (map (aggregate_of columns) fs), sum_by-cons function_mentions f fs, one_aggregate columns f, as_aggregates columns fs)

pub mentions-within : (columns : List ColumnShape) (query : QueryShape) → where_mentions query.filter + (length (grouping_of columns query) + sum_by aggregate_mentions (aggregates_of columns query)) ≤ query_mentions query
unfolding aggregates_of
mentions-within columns query =
    let items : List SetFunction = flat_map (λ (item : Item). item_functions item.value) query.items in
    omega (arith, length-map {B = ℕ} query.grouping (λ (column : ColumnMention). place_of columns column.name), as_aggregates columns (functions_of query), joined items (having_functions query.having), in_items query.items, in_having query.having)
