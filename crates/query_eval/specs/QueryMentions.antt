-- How often a whole query mentions columns: as items, operands, arguments of set functions and grouping columns. An alias is no mention.
use Rattle.std.specs.Prelude.{ℕ, ◌+◌, length, sum_by, Option, Some, None}
use Rattle.table_model.specs.Formula.{Formula, says, in_parentheses, is_truth, negation, no_factor, both, no_term, either}
use Rattle.table_model.specs.Query.{QueryShape}
use Rattle.table_model.specs.declared.query.ItemValue.{ItemValue}
use Rattle.table_model.specs.declared.query.ItemValue.TheVariants.{Grouped, Computed}
use Rattle.table_model.specs.declared.query.Operand.{Operand}
use Rattle.table_model.specs.declared.query.Operand.TheVariants.{Column, Literal, Function}
use Rattle.table_model.specs.declared.query.Predicate.{Predicate}
use Rattle.table_model.specs.declared.query.Predicate.TheVariants.{Compare, Between, In, IsNull}
use Rattle.table_model.specs.declared.query.SetFunction.{SetFunction}
use Rattle.table_model.specs.declared.query.SetFunction.TheVariants.{CountRows, Of}
use Rattle.query_eval.specs.Kept.{where_mentions}
use Rattle.query_eval.specs.declared.tallies.aggregate.Aggregate.{Aggregate}
use Rattle.query_eval.specs.declared.tallies.aggregate.Aggregate.TheVariants.{Rows, Folded}

-- an aggregate mentions its column, and COUNT(*) none
abbrev pub aggregate_mentions : Aggregate → ℕ
aggregate_mentions Rows = 0
aggregate_mentions (Folded fold distinct place) = 1

-- a set function mentions its column, and COUNT(*) none
abbrev pub function_mentions : SetFunction → ℕ
function_mentions CountRows = 0
function_mentions (Of fold distinct column) = 1

-- a select item mentions a column, or none
abbrev pub item_mentions : ItemValue → ℕ
item_mentions (Grouped column) = 1
item_mentions (Computed f) = function_mentions f

-- an operand of HAVING mentions a column, or none
abbrev pub having_operand_mentions : Operand → ℕ
having_operand_mentions (Column column) = 1
having_operand_mentions (Literal n) = 0
having_operand_mentions (Function f) = function_mentions f

-- how many columns a predicate of HAVING mentions
abbrev pub having_predicate_mentions : Predicate → ℕ
having_predicate_mentions (Compare left op right) = having_operand_mentions left + having_operand_mentions right
having_predicate_mentions (Between operand negated low high) = having_operand_mentions operand + (having_operand_mentions low + having_operand_mentions high)
having_predicate_mentions (In operand negated literals) = having_operand_mentions operand
having_predicate_mentions (IsNull operand negated) = having_operand_mentions operand

-- how many columns a condition of HAVING mentions
abbrev pub having_condition_mentions : Formula → ℕ
having_condition_mentions (says predicate) = having_predicate_mentions predicate
having_condition_mentions (in_parentheses f) = having_condition_mentions f
having_condition_mentions (is_truth f is) = having_condition_mentions f
having_condition_mentions (negation f) = having_condition_mentions f
having_condition_mentions no_factor = 0
having_condition_mentions (both f g) = having_condition_mentions f + having_condition_mentions g
having_condition_mentions no_term = 0
having_condition_mentions (either f g) = having_condition_mentions f + having_condition_mentions g

-- how many columns HAVING mentions, none where it is absent
abbrev pub having_mentions : Option Formula → ℕ
having_mentions None = 0
having_mentions (Some condition) = having_condition_mentions condition

-- how many columns a query mentions
abbrev pub query_mentions : QueryShape → ℕ
query_mentions query = where_mentions query.filter + (length query.grouping + (sum_by (λ item. item_mentions item.value) query.items + having_mentions query.having))
