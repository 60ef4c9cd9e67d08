-- Set functions by the places of their columns, and which of them a query names.
use Rattle.std.specs.Prelude.{◌==◌, Bool, true, false, ◌&&◌, List, [], ◌∷◌, ◌++◌, map, length, Option, Some, None, pos}
use Rattle.std.specs.Bool.{beq}
use Rattle.std.specs.List.{flat_map}
use Rattle.table_model.specs.QueryCode.{fold_number}
use Rattle.table_model.specs.Formula.{Formula, says, in_parentheses, is_truth, negation, no_factor, both, no_term, either}
use Rattle.table_model.specs.Group.{values_in}
use Rattle.table_model.specs.Meaning.{place_of, fold_value, once_if}
use Rattle.table_model.specs.Query.{QueryShape}
use Rattle.table_model.specs.State.{Cells}
use Rattle.table_model.specs.Table.{ColumnShape}
use Rattle.table_model.specs.declared.answer.Field.{Field}
use Rattle.table_model.specs.declared.answer.Field.TheVariants.{Whole}
use Rattle.table_model.specs.declared.query.ItemValue.{ItemValue}
use Rattle.table_model.specs.declared.query.ItemValue.TheVariants.{Grouped, Computed}
use Rattle.table_model.specs.declared.query.Operand.{Operand}
use Rattle.table_model.specs.declared.query.Operand.TheVariants.{Column, Literal, Function}
use Rattle.table_model.specs.declared.query.Predicate.{Predicate}
use Rattle.table_model.specs.declared.query.Predicate.TheVariants.{Compare, Between, In, IsNull}
use Rattle.table_model.specs.declared.query.SetFunction.{SetFunction}
use Rattle.table_model.specs.declared.query.SetFunction.TheVariants.{CountRows, Of}
use Rattle.query_eval.specs.declared.tallies.aggregate.Aggregate.{Aggregate}
use Rattle.query_eval.specs.declared.tallies.aggregate.Aggregate.TheVariants.{Rows, Folded}

-- a set function with its column by its place
abbrev pub aggregate_of : List ColumnShape → SetFunction → Aggregate
aggregate_of columns CountRows = Rows
aggregate_of columns (Of fold distinct column) = Folded fold distinct (place_of columns column.name)

-- an aggregate of some rows
abbrev pub aggregate_value : Aggregate → List Cells → Field
aggregate_value Rows rows = Whole (pos (length rows))
aggregate_value (Folded fold distinct place) rows = fold_value fold (once_if distinct (values_in place rows))

-- whether two aggregates are the same set function of the same column
abbrev pub same_aggregate : Aggregate → Aggregate → Bool
same_aggregate Rows Rows = true
same_aggregate Rows (Folded fold distinct place) = false
same_aggregate (Folded fold distinct place) Rows = false
same_aggregate (Folded f d p) (Folded g e q) = (fold_number f == fold_number g) && (beq d e && (p == q))

-- the set function that a select item names, if it does
abbrev pub item_functions : ItemValue → List SetFunction
item_functions (Grouped column) = []
item_functions (Computed f) = f ∷ []

-- the set function that an operand names, if it does
abbrev pub operand_functions : Operand → List SetFunction
operand_functions (Column column) = []
operand_functions (Literal n) = []
operand_functions (Function f) = f ∷ []

-- the set functions that a predicate names, from the left
abbrev pub predicate_functions : Predicate → List SetFunction
predicate_functions (Compare left op right) = operand_functions left ++ operand_functions right
predicate_functions (Between operand negated low high) = operand_functions operand ++ (operand_functions low ++ operand_functions high)
predicate_functions (In operand negated literals) = operand_functions operand
predicate_functions (IsNull operand negated) = operand_functions operand

-- the set functions that a condition names, from the left
abbrev pub condition_functions : Formula → List SetFunction
condition_functions (says predicate) = predicate_functions predicate
condition_functions (in_parentheses f) = condition_functions f
condition_functions (is_truth f is) = condition_functions f
condition_functions (negation f) = condition_functions f
condition_functions no_factor = []
condition_functions (both f g) = condition_functions f ++ condition_functions g
condition_functions no_term = []
condition_functions (either f g) = condition_functions f ++ condition_functions g

-- the set functions that HAVING names, from the left
abbrev pub having_functions : Option Formula → List SetFunction
having_functions None = []
having_functions (Some condition) = condition_functions condition

-- the set functions that a query names, a mention each: those of the select list, and then those of HAVING
abbrev pub functions_of : QueryShape → List SetFunction
functions_of query = flat_map (λ item. item_functions item.value) query.items ++ having_functions query.having

-- the aggregates that a query asks for, one for each mention of a set function
unfoldable pub aggregates_of : List ColumnShape → QueryShape → List Aggregate
aggregates_of columns query = map (aggregate_of columns) (functions_of query)
