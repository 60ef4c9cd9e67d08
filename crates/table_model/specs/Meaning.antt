-- What a query means: its answer over some rows, and at a state.
use Rattle.std.specs.Prelude.{◌≡◌, ℕ, Bool, true, false, cond, ◌==◌, List, [], ◌++◌, map, filter, length, slice_index_or, All, unwrap_or, codes, Option, Some, None, ℤ, pos}
use Rattle.std.specs.List.{list_any, position, position_or_len}
use Rattle.std.specs.List.Sorted.{IsPermutation}
use Rattle.table_model.specs.Answer.{AnswerParts, whole, millionths}
use Rattle.table_model.specs.Condition.{condition_truth}
use Rattle.table_model.specs.Formula.{Formula}
use Rattle.table_model.specs.Group.{Group, AreAscending, cell, values_in, groups_of}
use Rattle.table_model.specs.Identifier.{same_text}
use Rattle.table_model.specs.Query.{QueryShape}
use Rattle.table_model.specs.State.{State, Cells, live_rows}
use Rattle.table_model.specs.Table.{Table, ColumnShape}
use Rattle.table_model.specs.Truth.{is_true}
use Rattle.table_model.specs.Values.{distinct, total_or_null, mean, least, greatest}
use Rattle.table_model.specs.declared.answer.Field.{Field}
use Rattle.table_model.specs.declared.answer.Field.TheVariants.{Null, Whole}
use Rattle.table_model.specs.declared.names.RowName.{RowName}
use Rattle.table_model.specs.declared.query.Fold.{Fold}
use Rattle.table_model.specs.declared.query.Fold.TheVariants.{Count, Sum, Avg, Min, Max}
use Rattle.table_model.specs.declared.query.Item.{Item}
use Rattle.table_model.specs.declared.query.ItemValue.{ItemValue}
use Rattle.table_model.specs.declared.query.ItemValue.TheVariants.{Grouped, Computed}
use Rattle.table_model.specs.declared.query.Operand.{Operand}
use Rattle.table_model.specs.declared.query.Operand.TheVariants.{Column, Literal, Function}
use Rattle.table_model.specs.declared.query.SetFunction.{SetFunction}
use Rattle.table_model.specs.declared.query.SetFunction.TheVariants.{CountRows, Of}

-- the place of the first of the columns with this name, byte for byte, if there is one
abbrev pub column_at : List ColumnShape → List ℕ → Option ℕ
column_at columns name = position (λ column. same_text column.name name) columns

-- a column's place in the schema, from 0 on; for a name that isn't there, of which no resolved query asks, the number of columns
abbrev pub place_of : List ColumnShape → List ℕ → ℕ
place_of columns name = position_or_len (λ column. same_text column.name name) columns

-- a set function of some values
abbrev pub fold_value : Fold → List ℤ → Field
fold_value Count values = Whole (pos (length values))
fold_value Sum values = whole (total_or_null values)
fold_value Avg values = millionths (mean values)
fold_value Min values = whole (least values)
fold_value Max values = whole (greatest values)

-- each value once under DISTINCT, else all
abbrev pub once_if : Bool → List ℤ → List ℤ
once_if true values = distinct values
once_if false values = values

-- a set function of some rows: COUNT(*) counts them, the others go over a column's values without the nulls
abbrev pub function_value : List ColumnShape → SetFunction → List Cells → Field
function_value columns CountRows rows = Whole (pos (length rows))
function_value columns (Of fold distinct column) rows = fold_value fold (once_if distinct (values_in (place_of columns column.name) rows))

-- an operand of WHERE at a row: the row's cell, or the number; a set function isn't there
abbrev pub at_row : List ColumnShape → Cells → Operand → Field
at_row columns row (Column column) = whole (cell row (place_of columns column.name))
at_row columns row (Literal n) = Whole n
at_row columns row (Function f) = Null

-- a grouping column's cell, which all rows of the group have: that of the keys at the first place where GROUP BY names it
abbrev pub group_cell : List ℕ → Group → ℕ → Option ℤ
group_cell by group column = slice_index_or group.key (position_or_len (λ place. place == column) by) None

-- an operand of HAVING at a group: the cell of a grouping column, the number, or the set function of the group's rows
abbrev pub at_group : List ColumnShape → List ℕ → Group → Operand → Field
at_group columns by group (Column column) = whole (group_cell by group (place_of columns column.name))
at_group columns by group (Literal n) = Whole n
at_group columns by group (Function f) = function_value columns f group.rows

-- whether what WHERE or HAVING judges is kept: the condition is true, or there is none
abbrev pub is_kept : Option Formula → (Operand → Field) → Bool
is_kept None value = true
is_kept (Some condition) value = is_true (condition_truth value condition)

-- a select item at a group
abbrev pub item_value : List ColumnShape → List ℕ → Group → ItemValue → Field
item_value columns by group (Grouped column) = whole (group_cell by group (place_of columns column.name))
item_value columns by group (Computed f) = function_value columns f group.rows

-- the places of the columns that GROUP BY names
abbrev pub grouping_of : List ColumnShape → QueryShape → List ℕ
grouping_of columns query = map (λ column. place_of columns column.name) query.grouping

-- the rows at which WHERE is true
unfoldable pub rows_where : List ColumnShape → QueryShape → List Cells → List Cells
rows_where columns query rows = filter (λ row. is_kept query.filter (at_row columns row)) rows

-- the names of a state's rows that aren't deleted and at which a condition is true, in ascending order
unfoldable pub names_where : Table → Formula → State → List RowName
names_where table condition state = map (λ row. row.0) (filter (λ row. is_kept (Some condition) (at_row table.columns row.1)) (live_rows state))

-- the groups of these rows at which HAVING is true
unfoldable pub groups_having : List ColumnShape → QueryShape → List Cells → List Group
groups_having columns query rows =
    filter (λ group. is_kept query.having (at_group columns (grouping_of columns query) group)) (groups_of (grouping_of columns query) (rows_where columns query rows))

-- a set function's keyword
abbrev pub fold_text : Fold → List ℕ
fold_text Count = codes "COUNT"
fold_text Sum = codes "SUM"
fold_text Avg = codes "AVG"
fold_text Min = codes "MIN"
fold_text Max = codes "MAX"

-- a set function's canonical spelling: COUNT(*), SUM(A), COUNT(DISTINCT A)
abbrev pub function_text : SetFunction → List ℕ
function_text CountRows = codes "COUNT(*)"
function_text (Of fold distinct column) = fold_text fold ++ (codes "(" ++ (cond distinct (codes "DISTINCT ") [] ++ (column.name ++ codes ")")))

-- what is written over a column of the answer that has no alias: the column's name, which a query spells as the schema does, or the set function
abbrev pub value_text : ItemValue → List ℕ
value_text (Grouped column) = column.name
value_text (Computed f) = function_text f

-- what is written over a column of the answer: its alias where it has one
abbrev pub item_text : Item → List ℕ
item_text item = unwrap_or item.alias (value_text item.value)

-- the answer of a query over some rows: one row for each group that is kept, in the order of the groups, with a field for each select item
unfoldable pub answer_over : Table → QueryShape → List Cells → AnswerParts
answer_over table query rows = record {
  heading = map item_text query.items;
  rows = map (λ group. map (λ item. item_value table.columns (grouping_of table.columns query) group item.value) query.items) (groups_having table.columns query rows);
}

-- the answer of a query at a state: that over its live rows
unfoldable pub answer_of : Table → QueryShape → State → AnswerParts
answer_of table query state = answer_over table query (map (λ (row : RowName × Cells). row.1) (live_rows state))

-- the answer doesn't depend on the order of the rows, its rows ascend strictly in the keys of their groups, and a group's cell in a grouping column is that of each of its rows
pub record AnswerLaws : Type 0 where
  pub order : (table : Table) (query : QueryShape) (rows others : List Cells) → IsPermutation rows others → answer_over table query rows ≡ answer_over table query others
  pub ascending : (columns : List ColumnShape) (query : QueryShape) (rows : List Cells) → AreAscending (groups_having columns query rows)
  pub cells : (by : List ℕ) (rows : List Cells) (column : ℕ) → list_any (λ place. place == column) by ≡ true → All (λ group. All (λ row. group_cell by group column ≡ cell row column) group.rows) (groups_of by rows)
