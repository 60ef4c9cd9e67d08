-- Whether a query's names are those of a table.
use Rattle.std.specs.Prelude.{◌≡◌, ◌≤◌, ℕ, Bool, true, false, not, ◌&&◌, ◌==◌, min, if◌then◌else◌, Option, Some, None, is_none, All, Any, Result, Ok, Err, List, [], ◌∷◌, ◌++◌, fold}
use Rattle.std.specs.List.{list_any}
use Rattle.table_model.specs.Meaning.{column_at}
use Rattle.table_model.specs.Formula.{Formula, says, in_parentheses, is_truth, negation, no_factor, both, no_term, either}
use Rattle.table_model.specs.Identifier.{same_text}
use Rattle.table_model.specs.Query.{QueryShape}
use Rattle.table_model.specs.Table.{Table, ColumnShape}
use Rattle.table_model.specs.declared.query.ColumnMention.{ColumnMention}
use Rattle.table_model.specs.declared.query.Item.{Item}
use Rattle.table_model.specs.declared.query.ItemValue.{ItemValue}
use Rattle.table_model.specs.declared.query.ItemValue.TheVariants.{Grouped, Computed}
use Rattle.table_model.specs.declared.query.Operand.{Operand}
use Rattle.table_model.specs.declared.query.Operand.TheVariants.{Column, Literal, Function}
use Rattle.table_model.specs.declared.query.Predicate.{Predicate}
use Rattle.table_model.specs.declared.query.Predicate.TheVariants.{Compare, Between, In, IsNull}
use Rattle.table_model.specs.declared.query.SetFunction.{SetFunction}
use Rattle.table_model.specs.declared.query.SetFunction.TheVariants.{CountRows, Of}
use Rattle.table_model.specs.declared.refusal.Refusal.{Refusal}
use Rattle.table_model.specs.declared.refusal.Refusal.TheVariants.{NoSuchTable, NoSuchColumn, NotGrouped}

-- a column that a query names, and whether GROUP BY has to name it too
abbrev pub Named : Type 0
Named = ColumnMention × Bool

-- the columns in a set function, which GROUP BY need not name
abbrev pub in_function : SetFunction → List Named
in_function CountRows = []
in_function (Of f distinct column) = (column, false) ∷ []

-- the columns in an operand
abbrev pub in_operand : Bool → Operand → List Named
in_operand bound (Column column) = (column, bound) ∷ []
in_operand bound (Literal z) = []
in_operand bound (Function f) = in_function f

-- the columns in a predicate
abbrev pub in_predicate : Bool → Predicate → List Named
in_predicate bound (Compare left op right) = in_operand bound left ++ in_operand bound right
in_predicate bound (Between operand negated low high) = (in_operand bound operand ++ in_operand bound low) ++ in_operand bound high
in_predicate bound (In operand negated literals) = in_operand bound operand
in_predicate bound (IsNull operand negated) = in_operand bound operand

-- the columns in a condition
abbrev pub in_formula : Bool → Formula → List Named
in_formula bound (says p) = in_predicate bound p
in_formula bound (in_parentheses f) = in_formula bound f
in_formula bound (is_truth f is) = in_formula bound f
in_formula bound (negation f) = in_formula bound f
in_formula bound no_factor = []
in_formula bound (both f g) = in_formula bound f ++ in_formula bound g
in_formula bound no_term = []
in_formula bound (either f g) = in_formula bound f ++ in_formula bound g

-- the columns in a condition that may be absent
abbrev pub in_clause : Bool → Option Formula → List Named
in_clause bound None = []
in_clause bound (Some f) = in_formula bound f

-- the columns in a select item
abbrev pub in_value : ItemValue → List Named
in_value (Grouped column) = (column, true) ∷ []
in_value (Computed f) = in_function f

-- the columns in select items
abbrev pub in_items : List Item → List Named
in_items items = fold (λ named item. named ++ in_value item.value) [] items

-- the columns in GROUP BY
abbrev pub in_grouping : List ColumnMention → List Named
in_grouping columns = fold (λ named column. named ++ (column, false) ∷ []) [] columns

-- all columns that a query names; those of HAVING outside a set function GROUP BY has to name too
abbrev pub in_query : QueryShape → List Named
in_query q = ((in_items q.items ++ in_clause false q.filter) ++ in_grouping q.grouping) ++ in_clause true q.having

-- whether a place is this one
abbrev pub is_at : Option ℕ → ℕ → Bool
is_at None i = false
is_at (Some j) i = j == i

-- whether GROUP BY names the column at this place
abbrev pub is_grouped : List ColumnShape → List ColumnMention → ℕ → Bool
is_grouped columns grouping i = list_any (λ column. is_at (column_at columns column.name) i) grouping

-- the least place so far, and one more
abbrev pub sooner : Option ℕ → ℕ → Option ℕ
sooner None at = Some at
sooner (Some first) at = Some (min first at)

-- the least places of a column that the table does not have, and of one that GROUP BY has to name and doesn't
abbrev pub Places : Type 0
Places = Option ℕ × Option ℕ

-- these places after one more column, which the table has not or has at a place
abbrev pub with_column : (ℕ → Bool) → Places → Named → Option ℕ → Places
with_column grouped found named None = (sooner found.0 named.0.at, found.1)
with_column grouped found named (Some i) = (found.0, if named.1 && not (grouped i) then sooner found.1 named.0.at else found.1)

-- the same, for a table and the columns of GROUP BY
abbrev pub visited : List ColumnShape → List ColumnMention → Places → Named → Places
visited columns grouping found named = with_column (is_grouped columns grouping) found named (column_at columns named.0.name)

-- the least places over several columns
unfoldable pub places : List ColumnShape → List ColumnMention → Places → List Named → Places
places columns grouping found all = fold (visited columns grouping) found all

-- a column that the table does not have comes before one that GROUP BY doesn't name, wherever they are
abbrev pub verdict : Places → Result (Unit {0}) Refusal
verdict (Some at, ungrouped) = Err (NoSuchColumn at)
verdict (None, Some at) = Err (NotGrouped at)
verdict (None, None) = Ok tt

-- the first refusal of a query's names: the table's, then a column's that the table does not have, then one's that GROUP BY doesn't name
abbrev pub resolved : Table → QueryShape → Result (Unit {0}) Refusal
resolved table q =
    if same_text q.table table.name then verdict (places table.columns q.grouping (None, None) (in_query q)) else Err NoSuchTable

-- whether a table has no column of this name
abbrev pub is_missing : List ColumnShape → Named → Bool
is_missing columns named = is_none (column_at columns named.0.name)

-- whether a column that is in a table has to be named by GROUP BY too, and isn't
abbrev pub lacks_group : (ℕ → Bool) → Bool → Option ℕ → Bool
lacks_group grouped bound None = false
lacks_group grouped bound (Some i) = bound && not (grouped i)

-- the same of a column that a query names
abbrev pub is_ungrouped : List ColumnShape → List ColumnMention → Named → Bool
is_ungrouped columns grouping named = lacks_group (is_grouped columns grouping) named.1 (column_at columns named.0.name)

-- the least place of the columns that pass a test, where one does
abbrev pub IsLeastPlace : (Named → Bool) → List Named → Option ℕ → Type 0
IsLeastPlace test all None = All (λ named. test named ≡ false) all
IsLeastPlace test all (Some at) = Any (λ named. (test named ≡ true) × (named.0.at ≡ at)) all × All (λ named. test named ≡ true → at ≤ named.0.at) all

-- What a query's names are to a table: another table is refused first, then the least place of a column that the table does not have,
-- wherever it is, then the least place of one that GROUP BY has to name and doesn't; and nothing else.
abbrev pub IsJudged : Table → QueryShape → Result (Unit {0}) Refusal → Type 0
IsJudged table q (Ok _) =
    (same_text q.table table.name ≡ true) × (IsLeastPlace (is_missing table.columns) (in_query q) None × IsLeastPlace (is_ungrouped table.columns q.grouping) (in_query q) None)
IsJudged table q (Err NoSuchTable) = same_text q.table table.name ≡ false
IsJudged table q (Err (NoSuchColumn at)) = (same_text q.table table.name ≡ true) × IsLeastPlace (is_missing table.columns) (in_query q) (Some at)
IsJudged table q (Err (NotGrouped at)) =
    (same_text q.table table.name ≡ true) × (IsLeastPlace (is_missing table.columns) (in_query q) None × IsLeastPlace (is_ungrouped table.columns q.grouping) (in_query q) (Some at))
IsJudged table q (Err other) = ⊥

-- the first refusal of a condition's names: the least place of a column that the table does not have
abbrev pub resolved_condition : Table → Formula → Result (Unit {0}) Refusal
resolved_condition table f = verdict (places table.columns [] (None, None) (in_formula false f))

-- what a condition's names are to a table: refused is the least place of a column that the table does not have, and nothing else
abbrev pub IsConditionJudged : Table → Formula → Result (Unit {0}) Refusal → Type 0
IsConditionJudged table f (Ok _) = IsLeastPlace (is_missing table.columns) (in_formula false f) None
IsConditionJudged table f (Err (NoSuchColumn at)) = IsLeastPlace (is_missing table.columns) (in_formula false f) (Some at)
IsConditionJudged table f (Err other) = ⊥
