-- Groups as HAVING and the select list see them: their keys, and the values of their set functions.
use Rattle.std.specs.Prelude.{ℕ, ◌==◌, List, map, filter, slice_index_or, Option, None}
use Rattle.std.specs.List.{position_or_len}
use Rattle.table_model.specs.Answer.{whole}
use Rattle.table_model.specs.Group.{Group, group_at, groups_of}
use Rattle.table_model.specs.Formula.{Formula}
use Rattle.table_model.specs.Meaning.{place_of, grouping_of, is_kept}
use Rattle.table_model.specs.Query.{QueryShape}
use Rattle.table_model.specs.State.{Cells}
use Rattle.table_model.specs.Table.{ColumnShape}
use Rattle.table_model.specs.declared.answer.Field.{Field}
use Rattle.table_model.specs.declared.answer.Field.TheVariants.{Null, Whole}
use Rattle.table_model.specs.declared.query.Item.{Item}
use Rattle.table_model.specs.declared.query.ItemValue.{ItemValue}
use Rattle.table_model.specs.declared.query.ItemValue.TheVariants.{Grouped, Computed}
use Rattle.table_model.specs.declared.query.Operand.{Operand}
use Rattle.table_model.specs.declared.query.Operand.TheVariants.{Column, Literal, Function}
use Rattle.query_eval.specs.Aggregate.{aggregate_of, aggregate_value, aggregates_of, same_aggregate}
use Rattle.query_eval.specs.declared.tallies.aggregate.Aggregate.{Aggregate}

-- a finished group: its cells in the grouping columns, and a field for each of some aggregates
pub record GroupFields : Type 0 where
  pub key : Cells
  pub fields : List Field

-- the fields of some aggregates over some rows
abbrev pub fields_of : List Aggregate → List Cells → List Field
fields_of aggregates rows = map (λ a. aggregate_value a rows) aggregates

-- a group when it is finished
abbrev pub finished_of : List Aggregate → Group → GroupFields
finished_of aggregates group = record { key = group.key; fields = fields_of aggregates group.rows }

-- the groups of some rows when they are finished, in ascending order of their keys
unfoldable pub finished_groups : List Aggregate → List ℕ → List Cells → List GroupFields
finished_groups aggregates by rows = map (finished_of aggregates) (groups_of by rows)

-- the groups with some keys when they are finished
abbrev pub finished_keys : List Aggregate → List ℕ → List Cells → List Cells → List GroupFields
finished_keys aggregates by rows keys = map (λ key. finished_of aggregates (group_at by rows key)) keys

-- what a finished group is asked by: the places of the grouping columns, and the aggregates that it has fields for
pub record PlanShape : Type 0 where
  pub grouping : List ℕ
  pub aggregates : List Aggregate

-- a grouping column's cell in a finished group: that of the keys at the first place where GROUP BY names it
abbrev pub seen_cell : PlanShape → GroupFields → ℕ → Field
seen_cell plan group column = whole (slice_index_or group.key (position_or_len (λ place. place == column) plan.grouping) None)

-- an aggregate's field in a finished group: that at the first place where it was asked for
abbrev pub seen_aggregate : PlanShape → GroupFields → Aggregate → Field
seen_aggregate plan group a = slice_index_or group.fields (position_or_len (same_aggregate a) plan.aggregates) Null

-- an operand of HAVING at a finished group
abbrev pub seen_operand : List ColumnShape → PlanShape → GroupFields → Operand → Field
seen_operand columns plan group (Column column) = seen_cell plan group (place_of columns column.name)
seen_operand columns plan group (Literal n) = Whole n
seen_operand columns plan group (Function f) = seen_aggregate plan group (aggregate_of columns f)

-- a select item at a finished group
abbrev pub seen_item : List ColumnShape → PlanShape → GroupFields → ItemValue → Field
seen_item columns plan group (Grouped column) = seen_cell plan group (place_of columns column.name)
seen_item columns plan group (Computed f) = seen_aggregate plan group (aggregate_of columns f)

-- a query's groups over some rows when they are finished
abbrev pub finished_by : PlanShape → List Cells → List GroupFields
finished_by plan rows = finished_groups plan.aggregates plan.grouping rows

-- the select items at a finished group
abbrev pub seen_items : List ColumnShape → PlanShape → List Item → GroupFields → List Field
seen_items columns plan items group = map (λ item. seen_item columns plan group item.value) items

-- the finished groups that HAVING keeps
abbrev pub groups_kept : List ColumnShape → PlanShape → Option Formula → List GroupFields → List GroupFields
groups_kept columns plan having groups = filter (λ group. is_kept having (seen_operand columns plan group)) groups

-- what a query asks of its groups
abbrev pub plan_of : List ColumnShape → QueryShape → PlanShape
plan_of columns query = record { grouping = grouping_of columns query; aggregates = aggregates_of columns query }
