-- What is evaluated once for all its mentions: each grouping column and each set function of a query, where it stands first.
use Rattle.std.specs.Prelude.{ℕ, ◌==◌, ◌+◌, cond, List, [], ◌∷◌, ◌++◌, fold}
use Rattle.std.specs.List.{list_any}
use Rattle.table_model.specs.Meaning.{rows_where}
use Rattle.table_model.specs.Query.{QueryShape}
use Rattle.table_model.specs.State.{Cells}
use Rattle.table_model.specs.Table.{ColumnShape, Table}
use Rattle.query_eval.specs.Aggregate.{same_aggregate}
use Rattle.query_eval.specs.Finished.{GroupFields, PlanShape, finished_by, plan_of}
use Rattle.query_eval.specs.Grouping.{plan_mentions}
use Rattle.query_eval.specs.Kept.{where_mentions}
use Rattle.query_eval.specs.declared.tallies.aggregate.Aggregate.{Aggregate}

-- one place more, unless it is there
abbrev pub with_place : List ℕ → ℕ → List ℕ
with_place places p = cond (list_any (λ other. other == p) places) places (places ++ p ∷ [])

-- some places, each once
unfoldable pub places_once : List ℕ → List ℕ
places_once places = fold with_place [] places

-- one aggregate more, unless it is there
abbrev pub with_aggregate : List Aggregate → Aggregate → List Aggregate
with_aggregate aggregates a = cond (list_any (same_aggregate a) aggregates) aggregates (aggregates ++ a ∷ [])

-- some aggregates, each once
unfoldable pub aggregates_once : List Aggregate → List Aggregate
aggregates_once aggregates = fold with_aggregate [] aggregates

-- what a finished group is asked by, with each grouping column and each aggregate once
abbrev pub once_plan : PlanShape → PlanShape
once_plan plan = record { grouping = places_once plan.grouping; aggregates = aggregates_once plan.aggregates }

-- what a finished group is asked by, with each aggregate once
abbrev pub functions_once : PlanShape → PlanShape
functions_once plan = record { grouping = plan.grouping; aggregates = aggregates_once plan.aggregates }

-- what a query asks of its groups, each once
abbrev pub asked_once : List ColumnShape → QueryShape → PlanShape
asked_once columns query = once_plan (plan_of columns query)

-- how often a query looks at a column in a vector: for each mention in WHERE, and once for each different grouping column and each different set function of a column
abbrev pub once_mentions : List ColumnShape → QueryShape → ℕ
once_mentions columns query = where_mentions query.filter + plan_mentions (asked_once columns query)

-- a query's groups over some rows, of which WHERE keeps those at which it is true, when they are finished
abbrev pub groups_over : Table → QueryShape → List Cells → List GroupFields
groups_over table query rows = finished_by (asked_once table.columns query) (rows_where table.columns query rows)
