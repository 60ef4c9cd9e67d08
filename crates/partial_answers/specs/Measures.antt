-- What is kept once for all set functions that need the same of a column: the measures of a query.
use Rattle.std.specs.Prelude.{true, false, cond, List, [], ◌∷◌, ◌++◌, map as each, fold}
use Rattle.std.specs.List.{list_any}
use Rattle.table_model.specs.declared.query.Fold.TheVariants.{Count, Sum, Avg, Min, Max}
use Rattle.query_eval.specs.Aggregate.{same_aggregate}
use Rattle.query_eval.specs.Finished.{PlanShape}
use Rattle.query_eval.specs.declared.tallies.aggregate.Aggregate.{Aggregate}
use Rattle.query_eval.specs.declared.tallies.aggregate.Aggregate.TheVariants.{Rows, Folded}

-- the set function that keeps what a set function needs: AVG needs what SUM keeps, and under DISTINCT all need the same values
abbrev pub measure_of : Aggregate → Aggregate
measure_of Rows = Rows
measure_of (Folded fold true place) = Folded Count true place
measure_of (Folded Count false place) = Folded Count false place
measure_of (Folded Sum false place) = Folded Sum false place
measure_of (Folded Avg false place) = Folded Sum false place
measure_of (Folded Min false place) = Folded Min false place
measure_of (Folded Max false place) = Folded Max false place

-- one measure more, unless it is there
abbrev pub with_measure : List Aggregate → Aggregate → List Aggregate
with_measure measures m = cond (list_any (same_aggregate m) measures) measures (measures ++ m ∷ [])

-- the measures of some set functions, each once: first COUNT(*), so that each group has its number of rows
unfoldable pub measures_of : List Aggregate → List Aggregate
measures_of aggregates = fold with_measure (Rows ∷ []) (each measure_of aggregates)

-- what a partial answer keeps of the groups of a plan
abbrev pub measured : PlanShape → PlanShape
measured plan = record { grouping = plan.grouping; aggregates = measures_of plan.aggregates }
