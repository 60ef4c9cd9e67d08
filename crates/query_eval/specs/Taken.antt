-- What a query asks of its rows, taken in so far.
use Rattle.std.specs.Prelude.{◌≡◌, ℕ, ◌+◌, ◌<◌, ◌≤◌, ◌++◌, List, [], Option, length, slice_index_or}
use Rattle.std.specs.Map.{keys_of}
use Rattle.std.specs.Global.{Vec}
use Rattle.table_model.specs.Formula.{Formula}
use Rattle.table_model.specs.State.{Cells}
use Rattle.table_model.specs.Table.{Table}
use Rattle.query_eval.specs.Entries.{Entries}
use Rattle.query_eval.specs.Finished.{GroupFields, PlanShape, finished_by, finished_keys}
use Rattle.query_eval.specs.Grouping.{AreGroups, AreGroupsOf, IsHeld, plan_mentions}
use Rattle.query_eval.specs.Kept.{AreFew, where_mentions}
use Rattle.query_eval.specs.Places.{IsIndex}
use Rattle.query_eval.specs.declared.tallies.aggregate.Aggregate.{Aggregate}
use Rattle.query_eval.specs.declared.tallies.groups.Groups.{Groups}
use Rattle.query_eval.specs.declared.answers.taken_rows.Taken.{Taken}
use Rattle.query_eval.specs.declared.answers.taken_rows.Taken.TheVariants.{Whole, Grouped}
use Rattle.query_eval.specs.declared.tallies.tally.Tally.{Tally}

-- the tallies are those of some aggregates over the same rows, one each
pub record AreTallied (aggregates : List Aggregate) (rows : List Cells) (tallies : List Tally) : Type 0 where
  pub size : length tallies ≡ length aggregates
  pub each : (i : ℕ) (a : Aggregate) (t : Tally) → i < length aggregates → IsHeld rows (slice_index_or aggregates i a) (slice_index_or tallies i t)

-- more rows are taken into the tallies, whatever rows were before
abbrev pub TallyMore : List Aggregate → List Cells → List Tally → List Tally → Type 0
TallyMore aggregates more old new = (rows : List Cells) → AreTallied aggregates rows old → AreTallied aggregates (rows ++ more) new

-- some rows are taken in: without GROUP BY into one tally for each aggregate, else into their groups
abbrev pub AreTaken : PlanShape → List Cells → Taken → Type 0
AreTaken plan rows (Whole tallies) = (plan.grouping ≡ []) × AreTallied plan.aggregates rows tallies.items
AreTaken plan rows (Grouped groups) = (1 ≤ length plan.grouping) × (IsIndex groups.places × AreGroupsOf plan rows groups)

-- more rows are taken in, whatever rows were before
abbrev pub TakesIn : PlanShape → List Cells → Taken → Taken → Type 0
TakesIn plan more old new = (rows : List Cells) → AreTaken plan rows old → AreTaken plan (rows ++ more) new

-- how many columns WHERE, GROUP BY and the set functions of a query mention
abbrev pub all_mentions : Option Formula → PlanShape → ℕ
all_mentions condition plan = where_mentions condition + plan_mentions plan

-- the groups under way of some rows are finished, in the order of their entries, whatever rows they are of
abbrev pub AreFinished : List Aggregate → Entries → List (Vec Tally) → List GroupFields → Type 0
AreFinished aggregates entries tallies finished = (table : Table) (by : List ℕ) (rows : List Cells) → AreFew table rows → AreGroups by aggregates rows entries tallies → finished ≡ finished_keys aggregates by rows (keys_of entries)

-- the groups under way of a query with GROUP BY are finished, whatever rows they are of
abbrev pub AreAllFinished : PlanShape → Groups → List GroupFields → Type 0
AreAllFinished plan groups finished = (table : Table) (rows : List Cells) → 1 ≤ length plan.grouping → AreFew table rows → AreGroupsOf plan rows groups → finished ≡ finished_by plan rows
