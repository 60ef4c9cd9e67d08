-- The evaluator's own tallies as a partial answer has them.
use Rattle.std.specs.Prelude.{◌≡◌, ℕ, ◌≤◌, ◌<◌, List, [], ◌∷◌, map as each, length, slice_index_or, Option, Some, None, pos}
use Rattle.std.specs.FinMap as map
use Rattle.std.specs.Global.{Vec}
use Rattle.std.specs.List.Sorted.{IsStrictlySortedBy}
use Rattle.std.specs.Map.{keys_of}
use Rattle.table_model.specs.Group.{key_cmp}
use Rattle.table_model.specs.State.{Cells}
use Rattle.table_model.specs.Table.{Table}
use Rattle.query_eval.specs.Entries.{Entries, place_in}
use Rattle.query_eval.specs.Finished.{PlanShape}
use Rattle.query_eval.specs.Grouping.{AreGroups, IsHeld}
use Rattle.query_eval.specs.Kept.{AreFew}
use Rattle.query_eval.specs.Taken.{AreTallied}
use Rattle.query_eval.specs.declared.tallies.aggregate.Aggregate.{Aggregate}
use Rattle.table_model.specs.declared.extreme.Extreme.TheVariants.{Least, Greatest}
use Rattle.query_eval.specs.declared.tallies.tally.Tally.{Tally as Running}
use Rattle.query_eval.specs.declared.tallies.tally.Tally.TheVariants as running
use Rattle.partial_answers.specs.PartialAnswer.{Tally, Tallies, set_of, tally_of, tallies_of, partial_answer_over}

-- what the evaluator keeps of a set function, as a partial answer has it
abbrev pub told : Running → Tally
told (running.Count count) = record { count = count; sum = pos 0; lowest = None; highest = None; seen = map.empty }
told (running.Sum sums) = record { count = sums.count; sum = sums.sum; lowest = None; highest = None; seen = map.empty }
told (running.Extreme Least value) = record { count = 0; sum = pos 0; lowest = value; highest = None; seen = map.empty }
told (running.Extreme Greatest value) = record { count = 0; sum = pos 0; lowest = None; highest = value; seen = map.empty }
told (running.Distinct seen) = record { count = 0; sum = pos 0; lowest = None; highest = None; seen = set_of seen.value.values }

-- the tallies at a place, one of each column of tallies
abbrev pub told_at : List (Vec Running) → Running → ℕ → Tallies
told_at columns t place = each (λ (column : Vec Running). told (slice_index_or column.items place t)) columns

-- the tallies of a group that has a place
abbrev pub told_places : List (Vec Running) → Running → Option ℕ → Option Tallies
told_places columns t None = None
told_places columns t (Some place) = Some (told_at columns t place)

-- each place of an index is one of each column of tallies
abbrev pub AreWithin : Entries → List (Vec Running) → Type 0
AreWithin index columns = (key : Cells) (place : ℕ) → place_in index key ≡ Some place → (i : ℕ) (c : Vec Running) → i < length columns → place < length (slice_index_or columns i c).items

-- What the evaluator holds of few rows is what a partial answer has of them: of one set function, of all that a plan asks for, of the one group
-- without GROUP BY, and of all groups, in the order of keys that ascend.
pub record EvaluatedLaws : Type 0 where
  pub tally : (table : Table) (rows : List Cells) (a : Aggregate) (t : Running) → AreFew table rows → IsHeld rows a t → told t ≡ tally_of rows a
  pub tallies : (table : Table) (rows : List Cells) (aggregates : List Aggregate) (ts : List Running) → AreFew table rows → AreTallied aggregates rows ts → each told ts ≡ tallies_of aggregates rows
  pub whole : (table : Table) (plan : PlanShape) (rows : List Cells) (ts : List Running) → plan.grouping ≡ [] → AreFew table rows → AreTallied plan.aggregates rows ts → map.from_sorted (([], each told ts) ∷ []) ≡ partial_answer_over plan rows
  pub grouped : (table : Table) (plan : PlanShape) (rows : List Cells) (entries : Entries) (columns : List (Vec Running)) (t : Running) → 1 ≤ length plan.grouping → AreFew table rows → IsStrictlySortedBy key_cmp (keys_of entries) → AreGroups plan.grouping plan.aggregates rows entries columns
      → map.from_sorted (each (λ (e : Cells × ℕ). (e.0, told_at columns t e.1)) entries) ≡ partial_answer_over plan rows
