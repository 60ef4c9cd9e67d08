-- The shape of the groups that a query asks for, and why a partial answer is not finished.
use Rattle.std.specs.Prelude.{◌≡◌, ◌≤◌, ◌*◌, ◌^◌, ℕ, List, [], length, slice_get, map as each, Some, None, Ok, Err}
use Rattle.std.specs.BTreeMap.{get}
use Rattle.std.specs.Global.{Vec}
use Rattle.std.specs.String.{string_bytes}
use Rattle.table_model.specs.Group.{key_cmp, IsWithin, state_row_limit}
use Rattle.table_model.specs.Query.{QueryShape}
use Rattle.table_model.specs.Reading.{◌>>=◌}
use Rattle.table_model.specs.State.{Cells}
use Rattle.table_model.specs.Table.{Table}
use Rattle.table_model.specs.declared.refusal.Refusal.{Refusal}
use Rattle.query_parser.specs.Descent.{query_of}
use Rattle.query_parser.specs.Resolve.{resolved}
use Rattle.query_eval.specs.Finished.{PlanShape, plan_of}
use Rattle.query_eval.specs.TallyKinds.{aggregate_kind}
use Rattle.query_eval.specs.declared.tallies.aggregate.Aggregate.{Aggregate}
use Rattle.query_eval.specs.declared.tallies.tally.TallyKind.{TallyKind}
use Rattle.query_eval.specs.declared.tallies.tally.TallyKind.TheVariants as kinds
use Rattle.table_model.specs.declared.extreme.Extreme.TheVariants.{Least as ALeast, Greatest as AGreatest}
use Rattle.partial_answers.specs.Measures.{measured}
use Rattle.partial_answers.specs.Refusing.{KeptGroups, RefusesBy, kept_kind}
use Rattle.partial_answers.specs.declared.fault.PartialAnswerFault.{PartialAnswerFault}
use Rattle.partial_answers.specs.declared.kept.Kept.{Kept}
use Rattle.partial_answers.specs.declared.kept.Kept.TheVariants.{Count, Sum, Least, Greatest, Distinct}
use Rattle.partial_answers.specs.declared.partial_answer.PartialAnswer.{PartialAnswer as CodePartialAnswer}

-- what a set function of a kind keeps, as a number
abbrev pub kind_number : TallyKind → ℕ
kind_number kinds.Count = 0
kind_number kinds.Sum = 1
kind_number (kinds.Extreme ALeast) = 2
kind_number (kinds.Extreme AGreatest) = 3
kind_number kinds.Distinct = 4

-- what a measure keeps, as a number
abbrev pub measure_kind : Aggregate → ℕ
measure_kind a = kind_number (aggregate_kind a)

-- a group has a cell for each of some columns, and keeps what some measures keep
abbrev pub IsOfShape : ℕ → List Aggregate → Cells → List Kept → Type 0
IsOfShape columns measures key kept = (length key ≡ columns) × (each kept_kind kept ≡ each measure_kind measures)

-- all groups have this shape
abbrev pub AreOfShape : ℕ → List Aggregate → KeptGroups → Type 0
AreOfShape columns measures m = (k : Cells) (kept : Vec Kept) → get key_cmp m k ≡ Some kept → IsOfShape columns measures k kept.items

-- Groups fit a plan: each has a cell for each grouping column, and keeps what the plan's set functions keep; without grouping columns
-- there is a group.
pub record FitPlan (plan : PlanShape) (m : KeptGroups) : Type 0 where
  pub groups : AreOfShape (length plan.grouping) plan.aggregates m
  pub whole : plan.grouping ≡ [] → get key_cmp m [] ≡ None → ⊥

-- groups have the shape that a query asks for: they fit the plan of the query's columns of GROUP BY and its measures
abbrev pub HaveShape : Table → QueryShape → KeptGroups → Type 0
HaveShape table query m = FitPlan (measured (plan_of table.columns query)) m

-- the groups of a partial answer have the shape that its query asks for
abbrev pub IsShaped : CodePartialAnswer → Type 0
IsShaped p = (query : QueryShape) → query_of (string_bytes p.text) ≡ Ok query → HaveShape p.schema query p.groups

-- what is kept can be finished: a sum is within what as many values of 64 bits come to, and there are at most as many distinct values as a state may have rows
abbrev pub CanFinish : Kept → Type 0
CanFinish (Count n) = Unit {0}
CanFinish (Sum sums) = IsWithin (sums.count * 2 ^ 63) sums.sum
CanFinish (Least o) = Unit {0}
CanFinish (Greatest o) = Unit {0}
CanFinish (Distinct values) = length values ≤ state_row_limit

-- what is kept of a group can be finished
abbrev pub EachCanFinish : List Kept → Type 0
EachCanFinish kept = (i : ℕ) (one : Kept) → slice_get kept i ≡ Some one → CanFinish one

-- what is kept of each group can be finished
abbrev pub AllCanFinish : KeptGroups → Type 0
AllCanFinish m = (k : Cells) (kept : Vec Kept) → get key_cmp m k ≡ Some kept → EachCanFinish kept.items

-- a text is a query whose names are those of a table
abbrev pub IsQueryOf : Table → List ℕ → Type 0
IsQueryOf table text = (query_of text >>= λ query. resolved table query) ≡ Ok tt

-- a text is no query of a table, and this is what it is refused as
abbrev pub IsNoQueryOf : Table → List ℕ → Refusal → Type 0
IsNoQueryOf table text refusal = (query_of text >>= λ query. resolved table query) ≡ Err refusal

-- why a text is no query of a table
abbrev pub RefusesText : Table → List ℕ → PartialAnswerFault → Type 0
RefusesText table text fault = RefusesBy (IsNoQueryOf table text) (Unit {0}) (Unit {0}) fault

-- Why a partial answer is not finished: its text is no query of its table; its groups don't have the shape that the query asks for; a sum or a
-- set of distinct values is too large.
abbrev pub RefusesFinishing : PartialAnswerFault → CodePartialAnswer → Type 0
RefusesFinishing fault p = RefusesBy (IsNoQueryOf p.schema (string_bytes p.text)) (IsShaped p) (AllCanFinish p.groups) fault
