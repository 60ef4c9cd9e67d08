-- Partial answers: of each group what its set functions keep, before HAVING; how partial answers are combined, and how one is finished.
use Rattle.std.specs.Prelude.{ℕ, zero, suc, ◌+◌, List, [], ◌∷◌, ◌++◌, map as each, length, slice_index_or, unwrap_or, Option, Some, None, true, false, ℤ, pos, ◌+ℤ◌, ◌*ℤ◌, int_div}
use Rattle.std.specs.FinMap as map
use Rattle.std.specs.List.{position_or_len}
use Rattle.std.specs.Ordering.{int_cmp}
use Rattle.table_model.specs.Answer.{AnswerParts, whole, millionths}
use Rattle.table_model.specs.Group.{Group, key_cmp, groups_of}
use Rattle.table_model.specs.Meaning.{fold_value, item_text, rows_where}
use Rattle.table_model.specs.Query.{QueryShape}
use Rattle.table_model.specs.State.{State, Cells, live_rows}
use Rattle.table_model.specs.Table.{Table}
use Rattle.table_model.specs.Values.{total, lesser, greater, least, greatest}
use Rattle.table_model.specs.declared.answer.Field.{Field}
use Rattle.table_model.specs.declared.answer.Field.TheVariants.{Whole}
use Rattle.table_model.specs.declared.names.RowName.{RowName}
use Rattle.table_model.specs.declared.query.Fold.TheVariants.{Count, Sum, Avg, Min, Max}
use Rattle.query_eval.specs.Aggregate.{same_aggregate}
use Rattle.query_eval.specs.Finished.{GroupFields, PlanShape, groups_kept, plan_of, seen_items}
use Rattle.query_eval.specs.Grouping.{aggregate_values}
use Rattle.query_eval.specs.TallyKinds.{aggregate_kind}
use Rattle.query_eval.specs.declared.tallies.aggregate.Aggregate.{Aggregate}
use Rattle.query_eval.specs.declared.tallies.aggregate.Aggregate.TheVariants.{Rows, Folded}
use Rattle.table_model.specs.declared.extreme.Extreme.TheVariants.{Least, Greatest}
use Rattle.query_eval.specs.declared.tallies.tally.TallyKind.{TallyKind}
use Rattle.query_eval.specs.declared.tallies.tally.TallyKind.TheVariants as kinds
use Rattle.partial_answers.specs.Measures.{measure_of, measures_of, measured}

-- a set of values, as a map with nothing at each of them
abbrev pub Seen : Type 0
Seen = map.FinMap int_cmp (Unit {0})

-- the set of some values
unfoldable pub set_of : List ℤ → Seen
set_of zs = map.from_entries (each (λ z. (z, tt)) zs)

-- the values of both sets
unfoldable pub union : Seen → Seen → Seen
union s t = map.from_entries (map.entries s ++ map.entries t)

-- what a set function keeps of some values: how many, their sum, the least, the greatest, and under DISTINCT each once; 0, null and none where it doesn't need that
pub record Tally : Type 0 where
  pub count : ℕ
  pub sum : ℤ
  pub lowest : Option ℤ
  pub highest : Option ℤ
  pub seen : Seen

-- what a set function of this kind keeps of these values
abbrev pub kept_of : TallyKind → List ℤ → Tally
kept_of kinds.Count zs = record { count = length zs; sum = pos 0; lowest = None; highest = None; seen = map.empty }
kept_of kinds.Sum zs = record { count = length zs; sum = total zs; lowest = None; highest = None; seen = map.empty }
kept_of (kinds.Extreme Least) zs = record { count = 0; sum = pos 0; lowest = least zs; highest = None; seen = map.empty }
kept_of (kinds.Extreme Greatest) zs = record { count = 0; sum = pos 0; lowest = None; highest = greatest zs; seen = map.empty }
kept_of kinds.Distinct zs = record { count = 0; sum = pos 0; lowest = None; highest = None; seen = set_of zs }

-- what a set function, or a measure, keeps of some rows
abbrev pub tally_of : List Cells → Aggregate → Tally
tally_of rows a = kept_of (aggregate_kind a) (aggregate_values a rows)

-- what is kept of two lists of values, from what is kept of each
abbrev pub plus : Tally → Tally → Tally
plus s t = record { count = s.count + t.count; sum = s.sum +ℤ t.sum; lowest = lesser s.lowest t.lowest; highest = greater s.highest t.highest; seen = union s.seen t.seen }

-- null of no values, else the number
abbrev pub unless_none : ℕ → ℤ → Option ℤ
unless_none zero n = None
unless_none (suc k) n = Some n

-- SUM of what is kept: null of no values
abbrev pub sum_kept : Tally → Field
sum_kept t = whole (unless_none t.count t.sum)

-- AVG of what is kept, in millionths: here it is divided, and nowhere before
abbrev pub mean_kept : Tally → Field
mean_kept t = millionths (unless_none t.count (int_div (t.sum *ℤ pos 1000000) (pos t.count)))

-- a set function's value, from what its measure keeps
abbrev pub field_of : Aggregate → Tally → Field
field_of Rows t = Whole (pos t.count)
field_of (Folded fold true place) t = fold_value fold (map.keys t.seen)
field_of (Folded Count false place) t = Whole (pos t.count)
field_of (Folded Sum false place) t = sum_kept t
field_of (Folded Avg false place) t = mean_kept t
field_of (Folded Min false place) t = whole t.lowest
field_of (Folded Max false place) t = whole t.highest

-- what is kept of a group: a tally for each set function that the query names
abbrev pub Tallies : Type 0
Tallies = List Tally

-- the tally of each aggregate over some rows
abbrev pub tallies_of : List Aggregate → List Cells → Tallies
tallies_of aggregates rows = each (tally_of rows) aggregates

-- tallies added, one by one
abbrev pub pluses : Tallies → Tallies → Tallies
pluses [] ts = []
pluses (s ∷ ss) [] = []
pluses (s ∷ ss) (t ∷ ts) = plus s t ∷ pluses ss ts

-- what is kept of no values
abbrev pub no_tally : Tally
no_tally = record { count = 0; sum = pos 0; lowest = None; highest = None; seen = map.empty }

-- a set function's value, from what is kept for some measures: that of its own measure
abbrev pub field_at : List Aggregate → Tallies → Aggregate → Field
field_at measures ts a = field_of a (slice_index_or ts (position_or_len (same_aggregate (measure_of a)) measures) no_tally)

-- the values of some set functions, from what is kept for their measures
abbrev pub fields_from : List Aggregate → Tallies → List Field
fields_from aggregates ts = each (field_at (measures_of aggregates) ts) aggregates

-- a partial answer: for each list of keys what is kept of its group, a tally for each measure
abbrev pub PartialAnswer : Type 0
PartialAnswer = map.FinMap key_cmp Tallies

-- a group as an entry: its keys, and a tally for each aggregate
abbrev pub entry_of : List Aggregate → Group → Cells × Tallies
entry_of aggregates group = (group.key, tallies_of aggregates group.rows)

-- the partial answer of some rows; without GROUP BY it has one group, also of no rows
unfoldable pub partial_answer_over : PlanShape → List Cells → PartialAnswer
partial_answer_over plan rows = map.from_sorted (each (entry_of plan.aggregates) (groups_of plan.grouping rows))

-- the partial answer that a state gives to a query's answer
unfoldable pub partial_answer_of : Table → QueryShape → State → PartialAnswer
partial_answer_of table query state = partial_answer_over (measured (plan_of table.columns query)) (rows_where table.columns query (each (λ (row : RowName × Cells). row.1) (live_rows state)))

-- what is kept of a group that either partial answer may have
abbrev pub either : Option Tallies → Option Tallies → Option Tallies
either None t = t
either (Some s) None = Some s
either (Some s) (Some t) = Some (pluses s t)

-- two partial answers combined: the groups of both, those of the same keys as one
unfoldable pub combine : PartialAnswer → PartialAnswer → PartialAnswer
combine p q = map.from_entries (each (λ key. (key, unwrap_or (either (map.get p key) (map.get q key)) [])) (map.keys p ++ map.keys q))

-- a group when it is finished
abbrev pub shown : List Aggregate → Cells × Tallies → GroupFields
shown aggregates e = record { key = e.0; fields = fields_from aggregates e.1 }

-- the answer of a partial answer: the set functions' values, and then HAVING and the select list
unfoldable pub finish : Table → QueryShape → PartialAnswer → AnswerParts
finish table query partial = let plan = plan_of table.columns query in record {
  heading = each item_text query.items;
  rows = each (seen_items table.columns plan query.items) (groups_kept table.columns plan query.having (each (shown plan.aggregates) (map.entries partial)));
}

-- a group more is taken into a partial answer, as a loop over another partial answer's groups does
abbrev pub taken_in : PartialAnswer → Cells × Tallies → PartialAnswer
taken_in p e = map.insert p e.0 (unwrap_or (either (map.get p e.0) (Some e.1)) [])
