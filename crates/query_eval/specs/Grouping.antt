-- Groups under way: for each list of keys that came, the tallies of the rows that have it.
use Rattle.std.specs.Prelude.{◌≡◌, ℕ, ◌+◌, ◌<◌, ◌≤◌, ◌++◌, Bool, not, cond, List, [], ◌∷◌, map, length, slice_index_or, sum_by, Option, Some, None, ℤ, pos}
use Rattle.std.specs.List.{list_any}
use Rattle.query_eval.specs.Entries.{Entries, place_in}
use Rattle.std.specs.Option.{is_some}
use Rattle.std.specs.Global.{Vec}
use Rattle.table_model.specs.Group.{cell, key_of, rows_with, values_in}
use Rattle.table_model.specs.State.{Cells, same_cells}
use Rattle.query_eval.specs.Finished.{PlanShape}
use Rattle.query_eval.specs.Places.{IsIndex, rows_placed}
use Rattle.query_eval.specs.QueryMentions.{aggregate_mentions}
use Rattle.query_eval.specs.Slices.{rows_shared, rows_sliced, slices_of_spans}
use Rattle.query_eval.specs.Tally.{IsTally, kind_of}
use Rattle.query_eval.specs.TallyKinds.{aggregate_kind, fold_kind}
use Rattle.query_eval.specs.Vector.{Vector, row_at}
use Rattle.transpose_order.specs.Mask.{has}
use Rattle.query_eval.specs.declared.tallies.aggregate.Aggregate.{Aggregate}
use Rattle.query_eval.specs.declared.tallies.aggregate.Aggregate.TheVariants.{Rows, Folded}
use Rattle.query_eval.specs.declared.tallies.groups.Groups.{Groups}
use Rattle.query_eval.specs.declared.grouping.split.Slice.{Slice}
use Rattle.query_eval.specs.declared.grouping.split.Span.{Span}
use Rattle.query_eval.specs.declared.grouping.split.Split.{Split}
use Rattle.query_eval.specs.declared.tallies.tally.Tally.{Tally}
use Rattle.query_eval.specs.declared.tallies.tally.TallyKind.{TallyKind}
use Rattle.query_eval.specs.declared.tallies.tally.TallyKind.TheVariants as kinds
use Rattle.table_model.specs.declared.query.Fold.{Fold}

-- the cell of a row that an aggregate goes over: COUNT(*) counts the rows as if each had a value
abbrev pub aggregate_cell : Cells → Aggregate → Option ℤ
aggregate_cell row Rows = Some (pos 0)
aggregate_cell row (Folded fold distinct place) = cell row place

-- the values of some rows that an aggregate goes over
abbrev pub aggregate_values : Aggregate → List Cells → List ℤ
aggregate_values Rows rows = map (λ _. pos 0) rows
aggregate_values (Folded fold distinct place) rows = values_in place rows

-- a tally is that of an aggregate over some rows
pub record IsHeld (rows : List Cells) (a : Aggregate) (t : Tally) : Type 0 where
  pub values : IsTally (aggregate_values a rows) t
  pub kind : kind_of t ≡ aggregate_kind a

-- the tallies of an aggregate have taken in rows, each those of its place
abbrev pub HaveTaken : Aggregate → (ℕ → List Cells) → List Tally → List Tally → Type 0
HaveTaken a more old new = (place : ℕ) (t : Tally) (rows : List Cells) → place < length old → IsHeld rows a (slice_index_or old place t) → IsHeld (rows ++ more place) a (slice_index_or new place t)

-- the tallies of an aggregate have taken in the rows of slices, each those with its place
abbrev pub HaveSlices : Aggregate → Vector → List Slice → List Tally → List Tally → Type 0
HaveSlices a v slices old new = HaveTaken a (rows_sliced v slices) old new

-- they have taken in the rows of a mask that spans cover
abbrev pub HaveSpans : Aggregate → Vector → List Bool → List Span → List Tally → List Tally → Type 0
HaveSpans a v kept spans old new = HaveSlices a v (slices_of_spans kept spans) old new

-- decoded values are those that an aggregate goes over, but for the nulls
abbrev pub AreCells : Aggregate → Vector → List Bool → List ℤ → Type 0
AreCells a v nulls values = (n : ℕ) → n < 1024 → cond (has nulls n) None (Some (slice_index_or values n (pos 0))) ≡ aggregate_cell (row_at v n) a

-- tallies that keep this have taken in decoded values at the rows of a mask that spans cover, whatever aggregate they are of
abbrev pub TakeSpans : TallyKind → List Bool → List ℤ → List Bool → List Span → List Tally → List Tally → Type 0
TakeSpans kind nulls values kept spans old new = (a : Aggregate) (v : Vector) → aggregate_kind a ≡ kind → AreCells a v nulls values → HaveSpans a v kept spans old new

-- tallies of this kind have taken in decoded values at rows of a vector, each those of its place, whatever aggregate they are of
abbrev pub TakeCells : TallyKind → List Bool → List ℤ → (Vector → ℕ → List Cells) → List Tally → List Tally → Type 0
TakeCells kind nulls values more old new = (a : Aggregate) (v : Vector) → kind ≡ aggregate_kind a → AreCells a v nulls values → HaveTaken a (more v) old new

-- tallies that keep this have taken in the rows of a split, whatever set function of a column they are of
abbrev pub TakeColumn : TallyKind → ℕ → Vector → Split → List Tally → List Tally → Type 0
TakeColumn kind column v split old new = (fold : Fold) (distinct : Bool) → kind ≡ fold_kind distinct fold → HaveTaken (Folded fold distinct column) (rows_shared v split) old new

-- the tallies at a place are those of the aggregates over some rows, one each
pub record AreHeld (rows : List Cells) (aggregates : List Aggregate) (tallies : List (Vec Tally)) (place : ℕ) : Type 0 where
  pub size : length tallies ≡ length aggregates
  pub within : (i : ℕ) (column : Vec Tally) → i < length aggregates → place < length (slice_index_or tallies i column).items
  pub each : (i : ℕ) (a : Aggregate) (column : Vec Tally) (t : Tally) → i < length aggregates → IsHeld rows (slice_index_or aggregates i a) (slice_index_or (slice_index_or tallies i column).items place t)

-- the groups of some rows: each list of keys that occurs has a place with the tallies of its rows, and no other has one
pub record AreGroups (by : List ℕ) (aggregates : List Aggregate) (rows : List Cells) (index : Entries) (tallies : List (Vec Tally)) : Type 0 where
  pub size : length tallies ≡ length aggregates
  pub columns : (i : ℕ) (column : Vec Tally) → i < length aggregates → length (slice_index_or tallies i column).items ≡ length index
  pub held : (key : Cells) (place : ℕ) → place_in index key ≡ Some place → AreHeld (rows_with by rows key) aggregates tallies place
  pub occurs : (key : Cells) → is_some (place_in index key) ≡ list_any (same_cells key) (map (key_of by) rows)

-- a query's groups under way are those of some rows, and their tallies have the rows' values
abbrev pub AreGroupsOf : PlanShape → List Cells → Groups → Type 0
AreGroupsOf plan rows groups = AreGroups plan.grouping plan.aggregates rows groups.places.index.entries groups.tallies.items

-- more rows are taken into groups, whatever rows were before
abbrev pub GroupMore : PlanShape → List Cells → Groups → Groups → Type 0
GroupMore plan more old new = (rows : List Cells) → IsIndex old.places → AreGroupsOf plan rows old → AreGroupsOf plan (rows ++ more) new

-- a number of columns of tallies, each without one
pub record AreEmpty (n : ℕ) (tallies : List (Vec Tally)) : Type 0 where
  pub size : length tallies ≡ n
  pub empty : (i : ℕ) (column : Vec Tally) → i < n → (slice_index_or tallies i column).items ≡ []

-- the tallies of an aggregate have taken in the rows of a split, each the rows with its place
pub record IsTaken (a : Aggregate) (v : Vector) (split : Split) (count : ℕ) (old new : List Tally) : Type 0 where
  pub size : length old ≤ count → length new ≡ count
  pub known : (place : ℕ) (t : Tally) (rows : List Cells) → length old ≤ count → place < length old → IsHeld rows a (slice_index_or old place t) → IsHeld (rows ++ rows_shared v split place) a (slice_index_or new place t)
  pub fresh : (place : ℕ) (t : Tally) → length old ≤ place → place < count → IsHeld (rows_shared v split place) a (slice_index_or new place t)

-- the tallies of some aggregates have taken in the rows of a split, a column of tallies for each
abbrev pub AreAllTaken : List Aggregate → Vector → Split → ℕ → List (Vec Tally) → List (Vec Tally) → Type 0
AreAllTaken aggregates v split count old new = (i : ℕ) (a : Aggregate) (c : Vec Tally) → i < length aggregates → i < length old → IsTaken (slice_index_or aggregates i a) v split count (slice_index_or old i c).items (slice_index_or new i c).items

-- the cell of a row as a list: nothing where it is null
abbrev pub as_list : Option ℤ → List ℤ
as_list None = []
as_list (Some z) = z ∷ []

-- decoded values at some rows are those that an aggregate goes over at the rows of a mask
abbrev pub AreShown : Aggregate → Vector → List Bool → List Bool → List ℤ → Type 0
AreShown a v mask rows values = (n : ℕ) → n < 1024 → cond (has mask n) (aggregate_cell (row_at v n) a) None ≡ cond (has rows n) (Some (slice_index_or values n (pos 0))) None

-- at which rows of a mask an aggregate has a value
abbrev pub AreCounted : Aggregate → Vector → List Bool → List Bool → Type 0
AreCounted a v mask rows = (n : ℕ) → n < 1024 → is_some (cond (has mask n) (aggregate_cell (row_at v n) a) None) ≡ has rows n

-- the tallies of an aggregate have taken in the rows of a mask, each at its place
abbrev pub HavePlaced : Aggregate → Vector → List Bool → List ℕ → List Tally → List Tally → Type 0
HavePlaced a v mask places old new = HaveTaken a (rows_placed 1024 v mask places) old new

-- tallies that count have taken in the rows of a mask where there is a value, whatever aggregate they are of
abbrev pub CountPlaced : List Bool → List ℕ → List Tally → List Tally → Type 0
CountPlaced rows places old new = (a : Aggregate) (v : Vector) (mask : List Bool) → aggregate_kind a ≡ kinds.Count → AreCounted a v mask rows → HavePlaced a v mask places old new

-- sums have taken in decoded values at the rows of a mask, whatever aggregate they are of
abbrev pub SumPlaced : List Bool → List ℤ → List ℕ → List Tally → List Tally → Type 0
SumPlaced rows values places old new = (a : Aggregate) (v : Vector) (mask : List Bool) → aggregate_kind a ≡ kinds.Sum → AreShown a v mask rows values → HavePlaced a v mask places old new

-- an aggregate has a value at each row but for the nulls
abbrev pub AreNulls : Aggregate → Vector → List Bool → Type 0
AreNulls a v nulls = (n : ℕ) → n < 1024 → is_some (aggregate_cell (row_at v n) a) ≡ not (has nulls n)

-- how many columns GROUP BY and the set functions of a query mention
abbrev pub plan_mentions : PlanShape → ℕ
plan_mentions plan = length plan.grouping + sum_by aggregate_mentions plan.aggregates
