-- What set functions keep of a group's values while they are under way.
use Rattle.std.specs.Prelude.{Bool, true, false}
use Rattle.table_model.specs.declared.query.Fold.{Fold}
use Rattle.table_model.specs.declared.query.Fold.TheVariants.{Count, Sum, Avg, Min, Max}
use Rattle.query_eval.specs.declared.tallies.aggregate.Aggregate.{Aggregate}
use Rattle.query_eval.specs.declared.tallies.aggregate.Aggregate.TheVariants.{Rows, Folded}
use Rattle.table_model.specs.declared.extreme.Extreme.TheVariants.{Least, Greatest}
use Rattle.query_eval.specs.declared.tallies.tally.TallyKind.{TallyKind}
use Rattle.query_eval.specs.declared.tallies.tally.TallyKind.TheVariants as kinds

-- what a set function of a column keeps: under DISTINCT each value, else what it is made of
abbrev pub fold_kind : Bool → Fold → TallyKind
fold_kind true fold = kinds.Distinct
fold_kind false Count = kinds.Count
fold_kind false Sum = kinds.Sum
fold_kind false Avg = kinds.Sum
fold_kind false Min = kinds.Extreme Least
fold_kind false Max = kinds.Extreme Greatest

-- what an aggregate keeps: COUNT(*) a number
abbrev pub aggregate_kind : Aggregate → TallyKind
aggregate_kind Rows = kinds.Count
aggregate_kind (Folded fold distinct place) = fold_kind distinct fold
