-- The first aggregates have a tally of no rows each.
use Rattle.std.proofs.Common.{◌≡◌, ◌<◌, ℕ, [], length, get_or}
use Rattle.query_eval.specs.Grouping.{IsHeld}
use Rattle.query_eval.specs.declared.tallies.aggregate.Aggregate.{Aggregate}
use Rattle.query_eval.specs.declared.tallies.tally.Tally.{Tally}
use Rattle.query_eval.proofs.tallies.whole_tallies.no_tallies.Given as goal

abbrev pub invariant-loop-aggregate : goal.invariant-loop-aggregate
invariant-loop-aggregate l = record {
  size : length l.tallies.items ≡ l.aggregate-index;
  held : (j : ℕ) (a : Aggregate) (t : Tally) → j < l.aggregate-index → IsHeld [] (get_or l.aggregates j a) (get_or l.tallies.items j t);
}
