-- Fewer runs have begun than there are shares, and enough batches are left to begin the others.
use Rattle.std.specs.Prelude.{◌+◌, ◌-◌, ◌≤◌, ◌<◌, length}
use Rattle.std.specs.FinMap as map
use Rattle.table_spread.proofs.name_runs.NameRuns.of.Given as goal

abbrev pub invariant-loop-place : goal.invariant-loop-place
invariant-loop-place l =
    (length l.firsts.items < l.shares) × (l.shares ≤ map.len l.store.replica.state.batches → 1 ≤ l.place → l.shares ≤ length l.firsts.items + 1 + (map.len l.store.replica.state.batches - l.place))
