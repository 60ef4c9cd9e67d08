-- The runs that were passed, and that of the name among the rest, are that of the name.
use Rattle.std.specs.Prelude.{◌≡◌, ◌+◌, drop}
use Rattle.table_spread.specs.Spread.{run_of}
use Rattle.table_spread.proofs.name_runs.NameRuns.run_of.Given as goal

abbrev pub invariant-loop-index : goal.invariant-loop-index
invariant-loop-index l = l.index + run_of (drop l.index l.self) l.fn.name ≡ run_of l.self l.fn.name
