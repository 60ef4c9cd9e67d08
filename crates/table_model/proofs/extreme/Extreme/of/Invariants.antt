-- The extreme of the first values.
use Rattle.std.proofs.Common.{◌≡◌, take}
use Rattle.table_model.specs.Extreme.{extreme_of}
use Rattle.table_model.proofs.extreme.Extreme.of.Given as goal

abbrev pub invariant-loop-value : goal.invariant-loop-value
invariant-loop-value l = l.furthest ≡ extreme_of l.self (take l.value-index l.values)
