-- None of the values so far is in the range.
use Rattle.std.proofs.Common.{◌≡◌, false, take}
use Rattle.std.specs.List.{list_any}
use Rattle.fused_kernels.specs.Seen.{between}
use Rattle.fused_kernels.proofs.runs.is_one_between.Given as goal

abbrev pub invariant-loop-i : goal.invariant-loop-i
invariant-loop-i l = list_any (between l.low l.high) (take l.i l.values.values) ≡ false
