-- The lines of the runs before this one are there.
use Rattle.std.proofs.Common.{◌≡◌, ◌++◌, take}
use Rattle.std.specs.List.{flat_map}
use Rattle.partial_commands.specs.Coverage.{run_line}
use Rattle.partial_commands.proofs.run_lists.push_lines.Given as goal

abbrev pub invariant-loop-run : goal.invariant-loop-run
invariant-loop-run l = l.out.items ≡ l.initial.out.items ++ flat_map run_line (take l.run-index l.runs)
