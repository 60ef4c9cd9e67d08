use Rattle.std.proofs.Common.{◌≡◌, ◌+◌, drop}
use Rattle.column_file.specs.Files.{first_difference}
use Rattle.column_file.proofs.comparing.first_difference.Given as goal

abbrev pub invariant-loop-index : goal.invariant-loop-index
invariant-loop-index l = first_difference l.a l.b ≡ l.index + first_difference (drop l.index l.a) (drop l.index l.b)
