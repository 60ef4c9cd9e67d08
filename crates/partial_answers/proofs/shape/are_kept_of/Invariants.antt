use Rattle.std.proofs.Common.{◌≡◌, map, take}
use Rattle.partial_answers.specs.Refusing.{kept_kind}
use Rattle.partial_answers.specs.Shape.{measure_kind}
use Rattle.partial_answers.proofs.shape.are_kept_of.Given as goal

abbrev pub invariant-loop-i : goal.invariant-loop-i
invariant-loop-i l = map kept_kind (take l.i l.kept) ≡ map measure_kind (take l.i l.measures)
