use Rattle.std.proofs.Common.{◌≡◌, map, take}
use Rattle.partial_answers.specs.Kept.{tallies_in}
use Rattle.partial_answers.specs.PartialAnswer.{pluses}
use Rattle.partial_answers.specs.Refusing.{kept_kind}
use Rattle.partial_answers.proofs.kept.group_of_both.Given as goal

abbrev pub invariant-loop-i : goal.invariant-loop-i
invariant-loop-i l = record {
  both : tallies_in l.both.items ≡ pluses (tallies_in (take l.i l.one)) (tallies_in (take l.i l.other));
  kinds : map kept_kind l.both.items ≡ map kept_kind (take l.i l.one);
}
