use Rattle.std.proofs.Common.{◌≡◌, map, take}
use Rattle.partial_answers.specs.Evaluated.{told}
use Rattle.partial_answers.specs.Kept.{tallies_in}
use Rattle.partial_answers.specs.Kinds.{running_kind}
use Rattle.partial_answers.specs.Refusing.{kept_kind}
use Rattle.partial_answers.proofs.told.kept_of_tallies.Given as goal

abbrev pub invariant-loop-tally : goal.invariant-loop-tally
invariant-loop-tally l = record {
  value : tallies_in l.all.items ≡ map told (take l.tally-index l.tallies);
  kinds : map kept_kind l.all.items ≡ map running_kind (take l.tally-index l.tallies);
}
