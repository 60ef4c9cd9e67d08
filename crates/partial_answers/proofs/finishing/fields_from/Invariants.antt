use Rattle.std.proofs.Common.{◌≡◌, map, take}
use Rattle.partial_answers.specs.Kept.{tallies_in}
use Rattle.partial_answers.specs.PartialAnswer.{field_at}
use Rattle.partial_answers.proofs.finishing.fields_from.Given as goal

abbrev pub invariant-loop-aggregate : goal.invariant-loop-aggregate
invariant-loop-aggregate l = l.fields.items ≡ map (field_at l.measures (tallies_in l.kept)) (take l.aggregate-index l.aggregates)
