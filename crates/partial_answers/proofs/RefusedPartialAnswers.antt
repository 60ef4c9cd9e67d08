-- What refuses the groups of two partial answers refuses the partial answers.
use Rattle.std.specs.Prelude.{◌≡◌}
use Rattle.std.specs.String.{string_bytes}
use Rattle.partial_answers.specs.Combining.{AreApart, IsRefused}
use Rattle.partial_answers.specs.Refusing.{RefusesGroups}
use Rattle.partial_answers.specs.declared.fault.PartialAnswerFault.{PartialAnswerFault}
use Rattle.partial_answers.specs.declared.fault.PartialAnswerFault.TheVariants.{Memory, SchemaDiffers, QueryDiffers, NotApart, TooMany, Query}
use Rattle.partial_answers.specs.declared.partial_answer.PartialAnswer.{PartialAnswer as CodePartialAnswer}

pub groups_refuse : (e : PartialAnswerFault) (p q : CodePartialAnswer) → p.schema ≡ q.schema → string_bytes p.text ≡ string_bytes q.text → AreApart p q → RefusesGroups e p.groups q.groups → IsRefused e p q
groups_refuse Memory p q schemas texts apart why = tt
groups_refuse QueryDiffers p q schemas texts apart why = (schemas, λ _. (apart, why))
groups_refuse TooMany p q schemas texts apart why = (schemas, texts, apart, why)
groups_refuse SchemaDiffers p q schemas texts apart why = absurd why
groups_refuse (NotApart name) p q schemas texts apart why = absurd why
groups_refuse (Query refusal) p q schemas texts apart why = why
