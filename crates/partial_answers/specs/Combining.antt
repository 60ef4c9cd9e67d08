-- Two partial answers of the code combined, and why they are not.
use Rattle.std.specs.Prelude.{◌≡◌, true}
use Rattle.std.specs.String.{string_bytes}
use Rattle.partial_answers.specs.Between.{IsLeastBetween}
use Rattle.partial_answers.specs.Counted.{Counted, may_be_combined, combined_with}
use Rattle.partial_answers.specs.Groups.{partial_answer_in}
use Rattle.partial_answers.specs.Refusing.{KeepAlike, GroupsFit}
use Rattle.partial_answers.specs.Shape.{IsShaped}
use Rattle.partial_answers.specs.declared.fault.PartialAnswerFault.{PartialAnswerFault}
use Rattle.partial_answers.specs.declared.fault.PartialAnswerFault.TheVariants.{Memory, SchemaDiffers, QueryDiffers, NotApart, TooMany, Query}
use Rattle.partial_answers.specs.declared.partial_answer.PartialAnswer.{PartialAnswer as CodePartialAnswer}

-- a partial answer of the code as the laws see it
abbrev pub counted_in : CodePartialAnswer → Counted
counted_in p = record { partial = partial_answer_in p.groups; held = p.held; strays = p.strays }

-- two partial answers count no batch in common, and neither deletes rows of a batch that the other counts
abbrev pub AreApart : CodePartialAnswer → CodePartialAnswer → Type 0
AreApart p q = may_be_combined (counted_in p) (counted_in q) ≡ true

-- Why two partial answers are not combined, in this order: other schemas; other texts; a batch that may not be in both; other things kept
-- of a group, which is in no two partial answers of one query; a count or a sum that leaves its bits. Each comes where nothing before it
-- is at fault. Memory can run out at any time.
abbrev pub IsRefused : PartialAnswerFault → CodePartialAnswer → CodePartialAnswer → Type 0
IsRefused Memory p q = Unit {0}
IsRefused SchemaDiffers p q = p.schema ≡ q.schema → ⊥
IsRefused QueryDiffers p q = (p.schema ≡ q.schema) × (string_bytes p.text ≡ string_bytes q.text → AreApart p q × (KeepAlike p.groups q.groups → ⊥))
IsRefused (NotApart name) p q = (p.schema ≡ q.schema) × (string_bytes p.text ≡ string_bytes q.text) × IsLeastBetween (counted_in p) (counted_in q) name
IsRefused TooMany p q = (p.schema ≡ q.schema) × (string_bytes p.text ≡ string_bytes q.text) × AreApart p q × (GroupsFit p.groups q.groups → ⊥)
IsRefused (Query refusal) p q = ⊥

-- two partial answers are of the same table and query and are apart, and this is their combination, which has the shape that their query asks for if they have it
pub record AreCombined (p q both : CodePartialAnswer) : Type 0 where
  pub schemas : p.schema ≡ q.schema
  pub texts : string_bytes p.text ≡ string_bytes q.text
  pub apart : AreApart p q
  pub schema : both.schema ≡ p.schema
  pub text : both.text ≡ p.text
  pub counted : counted_in both ≡ combined_with (counted_in p) (counted_in q)
  pub shape : IsShaped p → IsShaped q → IsShaped both
