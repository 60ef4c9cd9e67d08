-- The canonical coding is the first of fewest bytes, and the least form that it has is of that coding.
use Rattle.std.proofs.Common.{◌<◌, sym, ap, subst}
use Rattle.segment_core.specs.Fill.{filled}
use Rattle.segment_core.specs.Coded.{least_form}
use Rattle.segment_core.specs.Choice.{choice, place_in_order}
use Rattle.segment_core.specs.declared.coding.Coding.{Coding}
use Rattle.segment_core.proofs.ChoiceLemmas.{choice_is_first_fewest}
use Rattle.segment_core.proofs.CodedLemmas.{coding_of-least_form}
use Rattle.segment_core.proofs.laws.canonical_vector_takes_fewest_bytes.Goals as goal

pub returns-clause-least : goal.returns-clause-least
returns-clause-least c = λ t cells.
    ap (λ (k : Coding). least_form k t (filled cells)) (sym (coding_of-least_form (choice t (filled cells)) t (filled cells)))

pub returns-clause-fewest : goal.returns-clause-fewest
returns-clause-fewest c = λ t cells other. (choice_is_first_fewest t (filled cells)).fewest other

pub returns-clause-first : goal.returns-clause-first
returns-clause-first c = λ t cells other before.
    (choice_is_first_fewest t (filled cells)).first other
    (subst (λ (k : Coding). place_in_order other < place_in_order k) (coding_of-least_form (choice t (filled cells)) t (filled cells)) before)
