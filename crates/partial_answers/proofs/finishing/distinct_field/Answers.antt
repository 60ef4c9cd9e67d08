-- The values in order are those of the set, and as many.
use Rattle.std.proofs.Common.{refl, sym, ap, ◌∙◌, arith}
use Rattle.std.specs.FinMap as finite
use Rattle.table_model.specs.Meaning.{fold_value}
use Rattle.partial_answers.specs.PartialAnswer.{Seen}
use Rattle.partial_answers.proofs.RisingSets.{fold-rising}
use Rattle.partial_answers.proofs.ToFinish.{few_values}
use Rattle.partial_answers.proofs.finishing.distinct_field.Goals as goal

pub returns-clause-value : goal.returns-clause-value
returns-clause-value c =
    c.values_field.ensures ∙ sym (fold-rising c.args.fold _ c.values-values.ensures.rising)
    ∙ ap (λ (s : Seen). fold_value c.args.fold (finite.keys s)) c.values-values.ensures.value

pub returns-then-values-gt-MAX_STATE_ROWS-clause-refused : goal.returns-then-values-gt-MAX_STATE_ROWS-clause-refused
returns-then-values-gt-MAX_STATE_ROWS-clause-refused c =
    (refl, λ can. absurd (omega (arith, c.if-values-gt-MAX_STATE_ROWS.true, few_values c.args.kept.now c.values-values.result.now c.values-values.ensures.rising c.values-values.ensures.value can)))
