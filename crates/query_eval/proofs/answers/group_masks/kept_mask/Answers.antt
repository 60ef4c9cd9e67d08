-- Each group is one of the first, and HAVING keeps those at which its condition is true.
use Rattle.std.proofs.Common.{Option, ap, sym, ◌∙◌}
use Rattle.table_model.specs.Formula.{Formula}
use Rattle.table_model.specs.Meaning.{is_kept}
use Rattle.query_eval.specs.FieldPlaces.{group_at}
use Rattle.query_eval.specs.Finished.{seen_operand}
use Rattle.query_eval.proofs.HavingLemmas.{all_within, yes_is_kept}
use Rattle.query_eval.proofs.answers.group_masks.kept_mask.Goals as goal

pub returns-in-None : goal.returns-in-None
returns-in-None c = λ n h l.
    all_within c.set_range.new.self c.none-all.result _ c.min.result c.min.ensures c.set_range.ensures n h l
    ∙ sym (ap (λ (o : Option Formula). is_kept o (seen_operand c.args.schema.now.columns c.args.plan.now (group_at c.args.groups.now n))) c.in-None.is)

pub returns-in_ok-numbers-in-Some : goal.returns-in_ok-numbers-in-Some
returns-in_ok-numbers-in-Some c = λ n h l.
    yes_is_kept c.set_range.new.self c.condition_masks-pair.result.yes _ n h c.condition_masks-pair.ensures.yes (all_within c.set_range.new.self c.none-all.result _ c.min.result c.min.ensures c.set_range.ensures n h l)
    ∙ sym (ap (λ (o : Option Formula). is_kept o (seen_operand c.args.schema.now.columns c.args.plan.now (group_at c.args.groups.now n))) c.in-Some.is)
