-- The least of three.
use Rattle.std.proofs.Common.{Option, sym, ap, subst, ◌∙◌}
use Rattle.table_model.specs.declared.names.BatchName.{BatchName}
use Rattle.partial_answers.specs.Between.{lesser_name, IsFirstBetween}
use Rattle.partial_answers.specs.Combining.{counted_in}
use Rattle.partial_answers.proofs.FirstBetween.{first_between}
use Rattle.partial_answers.proofs.partial_answer.PartialAnswer.between.Goals as goal

pub returns : goal.returns
returns c =
    let p = counted_in c.args.self.now in
    let q = counted_in c.args.other.now in
    let is = c.lesser_name-2.ensures ∙ ap (lesser_name c.first_shared-held.result) c.lesser_name.ensures in
    subst (λ (o : Option BatchName). IsFirstBetween p q o) (sym is) (first_between p q _ _ _ c.first_shared-held.ensures c.first_shared-first.ensures c.first_shared-second.ensures)
