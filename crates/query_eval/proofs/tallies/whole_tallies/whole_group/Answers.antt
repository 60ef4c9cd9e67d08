-- One group, without keys.
use Rattle.std.proofs.Common.{◌∙◌, ap, ◌++◌, List, [], ◌∷◌}
use Rattle.query_eval.specs.Finished.{GroupFields}
use Rattle.query_eval.proofs.TableLemmas.{whole-group}
use Rattle.query_eval.proofs.tallies.whole_tallies.whole_group.Goals as goal

pub returns : goal.returns
returns c = λ table rows few h.
    c.in_ok-push.ensures.items ∙ ap (λ (groups : List GroupFields). groups ++ c.new.result ∷ []) c.new-groups.ensures.items
    ∙ whole-group c.args.aggregates.now rows c.new.result (c.new.ensures.key ∙ c.empty.ensures) (c.new.ensures.fields ∙ c.in_ok-fields.ensures table rows few h)
