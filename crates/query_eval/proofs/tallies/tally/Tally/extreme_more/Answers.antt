-- The further of the values' extreme and what there was.
use Rattle.std.proofs.Common.{◌≡◌, sym, ap, subst, ◌∙◌}
use Rattle.table_model.specs.Extreme.{extreme_of}
use Rattle.query_eval.specs.Tally.{IsTally, kind_of}
use Rattle.table_model.specs.declared.extreme.Extreme.{Extreme}
use Rattle.query_eval.specs.declared.tallies.tally.Tally.{Tally}
use Rattle.query_eval.proofs.ExtremeLemmas.{extreme_many, same_side}
use Rattle.query_eval.proofs.tallies.tally.Tally.extreme_more.Goals as goal

pub returns-in-Extreme-clause-values : goal.returns-in-Extreme-clause-values
returns-in-Extreme-clause-values c = λ extreme values more kind is h.
    let side = c.in-Extreme.extreme in
    let same : side ≡ extreme = same_side side extreme (ap kind_of (sym c.in-Extreme.is) ∙ kind) in
    extreme_many side c.in-Extreme.before c.further.result c.args.value more (is ∙ ap (λ (e : Extreme). extreme_of e more) (sym same)) c.further.ensures values (subst (λ (t : Tally). IsTally values t) c.in-Extreme.is h)
