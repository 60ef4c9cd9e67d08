-- The further of the value and what there was.
use Rattle.std.proofs.Common.{[], ◌∷◌, rules, sym, FitsSigned, w64, subst}
use Rattle.std.proofs.lemmas.Int.{to_z-of_z}
use Rattle.query_eval.specs.Tally.{IsTally}
use Rattle.query_eval.specs.declared.tallies.tally.Tally.{Tally}
use Rattle.table_model.proofs.Extremes.{one_extreme}
use Rattle.query_eval.proofs.ExtremeLemmas.{extreme_many}
use Rattle.query_eval.proofs.tallies.tally.Tally.add.Goals as goal

pub returns-in-Extreme-clause-values : goal.returns-in-Extreme-clause-values
returns-in-Extreme-clause-values c = λ values h.
    let value : FitsSigned w64 c.args.value = search rules in
    let further = simp to_z-of_z at c.further.ensures in
    extreme_many c.in-Extreme.extreme c.in-Extreme.before c.further.result _ (c.args.value ∷ []) (sym (one_extreme c.in-Extreme.extreme c.args.value)) further values (subst (λ (t : Tally). IsTally values t) c.in-Extreme.is h)
