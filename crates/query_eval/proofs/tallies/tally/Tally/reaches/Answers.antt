-- What goes no further changes nothing.
use Rattle.std.proofs.Common.{rules, FitsSigned, w64, ◌≡◌, ◌≤ℤ◌, ◌++◌, map, ℤ, refl, sym, ap, subst, ◌∙◌}
use Rattle.std.proofs.lemmas.Int.{to_z-of_z}
use Rattle.table_model.specs.Extreme.{extreme_of, turned}
use Rattle.table_model.specs.declared.extreme.Extreme.{Extreme as Side}
use Rattle.query_eval.specs.Forms.{top_of}
use Rattle.query_eval.specs.Tally.{IsTally, kind_of}
use Rattle.query_eval.specs.declared.tallies.tally.Tally.{Tally}
use Rattle.query_eval.proofs.ExtremeLemmas.{extreme_many, same_side}
use Rattle.query_eval.proofs.tallies.tally.Tally.reaches.Goals as goal

pub returns-in-Extreme : goal.returns-in-Extreme
returns-in-Extreme c = λ extreme values more told kind small h.
    let side : Side = c.in-Extreme.extreme in
    let value = c.in-Extreme.value in
    let same : side ≡ extreme = same_side side extreme (ap kind_of (sym c.in-Extreme.is) ∙ kind) in
    let fits : FitsSigned w64 c.args.bound = search rules in
    let bound = to_z-of_z w64 c.args.bound fits in
    let reached = c.is_reached.ensures more told (subst (λ (b : ℤ). top_of (map (turned side) more) ≤ℤ b) (sym bound) (subst (λ (e : Side). top_of (map (turned e) more) ≤ℤ c.args.bound) (sym same) small)) in
    subst (λ (t : Tally). IsTally (values ++ more) t) (sym c.in-Extreme.is) (extreme_many side value value (extreme_of side more) more refl (sym reached) values (subst (λ (t : Tally). IsTally values t) c.in-Extreme.is h))
