-- The row's run has the row's value.
use Rattle.std.proofs.Common.{ℤ, rules, FitsSigned, pos, get_or, length, sym, ap, ◌∙◌, subst, arith}
use Rattle.std.specs.Int.{w64}
use Rattle.std.proofs.lemmas.Int.{to_z-of_z}
use Rattle.bit_interleave.specs.Arithmetic.{integer_width}
use Rattle.run_dictionary.specs.Runs.{RunForm, run_value}
use Rattle.run_dictionary.proofs.RangeLemmas.{run_value-fits}
use Rattle.run_dictionary.proofs.runs.Runs.value.Goals as goal

pub get-requires : goal.get-requires
get-requires c = omega (arith, c.run_at.ensures.within, ap (λ form. length form.values) c.self.view_is)

pub returns-clause-value : goal.returns-clause-value
returns-clause-value c =
    let fits : FitsSigned w64 c.get.result = search rules in
    to_z-of_z w64 c.get.result fits ∙ c.get.ensures.value ∙ ap (λ xs. get_or xs c.run_at.result (pos 0)) (ap (λ form. form.values) c.self.view_is)
    ∙ ap (λ k. get_or c.args.self.now.values k (pos 0)) c.run_at.ensures.run

pub returns-clause-fits : goal.returns-clause-fits
returns-clause-fits c =
    let value = returns-clause-value c in
    subst (λ (z : ℤ). FitsSigned (integer_width c.args.self.now.lane_width) z) (sym value)
    (subst (λ (form : RunForm). FitsSigned (integer_width form.lane_width) (run_value form c.args.row)) c.self.view_is (run_value-fits _ c.self.invariant c.args.row c.requires))
