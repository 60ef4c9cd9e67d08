-- Division first.
use Rattle.std.proofs.Common.{◌+ℤ◌, ◌*ℤ◌, ℤ, pos, int_div, int_rem, FitsSigned, rules, refl, sym, ap, subst, ◌∙◌, arith}
use Rattle.std.specs.Int.{w128}
use Rattle.std.proofs.lemmas.Int.{to_z-of_z}
use Rattle.partial_answers.proofs.DivideFirst.{mean_first, product_fits, mean_fits}
use Rattle.partial_answers.proofs.means.mean_of.Goals as goal

pub returns-in_err-whole-clause-none : goal.returns-in_err-whole-clause-none
returns-in_err-whole-clause-none c = λ _ within.
    let sum = to_z-of_z w128 c.args.sum c.ranges.sum in
    let fits : FitsSigned w128 c.quotient.result = search rules in
    let quot = to_z-of_z w128 c.quotient.result fits ∙ c.quotient.ensures ∙ ap (λ (z : ℤ). int_div z (pos c.args.count)) sum in
    c.in_err-whole.ensures.none refl (subst (λ (q : ℤ). FitsSigned w128 (q *ℤ pos 1000000)) (sym quot) (product_fits c.args.sum c.args.count within))

pub returns-in_err-mean-clause-none : goal.returns-in_err-mean-clause-none
returns-in_err-mean-clause-none c = λ _ within.
    let sum = to_z-of_z w128 c.args.sum c.ranges.sum in
    let fits : FitsSigned w128 c.quotient.result = search rules in
    let quot = to_z-of_z w128 c.quotient.result fits ∙ c.quotient.ensures ∙ ap (λ (z : ℤ). int_div z (pos c.args.count)) sum in
    let whole_fits : FitsSigned w128 c.in_ok-whole.whole = search rules in
    let rest_fits : FitsSigned w128 c.rest.result = search rules in
    let whole = to_z-of_z w128 c.in_ok-whole.whole whole_fits ∙ c.in_ok-whole.ensures.some ∙ ap (λ (q : ℤ). q *ℤ pos 1000000) quot in
    let rest = to_z-of_z w128 c.rest.result rest_fits ∙ c.rest.ensures ∙ ap (λ (z : ℤ). int_div (int_rem z (pos c.args.count) *ℤ pos 1000000) (pos c.args.count)) sum in
    c.in_err-mean.ensures.none refl (subst (λ (z : ℤ). FitsSigned w128 z) (sym (λ i. whole i +ℤ rest i)) (mean_fits c.args.sum c.args.count (omega (arith, c.requires)) within))

pub returns-clause-value : goal.returns-clause-value
returns-clause-value c =
    let sum = to_z-of_z w128 c.args.sum c.ranges.sum in
    let fits : FitsSigned w128 c.quotient.result = search rules in
    let quot = to_z-of_z w128 c.quotient.result fits ∙ c.quotient.ensures ∙ ap (λ (z : ℤ). int_div z (pos c.args.count)) sum in
    let whole_fits : FitsSigned w128 c.in_ok-whole.whole = search rules in
    let rest_fits : FitsSigned w128 c.rest.result = search rules in
    let whole = to_z-of_z w128 c.in_ok-whole.whole whole_fits ∙ c.in_ok-whole.ensures.some ∙ ap (λ (q : ℤ). q *ℤ pos 1000000) quot in
    let rest = to_z-of_z w128 c.rest.result rest_fits ∙ c.rest.ensures ∙ ap (λ (z : ℤ). int_div (int_rem z (pos c.args.count) *ℤ pos 1000000) (pos c.args.count)) sum in
    let mean_fits_too : FitsSigned w128 c.in_ok-mean.mean = search rules in
    to_z-of_z w128 c.in_ok-mean.mean mean_fits_too ∙ c.in_ok-mean.ensures.some ∙ (λ i. whole i +ℤ rest i) ∙ sym (mean_first c.args.sum c.args.count (omega (arith, c.requires)))
