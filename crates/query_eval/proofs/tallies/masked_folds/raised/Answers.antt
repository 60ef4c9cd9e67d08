-- Raised by 2 to the power of 63, less what that is above the power of 52.
use Rattle.std.proofs.Common.{rules, ◌≡◌, ◌+◌, ◌%◌, ◌^◌, pos, ◌+ℤ◌, FitsSigned, w64, ap, ◌∙◌, arith}
use Rattle.std.proofs.lemmas.Int.{ints, to_z-of_z}
use Rattle.query_eval.proofs.tallies.masked_folds.raised.Goals as goal

pub returns-clause-short : goal.returns-clause-short
returns-clause-short c =
    let fits : FitsSigned w64 c.args.value = search rules in
    let high : pos c.raised_if.result ≡ c.args.value +ℤ pos (2 ^ 63) = c.raised_if.ensures ∙ ap (λ z. z +ℤ pos (2 ^ 63)) (to_z-of_z w64 c.args.value fits) in
    λ below. record {
      raised = (c.raised_if.result + 9227875636482146304) % 2 ^ 64;
      below = below;
      is = omega (arith, ints, high, below, c.raised_if.type_inv);
    }

pub returns-clause-value : goal.returns-clause-value
returns-clause-value c =
    let fits : FitsSigned w64 c.args.value = search rules in
    let high : pos c.raised_if.result ≡ c.args.value +ℤ pos (2 ^ 63) = c.raised_if.ensures ∙ ap (λ z. z +ℤ pos (2 ^ 63)) (to_z-of_z w64 c.args.value fits) in
    λ h. omega (arith, ints, high, h.below, h.is, c.raised_if.type_inv)
