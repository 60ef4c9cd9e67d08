-- The extreme's own representation is at least the bound.
use Rattle.std.proofs.Common.{rules, ◌≡◌, ◌≤ℤ◌, Option, ℤ, FitsSigned, w64, to_z, of_z, sym, ap, subst, ◌∙◌, arith}
use Rattle.std.specs.Int.Signed.{le_z_yes}
use Rattle.std.proofs.lemmas.Int.{ints, to_z-of_z}
use Rattle.table_model.specs.Extreme.{extreme_of, further, turned}
use Rattle.query_eval.proofs.ExtremeLemmas.{extreme_reached}
use Rattle.query_eval.proofs.tallies.tally.is_reached.Goals as goal

pub returns-in-Some : goal.returns-in-Some
returns-in-Some c = λ more told small.
    let e = c.args.extreme in
    let number : ℤ = c.in-Some.number in
    let bound : ℤ = c.args.bound in
    let fits : FitsSigned w64 number = search rules in
    let now : FitsSigned w64 c.turned.result = search rules in
    let also : FitsSigned w64 bound = search rules in
    let test : to_z w64 (of_z w64 bound) ≤ℤ to_z w64 (of_z w64 c.turned.result) = le_z_yes (search (rules, told)) in
    let is : c.turned.result ≡ turned e number = c.turned.ensures ∙ ap (turned e) (to_z-of_z w64 number fits) in
    let reached : bound ≤ℤ turned e number = omega (arith, ints, test, is, to_z-of_z w64 c.turned.result now, to_z-of_z w64 bound also) in
    subst (λ (o : Option ℤ). further e o (extreme_of e more) ≡ o) (sym c.in-Some.is) (extreme_reached e number bound more reached small)
