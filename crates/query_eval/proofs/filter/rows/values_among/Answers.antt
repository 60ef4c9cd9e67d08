-- One literal more.
use Rattle.std.proofs.Common.{rules, ◌≡◌, ℤ, FitsSigned, get_or, pos, subst}
use Rattle.std.specs.Int.{w128}
use Rattle.std.specs.Ordering.{int_eq}
use Rattle.std.proofs.lemmas.Int.{to_z-of_z}
use Rattle.transpose_order.specs.Mask.{rows_of}
use Rattle.query_eval.proofs.AmongLemmas.{among_more}
use Rattle.query_eval.proofs.filter.rows.values_among.Goals as goal

pub loop-literal-preserved : goal.loop-literal-preserved
loop-literal-preserved c =
    let i = c.loop-literal.literal-index in
    let literals = c.args.literals.now in
    let values = c.args.values.now in
    let fits : FitsSigned w128 (get_or literals i (pos 0)) = search rules in
    let one : c.in_ok-rows.rows ≡ rows_of (λ n. int_eq (get_or values n (pos 0)) (get_or literals i (pos 0))) =
    subst (λ (z : ℤ). c.in_ok-rows.rows ≡ rows_of (λ n. int_eq (get_or values n (pos 0)) z)) (to_z-of_z w128 (get_or literals i (pos 0)) fits) c.in_ok-rows.ensures.rows in
    among_more values literals i c.loop-literal.found c.in_ok-rows.rows c.or-found.result c.loop-literal-test.true c.loop-literal.invariant one c.or-found.ensures
