-- Equality asks neither side first.
use Rattle.std.proofs.Common.{rules, ◌≡◌, ℤ, FitsSigned, get_or, pos, ◌∙◌, subst}
use Rattle.std.specs.Int.{w64, w128}
use Rattle.std.specs.Ordering.{int_eq}
use Rattle.std.proofs.lemmas.Cmp.{int_eq_equiv}
use Rattle.std.proofs.lemmas.Int.{to_z-of_z}
use Rattle.transpose_order.specs.Mask.{rows_of}
use Rattle.transpose_order.specs.MaskWords.{rows_of-like}
use Rattle.query_eval.proofs.filter.rows.literal_rows.Goals as goal

pub returns-clause-rows : goal.returns-clause-rows
returns-clause-rows c =
    let values = c.args.values.now in
    let fits : FitsSigned w128 c.args.literal = search rules in
    let is : c.in_ok-value.value ≡ c.args.literal = c.in_ok-value.ensures.value ∙ to_z-of_z w128 c.args.literal fits in
    let fits_64 : FitsSigned w64 c.in_ok-value.value = search rules in
    subst (λ (z : ℤ). c.equal_rows.result ≡ rows_of (λ n. int_eq z (get_or values n (pos 0)))) (to_z-of_z w64 c.in_ok-value.value fits_64 ∙ is) c.equal_rows.ensures
    ∙ rows_of-like (λ n. int_eq c.args.literal (get_or values n (pos 0))) (λ n. int_eq (get_or values n (pos 0)) c.args.literal) (λ n h. int_eq_equiv.symm c.args.literal (get_or values n (pos 0)))
