-- The literal is the value at each row.
use Rattle.std.proofs.Common.{rules, ◌≡◌, ℕ, ℤ, to_z, of_z, FitsSigned, sym, ap, ◌∙◌}
use Rattle.std.specs.Int.{w64, w128}
use Rattle.std.proofs.lemmas.Int.{to_z-of_z}
use Rattle.table_model.specs.Truth.{compared}
use Rattle.segment_core.specs.Coded.{value_in}
use Rattle.fused_kernels.proofs.FoundLemmas.{found_alike}
use Rattle.fused_kernels.proofs.one_value.found_beside_right.Goals as goal

pub returns-in-Some-clause-rows : goal.returns-in-Some-clause-rows
returns-in-Some-clause-rows c =
    let l : ℕ → ℤ = value_in c.args.left.now in
    let literal : ℤ = to_z w128 (of_z w128 c.from.result) in
    let wide : FitsSigned w128 c.from.result = search rules in
    let fits : FitsSigned w64 c.in-Some.value = search rules in
    let is : literal ≡ c.in-Some.value = to_z-of_z w128 c.from.result wide ∙ c.from.ensures ∙ to_z-of_z w64 c.in-Some.value fits in
    found_alike c.found_by_literal.result (λ n. compared c.args.op (l n) literal) (λ n. compared c.args.op (l n) (value_in c.args.right.now n)) c.found_by_literal.ensures.rows
    (λ n h. ap (compared c.args.op (l n)) (is ∙ sym (c.in-Some.ensures.value n)))
