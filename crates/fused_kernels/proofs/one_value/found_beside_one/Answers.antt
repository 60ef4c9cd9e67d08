-- A comparison by turns.
use Rattle.std.proofs.Common.{ℕ, ℤ}
use Rattle.table_model.specs.Truth.{compared}
use Rattle.segment_core.specs.Coded.{value_in}
use Rattle.fused_kernels.proofs.FoundLemmas.{found_alike}
use Rattle.fused_kernels.proofs.one_value.found_beside_one.Goals as goal

pub returns-in-None-clause-rows : goal.returns-in-None-clause-rows
returns-in-None-clause-rows c =
    let l : ℕ → ℤ = value_in c.args.left.now in
    let r : ℕ → ℤ = value_in c.args.right.now in
    found_alike c.found_beside_right-in-None.result (λ n. compared c.turned.result (r n) (l n)) (λ n. compared c.args.op (l n) (r n)) c.found_beside_right-in-None.ensures.rows
    (λ n h. c.turned.ensures.numbers (l n) (r n))
