-- The rows looked at have the values of the coding.
use Rattle.std.proofs.Common.{rules, FitsSigned, sym, ap, ◌∙◌}
use Rattle.std.specs.Int.{w128}
use Rattle.std.proofs.lemmas.Int.{to_z-of_z}
use Rattle.segment_core.specs.Coded.{value_in}
use Rattle.segment_core.specs.declared.coded.Coded.{Coded}
use Rattle.fused_kernels.proofs.RowsLemmas.{sum_of_rows}
use Rattle.fused_kernels.proofs.vector_sums.vector_sum.Goals as goal

pub returns-in-Some-clause-value : goal.returns-in-Some-clause-value
returns-in-Some-clause-value c =
    let wide : FitsSigned w128 c.in-Some.sum = search rules in
    to_z-of_z w128 c.in-Some.sum wide ∙ c.in-Some.ensures
    ∙ sum_of_rows c.args.vector.now c.args.mask.now c.rows_of_vector.result (value_in c.coded.result.now) c.rows_of_vector.ensures (λ n. ap (λ (x : Coded). value_in x n) (sym c.coded.ensures))
