-- The rows looked at have the values of the coding.
use Rattle.std.proofs.Common.{sym, ap, ◌∙◌}
use Rattle.segment_core.specs.Coded.{value_in}
use Rattle.segment_core.specs.declared.coded.Coded.{Coded}
use Rattle.fused_kernels.proofs.RowsLemmas.{extreme_of_rows}
use Rattle.fused_kernels.proofs.vector_extremes.extreme_by_any.Goals as goal

pub returns-in-Some-clause-value : goal.returns-in-Some-clause-value
returns-in-Some-clause-value c =
    c.in-Some.ensures
    ∙ extreme_of_rows c.args.side c.args.vector.now c.args.mask.now c.rows_of_vector.result (value_in c.coded.result.now) c.rows_of_vector.ensures (λ n. ap (λ (x : Coded). value_in x n) (sym c.coded.ensures))
