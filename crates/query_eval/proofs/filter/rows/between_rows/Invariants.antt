-- The rows so far are judged.
use Rattle.table_model.specs.Truth.{and_of, comparison}
use Rattle.table_model.specs.declared.op.Op.TheVariants.{GreaterOrEqual, LessOrEqual}
use Rattle.query_eval.specs.Below.{IsPairBelow}
use Rattle.query_eval.specs.Decoded.{decoded_at}
use Rattle.query_eval.proofs.filter.rows.between_rows.Given as goal

abbrev pub invariant-loop-row : goal.invariant-loop-row
invariant-loop-row l =
    IsPairBelow l.row l.mask (λ n. and_of (comparison GreaterOrEqual (decoded_at l.operand n) (decoded_at l.low n)) (comparison LessOrEqual (decoded_at l.operand n) (decoded_at l.high n))) l.pair
