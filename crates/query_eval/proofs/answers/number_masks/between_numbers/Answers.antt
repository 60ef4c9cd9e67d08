-- Not below the one, and not above the other.
use Rattle.table_model.specs.Truth.{comparison}
use Rattle.table_model.specs.declared.op.Op.TheVariants.{GreaterOrEqual, LessOrEqual}
use Rattle.query_eval.specs.Decoded.{value_unless}
use Rattle.query_eval.proofs.answers.number_masks.between_numbers.Goals as goal

pub returns : goal.returns
returns c =
    let operand = c.args.operand.now in
    let low = c.args.low.now in
    let high = c.args.high.now in
    c.and.ensures.alike c.args.mask.now (λ n. comparison GreaterOrEqual (value_unless operand.nulls operand.values n) (value_unless low.nulls low.values n)) (λ n. comparison LessOrEqual (value_unless operand.nulls operand.values n) (value_unless high.nulls high.values n))
    c.compare_numbers-above.ensures c.compare_numbers-below.ensures
