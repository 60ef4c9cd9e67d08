-- The side stands for the operand.
use Rattle.query_eval.proofs.SideLemmas.{operand_null}
use Rattle.query_eval.proofs.filter.side.null_operand.Goals as goal

pub returns : goal.returns
returns g c =
    operand_null (g.C.Columns.seen c.args.columns.now).table (g.C.Columns.seen c.args.columns.now).state c.args.id.batch c.args.id.vector c.args.operand.now c.side_of-side.result c.args.mask.now _ c.requires c.side_of-side.ensures.value c.null_rows.ensures
