-- Each side stands for its operand.
use Rattle.query_eval.proofs.SideLemmas.{operands_compared}
use Rattle.query_eval.proofs.filter.side.compare_operands.Goals as goal

pub returns-clause-value : goal.returns-clause-value
returns-clause-value g c =
    operands_compared (g.C.Columns.seen c.args.columns.now).table (g.C.Columns.seen c.args.columns.now).state c.args.id.batch c.args.id.vector c.args.left.now c.args.right.now c.side_of-left.result c.side_of-right.result c.args.op c.args.mask.now _ c.requires.there c.side_of-left.ensures.value c.side_of-right.ensures.value c.compare_sides.ensures.value
