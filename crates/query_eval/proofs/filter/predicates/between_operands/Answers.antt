-- Each side stands for its operand.
use Rattle.query_eval.proofs.PredicateLemmas.{operands_between}
use Rattle.query_eval.proofs.filter.predicates.between_operands.Goals as goal

pub returns-clause-value : goal.returns-clause-value
returns-clause-value g c =
    operands_between (g.C.Columns.seen c.args.columns.now).table (g.C.Columns.seen c.args.columns.now).state c.args.id.batch c.args.id.vector c.args.operand.now c.args.low.now c.args.high.now c.side_of-operand.result c.side_of-low.result c.side_of-high.result c.args.mask.now _ c.requires.there c.side_of-operand.ensures.value c.side_of-low.ensures.value c.side_of-high.ensures.value c.between_sides.ensures.value
