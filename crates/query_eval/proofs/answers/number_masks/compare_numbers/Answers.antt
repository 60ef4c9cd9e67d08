-- The groups at which neither side is null, by the rows at which the comparison holds.
use Rattle.query_eval.proofs.NumberLemmas.{pair_compared}
use Rattle.query_eval.proofs.answers.number_masks.compare_numbers.Goals as goal

pub returns : goal.returns
returns c =
    pair_compared c.args.op c.args.left.now.values c.args.right.now.values c.args.left.now.nulls c.args.right.now.nulls c.args.mask.now c.or.result c.and_not-known.result c.compared_rows-holds.result _ c.or.ensures c.and_not-known.ensures c.compared_rows-holds.ensures c.and.ensures c.and_not.ensures
