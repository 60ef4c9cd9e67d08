-- The rows of the null mask, and the others.
use Rattle.query_eval.proofs.NumberLemmas.{pair_null}
use Rattle.query_eval.proofs.answers.number_masks.null_numbers.Goals as goal

pub returns : goal.returns
returns c = pair_null c.args.numbers.now.nulls c.args.mask.now c.args.numbers.now.values _ c.and.ensures c.and_not.ensures
