-- A mask is the list of its rows.
use Rattle.transpose_order.proofs.MaskByteLemmas.{count_below-count_by}
use Rattle.transpose_order.proofs.masks.counts_agree.Goals as goal

pub returns : goal.returns
returns c = count_below-count_by
