-- Each bit of each word is set.
use Rattle.transpose_order.proofs.MaskLemmas.{rows_of_ones}
use Rattle.transpose_order.proofs.masks.Mask.all.Goals as goal

pub returns : goal.returns
returns c = rows_of_ones
