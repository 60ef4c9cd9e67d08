-- Bit by bit.
use Rattle.transpose_order.proofs.MaskByteLemmas.{mask_comes_back, bytes_come_back}
use Rattle.transpose_order.proofs.masks.masks_and_bytes_come_back.Goals as goal

pub returns-clause-masks : goal.returns-clause-masks
returns-clause-masks c = mask_comes_back

pub returns-clause-bytes : goal.returns-clause-bytes
returns-clause-bytes c = bytes_come_back
