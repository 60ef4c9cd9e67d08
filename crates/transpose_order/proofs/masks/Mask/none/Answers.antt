-- No bit of any word is set.
use Rattle.std.proofs.lemmas.Nat.Bits.{bit_at-zero}
use Rattle.transpose_order.proofs.MaskLemmas.{rows_of-replicate}
use Rattle.std.proofs.Common.{◌==◌, false, ap}
use Rattle.transpose_order.proofs.masks.Mask.none.Goals as goal

pub returns : goal.returns
returns c = rows_of-replicate 0 false (λ p h. ap (λ b. b == 1) (bit_at-zero p))
