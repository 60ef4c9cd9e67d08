-- Bit b of word j is row 64 * j + b, and bit 64 * j + b of the bytes.
use Rattle.std.proofs.Common.{◌∙◌}
use Rattle.transpose_order.proofs.MaskByteLemmas.{mask_bytes-words}
use Rattle.transpose_order.proofs.masks.Mask.to_le_bytes.Goals as goal

pub returns : goal.returns
returns c = c.bytes_of_words.ensures ∙ mask_bytes-words c.self.inside.words c.args.self.now c.self.view_is
