-- Bit b of word j is row 64 * j + b, and bit 64 * j + b of the bytes.
use Rattle.std.proofs.Common.{◌^◌, ◌<◌, ap, ◌∙◌, arith}
use Rattle.std.proofs.lemmas.List.Elements.{All-from_get_or}
use Rattle.transpose_order.specs.MaskBytes.{mask_bytes}
use Rattle.transpose_order.proofs.MaskByteLemmas.{rows_of_bytes-words, bytes_come_back}
use Rattle.transpose_order.proofs.masks.Mask.from_le_bytes.Goals as goal

pub returns-clause-value : goal.returns-clause-value
returns-clause-value c = rows_of_bytes-words c.words_of_bytes.result c.args.bytes.now c.words_of_bytes.ensures

pub returns-clause-back : goal.returns-clause-back
returns-clause-back c = ap mask_bytes (returns-clause-value c) ∙ bytes_come_back c.args.bytes.now (omega arith) (All-from_get_or (λ b. b < 2 ^ 8) c.args.bytes.now 0 (λ i _. omega (arith, c.fits-bytes i)))
