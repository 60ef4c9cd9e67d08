-- A row is bit `row % 64` of word `row / 64`.
use Rattle.std.proofs.lemmas.Nat.Bits.{shr_and_one}
use Rattle.std.proofs.Common.{◌==◌, ◌/◌, ◌%◌, slice_index_or, sym, ap, ◌∙◌}
use Rattle.transpose_order.proofs.MaskLemmas.{has-words}
use Rattle.transpose_order.proofs.masks.Mask.get.Goals as goal

pub returns : goal.returns
returns c =
    ap (λ b. b == 1) (shr_and_one (slice_index_or c.self.inside.words (c.args.row / 64) 0) (c.args.row % 64))
    ∙ sym (has-words _ _ c.self.view_is c.args.row c.requires)
