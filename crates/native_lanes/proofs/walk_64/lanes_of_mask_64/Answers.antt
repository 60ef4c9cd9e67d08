-- A lane's rows are those of a word.
use Rattle.std.proofs.Common.{◌≡◌, ◌+◌, ◌*◌, sym, ap, ◌∙◌, arith}
use Rattle.transpose_order.specs.Mask.{has}
use Rattle.transpose_order.specs.Place.{row_at}
use Rattle.transpose_order.proofs.MaskLemmas.{has-word}
use Rattle.native_lanes.proofs.walk_64.lanes_of_mask_64.Goals as goal

pub returns : goal.returns
returns c = λ lane step h l.
    let row : 64 * lane + step ≡ row_at 64 lane step = omega arith in
    sym (has-word c.words.result.now c.args.mask.now (sym c.words.ensures) lane step h l) ∙ ap (has c.args.mask.now) row
