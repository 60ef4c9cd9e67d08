-- The rows of the list are those of the words.
use Rattle.std.proofs.Common.{sym, ◌∙◌, arith}
use Rattle.transpose_order.proofs.MaskLemmas.{has-words, count_below-same}
use Rattle.transpose_order.proofs.masks.Mask.count_below.Goals as goal

pub returns : goal.returns
returns c =
    c.count_rows.ensures
    ∙ count_below-same _ _ c.args.end (λ n h. sym (has-words _ _ c.self.view_is n (omega arith)))
