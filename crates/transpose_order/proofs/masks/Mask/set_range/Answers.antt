-- The rows of the words written are those of the list.
use Rattle.std.proofs.Common.{if◌then◌else◌, nat_le, nat_lt, ◌&&◌, sym, ap, ◌∙◌}
use Rattle.transpose_order.specs.MaskWords.{rows_of-like}
use Rattle.transpose_order.proofs.MaskLemmas.{has-words}
use Rattle.transpose_order.proofs.masks.Mask.set_range.Goals as goal

pub returns : goal.returns
returns c =
    rows_of-like _ _ (λ n h. c.set_rows.ensures.rows n h ∙ ap (λ b. if nat_le c.args.first n && nat_lt n c.args.end then c.args.value else b) (sym (has-words _ _ c.self.view_is n h)))
