-- The true values of the list are those of the words.
use Rattle.std.proofs.Common.{count_by}
use Rattle.std.proofs.Common.{sym, ap, ◌∙◌}
use Rattle.transpose_order.specs.Mask.{truth_at}
use Rattle.transpose_order.proofs.MaskLemmas.{count_by-rows_of}
use Rattle.transpose_order.proofs.masks.Mask.count.Goals as goal

pub returns : goal.returns
returns c =
    c.count_rows.ensures ∙ sym (count_by-rows_of (truth_at c.self.inside.words)) ∙ ap (count_by (λ row. row)) c.self.view_is
