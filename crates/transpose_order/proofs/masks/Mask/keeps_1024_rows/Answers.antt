-- A mask's rows are those of its words.
use Rattle.std.proofs.Common.{length, sym, ap, ◌∙◌}
use Rattle.transpose_order.specs.Mask.{truth_at}
use Rattle.transpose_order.specs.MaskWords.{length-rows_of}
use Rattle.transpose_order.proofs.masks.Mask.keeps_1024_rows.Goals as goal

pub returns : goal.returns
returns c = ap length (sym c.self.view_is) ∙ length-rows_of (truth_at c.self.inside.words)
