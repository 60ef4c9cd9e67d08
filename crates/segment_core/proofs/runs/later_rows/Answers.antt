-- The rows of each word are those of one.
use Rattle.std.proofs.Common.{Bool, List, ap, ◌∙◌}
use Rattle.transpose_order.specs.Mask.{has}
use Rattle.segment_core.proofs.MixedRows.{later_in_words}
use Rattle.segment_core.proofs.runs.later_rows.Goals as goal

pub returns : goal.returns
returns c n l =
    ap (λ (m : List Bool). has m n) c.from_words.ensures ∙ later_in_words c.args.lane_width c.later_in_word.result c.requires c.later_in_word.ensures n l
