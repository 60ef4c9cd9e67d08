-- The library's test of two texts.
use Rattle.std.proofs.Common.{◌∙◌}
use Rattle.table_model.proofs.Texts.{same_text-pointwise}
use Rattle.table_model.proofs.identifier.same_text.Goals as goal

pub returns : goal.returns
returns c = c.eq.ensures ∙ same_text-pointwise c.args.a.now c.args.b.now
