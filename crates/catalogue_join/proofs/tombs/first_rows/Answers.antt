-- A full vector has all rows, and another the rows that are set in a mask without any.
use Rattle.std.proofs.Common.{◌∙◌}
use Rattle.catalogue_join.proofs.LiveMasks.{full_is, front_is}
use Rattle.catalogue_join.proofs.tombs.first_rows.Goals as goal

pub returns-then-rows-eq-VECTOR_ROWS : goal.returns-then-rows-eq-VECTOR_ROWS
returns-then-rows-eq-VECTOR_ROWS c = c.all.ensures ∙ full_is c.args.rows c.if-rows-eq-VECTOR_ROWS.true

pub returns : goal.returns
returns c = c.set_range.ensures ∙ front_is c.none-mask.result c.args.rows c.none-mask.ensures
