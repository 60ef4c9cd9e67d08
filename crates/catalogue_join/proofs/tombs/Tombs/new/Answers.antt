-- No range has no rows.
use Rattle.std.proofs.Common.{◌∙◌, ap}
use Rattle.catalogue_join.specs.RowRange.{rows_in}
use Rattle.catalogue_join.proofs.RowSets.{rows_in-nil}
use Rattle.catalogue_join.proofs.tombs.Tombs.new.Goals as goal

pub returns : goal.returns
returns c = ap rows_in c.new.ensures ∙ rows_in-nil
