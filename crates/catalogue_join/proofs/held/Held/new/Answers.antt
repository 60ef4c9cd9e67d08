-- No run has no names.
use Rattle.std.proofs.Common.{◌∙◌, ap}
use Rattle.catalogue_join.specs.Run.{names_in}
use Rattle.catalogue_join.proofs.NameSets.{names_in-nil}
use Rattle.catalogue_join.proofs.held.Held.new.Goals as goal

pub returns : goal.returns
returns c = ap names_in c.new.ensures ∙ names_in-nil
