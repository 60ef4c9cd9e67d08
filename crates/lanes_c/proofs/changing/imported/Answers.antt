-- The import is the command that is done on the file.
use Rattle.lanes_c.proofs.changing.imported.Goals as goal

pub returns : goal.returns
returns c = c.changed.ensures
