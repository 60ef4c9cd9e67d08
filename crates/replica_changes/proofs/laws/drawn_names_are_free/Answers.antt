-- A word's name is taken only where it is free.
use Rattle.replica_changes.proofs.DrawnNames.{drawn_are_free}
use Rattle.replica_changes.proofs.laws.drawn_names_are_free.Goals as goal

pub returns : goal.returns
returns c = drawn_are_free
