-- The laws are those of what is left of the sets that files took.
use Rattle.replica_changes.proofs.ForgetFiles.{forget_file_laws_hold}
use Rattle.replica_changes.proofs.laws.forget_file_laws.Goals as goal

pub returns : goal.returns
returns c = forget_file_laws_hold
