-- The laws are those of the sets that files hold.
use Rattle.replica_changes.proofs.FileLaws.{file_laws_hold}
use Rattle.replica_changes.proofs.laws.file_laws.Goals as goal

pub returns : goal.returns
returns c = file_laws_hold
