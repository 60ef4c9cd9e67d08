use Rattle.replica_store.proofs.Rests.{forgets_all}
use Rattle.replica_store.proofs.laws.forget_laws.Goals as goal

pub returns : goal.returns
returns c = forgets_all
