use Rattle.replica_store.proofs.Histories.{histories}
use Rattle.replica_store.proofs.laws.forget_history_laws.Goals as goal

pub returns : goal.returns
returns c = histories
