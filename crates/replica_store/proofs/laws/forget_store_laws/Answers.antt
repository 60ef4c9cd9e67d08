-- What is left joins.
use Rattle.replica_store.proofs.ForgetAnswers.{forget_store_laws_hold}
use Rattle.replica_store.proofs.laws.forget_store_laws.Goals as goal

pub returns : goal.returns
returns c = forget_store_laws_hold
