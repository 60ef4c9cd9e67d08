-- An offer beside what its summary listed is the server's state; and what was taken in once isn't new again.
use Rattle.replica_store.proofs.ExchangeAnswers.{exchange_laws_hold}
use Rattle.replica_store.proofs.laws.exchange_laws.Goals as goal

pub returns : goal.returns
returns c = exchange_laws_hold
