-- Each call makes its replica with the schema and the own origin of the one before.
use Rattle.replica_store.proofs.MergeAnswers.{keeping_laws_hold}
use Rattle.replica_store.proofs.laws.keeping_laws.Goals as goal

pub returns : goal.returns
returns c = keeping_laws_hold
