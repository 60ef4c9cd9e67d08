-- The laws of merge are those of join, and a conflict is the first one in order.
use Rattle.replica_store.proofs.MergeAnswers.{merge_laws_hold}
use Rattle.replica_store.proofs.laws.merge_laws.Goals as goal

pub returns : goal.returns
returns c = merge_laws_hold
