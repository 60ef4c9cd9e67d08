-- Each step of a run keeps the cluster that of what was taken.
use Rattle.cluster_history.proofs.Histories.{histories}
use Rattle.cluster_history.proofs.laws.history_laws.Goals as goal

pub returns : goal.returns
returns c = histories
