-- No name is listed, so each is proper.
use Rattle.std.proofs.Common.{sym, subst}
use Rattle.replica_store.specs.Exchange.{AreListable}
use Rattle.replica_store.proofs.Summaries.{AreListable-empty}
use Rattle.replica_store.proofs.summary.Summary.empty.Goals as goal

pub invariant_of-result : goal.invariant_of-result
invariant_of-result c = subst AreListable (sym c.new.ensures) AreListable-empty
