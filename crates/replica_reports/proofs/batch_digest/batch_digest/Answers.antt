-- The digest of the store that has the batch alone.
use Rattle.std.proofs.Common.{◌∙◌, ap}
use Rattle.replica_reports.specs.Digests.{held_digest}
use Rattle.replica_reports.proofs.BatchesAlone.{if_told}
use Rattle.replica_reports.proofs.batch_digest.batch_digest.Goals as goal

pub returns-clause-digest : goal.returns-clause-digest
returns-clause-digest c = if_told c.held_digest.result (λ digits is e there. is ∙ ap held_digest (c.in_ok-one.ensures.value e there)) c.held_digest.ensures.digest
