-- What was read of one part is all there is.
use Rattle.folder_parts.proofs.EnoughOfParts.{opened_compared, same_enough}
use Rattle.folder_parts.proofs.skimming.Skim.new.Goals as goal

pub returns-clause-skimmed : goal.returns-clause-skimmed
returns-clause-skimmed c = λ r whole held.
    same_enough c.args.names.first c.args.names.count c.in_ok-part.part.store.replica c.in_ok-skim.skim.0 r c.in_ok-part.part.batches c.in_ok-skim.skim.1
    (c.in_ok-part.ensures.skimmed r whole held) c.in_ok-skim.ensures.value c.in_ok-skim.ensures.count

pub returns-clause-compared : goal.returns-clause-compared
returns-clause-compared c = opened_compared (record { name = c.args.name.now; bytes = c.args.bytes.now }) c.in_ok-part.part.store.replica c.in_ok-part.ensures.opened
