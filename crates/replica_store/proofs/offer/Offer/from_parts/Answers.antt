-- The batches are in order, so that the map's entries are the vector's.
use Rattle.replica_store.proofs.Maps.{entries-as_map}
use Rattle.replica_store.proofs.offer.Offer.from_parts.Goals as goal

pub returns-clause-entries : goal.returns-clause-entries
returns-clause-entries c = entries-as_map c.args.entries.items c.requires.sorted
