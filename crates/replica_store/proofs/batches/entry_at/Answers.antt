-- What is read at a place is the entry there.
use Rattle.std.specs.Prelude.{length}
use Rattle.std.proofs.Common.{refl}
use Rattle.std.proofs.lemmas.Option.{slice_get_read}
use Rattle.replica_store.proofs.batches.entry_at.Goals as goal

pub returns : goal.returns
returns c = slice_get_read c.args.entries.now (length c.args.entries.now) c.args.index c.index-entries-index.result refl c.requires c.index-entries-index.is
