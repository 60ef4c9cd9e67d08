-- A read is noted as it was told.
use Rattle.folder_turns.proofs.Finding.{notes_read}
use Rattle.folder_turns.proofs.replay.ReplayFolder.read_whole.Goals as goal

pub returns : goal.returns
returns g c = notes_read c.follow.result c.found.result c.args.name.now _ _ c.found.ensures c.follow.ensures
