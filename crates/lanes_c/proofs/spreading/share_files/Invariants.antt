-- The files of the shares before this one are there.
use Rattle.lanes_c.specs.Spreading.{AreJoined, share_files}
use Rattle.lanes_c.proofs.spreading.share_files.Given as goal

abbrev pub invariant-loop-index : goal.invariant-loop-index
invariant-loop-index l = AreJoined (share_files l.runs l.store.replica l.index) l.files.bytes.items l.files.ends.items
