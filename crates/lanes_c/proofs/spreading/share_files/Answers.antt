-- One file after another.
use Rattle.lanes_c.proofs.SpreadGivings.{next_share}
use Rattle.lanes_c.proofs.spreading.share_files.Goals as goal

pub loop-index-preserved : goal.loop-index-preserved
loop-index-preserved c =
    next_share c.args.runs.now c.args.store.now.replica c.loop-index.index c.in_ok-file.file.items c.as_slice.result.now c.loop-index.files.bytes.items c.loop-index.files.ends.items
    c.push.new.self.bytes.items c.push.new.self.ends.items c.loop-index.invariant c.in_ok-file.ensures c.as_slice.ensures.value c.in_ok-push.ensures.bytes c.in_ok-push.ensures.ends
