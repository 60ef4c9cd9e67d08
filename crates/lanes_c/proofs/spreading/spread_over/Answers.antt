-- The files of the shares, and where each ends.
use Rattle.std.specs.Prelude.{length}
use Rattle.std.proofs.Common.{refl}
use Rattle.lanes_c.proofs.SpreadGivings.{no_shares, shares_given}
use Rattle.lanes_c.proofs.spreading.spread_over.Goals as goal

pub returns : goal.returns
returns c =
    shares_given c.in_ok-runs.runs c.args.store.now.replica (length c.args.ends.now) c.in_ok-files.files.bytes.items c.in_ok-files.files.ends.items c.as_slice.result.now c.args.ends.now c.fill.new.room refl c.in_ok-runs.ensures.few
    c.in_ok-runs.ensures.full c.in_ok-files.ensures.files c.as_slice.ensures.value c.fill.ensures

pub returns-then-shares-eq0 : goal.returns-then-shares-eq0
returns-then-shares-eq0 c = no_shares c.args.store.now.replica c.new.result.items c.args.ends.now c.new.ensures.items c.if-shares-eq0.true
