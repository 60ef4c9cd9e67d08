use Rattle.std.proofs.Common.{◌∙◌}
use Rattle.lanes_main.specs.Script.{parts_in}
use Rattle.lanes_main.proofs.Feeds.{fed_line, fed_part}
use Rattle.lanes_main.proofs.session.Session.feed.Goals as goal

pub loop-piece-preserved : goal.loop-piece-preserved
loop-piece-preserved c = λ more.
    c.loop-piece.invariant more
    ∙ fed_line c.loop-piece.out.items c.end_line.new.out.items (parts_in c.loop-piece.self.cluster) (parts_in c.end_line.new.self.cluster) c.loop-piece.self.line c.end_line.new.self.line c.loop-piece.left.now c.in-Some.piece.now c.in-Some.after.now
    c.in-Some.ensures.parts c.in_ok-end_line.ensures.text c.in_ok-end_line.ensures.after c.in_ok-end_line.ensures.line more

pub returns-clause-ok : goal.returns-clause-ok
returns-clause-ok c = λ more.
    c.loop-piece.invariant more
    ∙ fed_part c.loop-piece.out.items (parts_in c.loop-piece.self.cluster) c.loop-piece.self.line c.loop-piece.left.now c.grow.new.self c.in_default.ensures.parts c.in_ok-grow.ensures more
