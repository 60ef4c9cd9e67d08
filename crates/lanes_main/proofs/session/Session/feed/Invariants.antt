use Rattle.std.proofs.Common.{◌≡◌, ◌++◌, List, ℕ, length}
use Rattle.lanes_main.specs.Script.{parts_in, text_from}
use Rattle.lanes_main.proofs.session.Session.feed.Given as goal

abbrev pub invariant-loop-piece : goal.invariant-loop-piece
invariant-loop-piece l = (more : List ℕ) → l.initial.out.items ++ text_from (parts_in l.initial.self.cluster) l.initial.self.line (l.chunk ++ more) ≡ l.out.items ++ text_from (parts_in l.self.cluster) l.self.line (l.left ++ more)

abbrev pub decreases-loop-piece : goal.decreases-loop-piece
decreases-loop-piece l = length l.left
