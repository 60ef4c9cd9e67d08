-- What is asked for ahead is in turn.
use Rattle.std.proofs.Common.{Option, subst}
use Rattle.std.specs.Prelude.{IfSome}
use Rattle.folder_turns.specs.Guarding.{IsAhead}
use Rattle.folder_turns.specs.declared.request.Request.{Request}
use Rattle.folder_turns.proofs.Guards.{ahead_asks}
use Rattle.folder_turns.proofs.turn.Turn.go_on.Goals as goal

pub returns-in-Some-clause-in_turn : goal.returns-in-Some-clause-in_turn
returns-in-Some-clause-in_turn g c = λ _.
    let turn = c.args.self.now in
    ahead_asks g.before c.in-Some.request turn turn.guard turn.is_guarded (subst (λ (o : Option Request). IfSome o (IsAhead turn.order turn.guard)) c.in-Some.is c.in_ok-ahead.ensures.ahead)
