-- A turn has ended as its order.
use Rattle.std.proofs.Common.{◌≡◌, inl, None}
use Rattle.folder_turns.specs.Turns.{EndsSaying, state_of}
use Rattle.lanes_c.proofs.TurnEnds.{has_ended, said_of}
use Rattle.lanes_c.proofs.turn_calls.go_on.Goals as goal

pub returns-in-Some-clause-goes : goal.returns-in-Some-clause-goes
returns-in-Some-clause-goes g c = let state = state_of c.go_on.new.self in
    inl (has_ended g.before state c.plain.result.call c.in-Some.end c.in_ok-number.number c.plain.ensures.0 c.plain.ensures.1
    (said_of (λ end. state.asked ≡ None) c.in_ok-end.field-0 c.in-Some.end c.in-Some.is c.in_ok-end.ensures.over)
    c.in_ok-number.ensures
    (said_of (λ end. EndsSaying g.before state end) c.in_ok-end.field-0 c.in-Some.end c.in-Some.is c.in_ok-end.ensures.ends))
