-- The calls told come after those before.
use Rattle.std.proofs.Common.{◌≡◌, ℕ, true, List, Result}
use Rattle.std.specs.declared.io.Error.{Error}
use Rattle.folder_model.specs.Call.{Call, can_settle}
use Rattle.folder_model.specs.Turn.{InTurn}
use Rattle.folder_turns.specs.Calls.{call_asked}
use Rattle.folder_turns.specs.Orders.{EndSays, MayTake, matter_of}
use Rattle.folder_turns.specs.Asking.{HasRunAstray}
use Rattle.folder_turns.specs.declared.order.End.{End}
use Rattle.folder_turns.proofs.Runs.{holds_after}
use Rattle.folder_turns.proofs.Steps.{asks_more, ends_more}
use Rattle.folder_turns.proofs.Straying.{strays_so}
use Rattle.folder_turns.proofs.turn.Turn.step.Goals as goal

pub returns-clause-in_turn : goal.returns-clause-in_turn
returns-clause-in_turn g c = let turn = c.args.self.now in asks_more c.next.result _ _ c.next.ensures.in_turn (λ request asked parts all may.
    holds_after (λ (whole : List ℕ) (calls : List Call). InTurn parts calls (call_asked whole request))
    c.as_slice.result.now turn.order.bytes.items c.as_slice-2.result.now turn.told.items g.before c.as_slice.ensures.value c.as_slice-2.ensures.value (asked parts may.0 all may))

pub returns-clause-ends : goal.returns-clause-ends
returns-clause-ends g c = let turn = c.args.self.now in ends_more c.next.result _ _ c.next.ensures.ends (λ end said parts may.
    holds_after (λ (whole : List ℕ) (calls : List Call). EndSays turn.order.task (matter_of turn.order) end parts g.before calls)
    c.as_slice.result.now turn.order.bytes.items c.as_slice-2.result.now turn.told.items g.before c.as_slice.ensures.value c.as_slice-2.ensures.value (said parts may.0 may))

pub returns-clause-strays : goal.returns-clause-strays
returns-clause-strays g c = let turn = c.args.self.now in
    strays_so c.next.result (can_settle g.before ≡ true) _ _
    (holds_after (λ (whole : List ℕ) (calls : List Call). HasRunAstray {T = Result End Error} (MayTake turn.order.task (matter_of turn.order)) (EndSays turn.order.task (matter_of turn.order)) whole g.before calls)
    c.as_slice.result.now turn.order.bytes.items c.as_slice-2.result.now turn.told.items g.before c.as_slice.ensures.value c.as_slice-2.ensures.value)
    c.next.ensures.strays
