-- The name was refused, and the turn is as it was.
use Rattle.std.proofs.Common.{ap, sym, ◌∙◌, Some}
use Rattle.folder_turns.specs.Turns.{State, state_of}
use Rattle.folder_turns.specs.declared.turn.Turn.{Turn}
use Rattle.lanes_c.specs.FolderTurns.{named}
use Rattle.lanes_c.specs.declared.turn_handle.FolderTurn.{FolderTurn}
use Rattle.lanes_c.proofs.FaultNumbers.{told_not_0}
use Rattle.lanes_c.proofs.TurnSteps.{not_added}
use Rattle.lanes_c.proofs.turn_calls.lanes_folder_name.Goals as goal

pub returns-in-Err : goal.returns-in-Err
returns-in-Err c =
    not_added (named c.args.name.now) c.number.result c.args.turn.now.state c.replace-2.new.dest.state (state_of c.deref_mut.result.now)
    (ap (λ (t : FolderTurn). t.state) (sym c.replace.ensures.value) ∙ c.in-Some.ensures ∙ ap (λ (t : Turn). Some (state_of t)) (sym c.deref_mut.ensures.value))
    (ap (λ (t : FolderTurn). t.state) c.replace-2.ensures.after ∙ c.of_box.ensures ∙ ap (λ (s : State). Some s) c.in-Err.ensures.kept)
    (told_not_0 c.in-Err.fault c.number.result c.number.ensures)
