-- A turn has gone on, and what it gives is handed out.
use Rattle.std.proofs.Common.{ap, sym, ◌∙◌, Ok, Err}
use Rattle.lanes_c.specs.declared.fault.Fault.TheVariants.{NotOpen}
use Rattle.lanes_c.specs.declared.turn_handle.FolderTurn.{FolderTurn}
use Rattle.folder_turns.specs.Turns.{state_of}
use Rattle.folder_turns.specs.declared.turn.Turn.{Turn}
use Rattle.std.proofs.Common.{Some}
use Rattle.lanes_c.proofs.TurnSteps.{not_open, driven_open}
use Rattle.lanes_c.proofs.turn_calls.lanes_folder_next.Goals as goal

pub returns-in_default : goal.returns-in_default
returns-in_default g c = record {
  given = Err NotOpen;
  meant = not_open g.before c.args.answer c.args.number c.args.bytes.now c.args.turn.now c.replace.new.dest c.args.call.now
      (ap (λ (t : FolderTurn). t.state) (sym c.replace.ensures.value) ∙ c.in_default.ensures)
      (ap (λ (t : FolderTurn). t.state) c.replace.ensures.after ∙ c.closed.ensures);
  number = c.hand_out.ensures.number;
  room = c.hand_out.ensures.room;
  length = c.hand_out.ensures.length;
  place = c.hand_out.ensures.place;
}

pub returns-in-Ok : goal.returns-in-Ok
returns-in-Ok g c = record {
  given = Ok c.in-Ok.field-0.names.items;
  meant = driven_open g.before c.args.answer c.args.number c.args.bytes.now c.args.turn.now c.replace-2.new.dest c.in-Ok.field-0.call
      (state_of c.deref_mut.result.now) (state_of c.drive-driven.new.turn) (Ok c.in-Ok.field-0.names.items)
      (ap (λ (t : FolderTurn). t.state) (sym c.replace.ensures.value) ∙ c.in-Some.ensures ∙ ap (λ (t : Turn). Some (state_of t)) (sym c.deref_mut.ensures.value))
      (ap (λ (t : FolderTurn). t.state) c.replace-2.ensures.after ∙ c.of_box.ensures)
      c.in-Ok.ensures;
  number = c.hand_out-in-Ok.ensures.number;
  room = c.hand_out-in-Ok.ensures.room;
  length = c.hand_out-in-Ok.ensures.length;
  place = c.hand_out-in-Ok.ensures.place;
}

pub returns-in-Err : goal.returns-in-Err
returns-in-Err g c = record {
  given = Err c.in-Err.fault;
  meant = driven_open g.before c.args.answer c.args.number c.args.bytes.now c.args.turn.now c.replace-2.new.dest c.args.call.now
      (state_of c.deref_mut.result.now) (state_of c.drive-driven.new.turn) (Err c.in-Err.fault)
      (ap (λ (t : FolderTurn). t.state) (sym c.replace.ensures.value) ∙ c.in-Some.ensures ∙ ap (λ (t : Turn). Some (state_of t)) (sym c.deref_mut.ensures.value))
      (ap (λ (t : FolderTurn). t.state) c.replace-2.ensures.after ∙ c.of_box.ensures)
      (c.in-Err.ensures c.args.call.now);
  number = c.hand_out-in-Err.ensures.number;
  room = c.hand_out-in-Err.ensures.room;
  length = c.hand_out-in-Err.ensures.length;
  place = c.hand_out-in-Err.ensures.place;
}
