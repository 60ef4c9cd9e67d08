-- The bytes of the turn's part are handed over.
use Rattle.std.specs.Prelude.{ℕ, List, Option}
use Rattle.std.proofs.Common.{◌≡◌, refl, ap, sym, subst, ◌∙◌, None, Some, Ok, Err}
use Rattle.folder_turns.specs.Turns.{State, state_of}
use Rattle.folder_turns.specs.declared.turn.Turn.{Turn}
use Rattle.lanes_c.specs.PartsRead.{GivesPart}
use Rattle.lanes_c.specs.Rooms.{Given}
use Rattle.lanes_c.specs.declared.fault.Fault.TheVariants.{NotOpen}
use Rattle.lanes_c.specs.declared.turn_handle.FolderTurn.{FolderTurn}
use Rattle.lanes_c.proofs.parts_turns.lanes_folder_part.Goals as goal

pub returns-in_default-clause-part : goal.returns-in_default-clause-part
returns-in_default-clause-part c =
    let closed : c.args.turn.now.state ≡ None = ap (λ (t : FolderTurn). t.state) (sym c.replace.ensures.value) ∙ c.in_default.ensures in
    record {
      given = Err NotOpen;
      meant = subst (λ (o : Option State). GivesPart (Err NotOpen) o) (sym closed) refl;
      number = c.hand_out.ensures.number;
      room = c.hand_out.ensures.room;
      length = c.hand_out.ensures.length;
      place = c.hand_out.ensures.place;
    }

pub returns-clause-part : goal.returns-clause-part
returns-clause-part c =
    let held : c.args.turn.now.state ≡ Some (state_of c.deref.result.now) =
    ap (λ (t : FolderTurn). t.state) (sym c.replace.ensures.value) ∙ c.in-Some.ensures ∙ ap (λ (t : Turn). Some (state_of t)) (sym c.deref.ensures) in
    let given : List ℕ → Given = λ bytes. Ok bytes in
    record {
      given = Ok c.as_slice.result.now;
      meant = subst (λ (o : Option State). GivesPart (Ok c.as_slice.result.now) o) (sym held) (ap given c.as_slice.ensures.value);
      number = c.hand_over-number.ensures.number;
      room = c.hand_over-number.ensures.room;
      length = c.hand_over-number.ensures.length;
      place = c.hand_over-number.ensures.place;
    }
