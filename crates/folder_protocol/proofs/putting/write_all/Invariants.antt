use Rattle.std.proofs.Common.{length, ◌-◌, ◌≤◌, ◌≡◌, take, [], ℕ, List}
use Rattle.folder_model.specs.Parts.{Parts}
use Rattle.folder_model.specs.Turn.{Filled, stage_of}
use Rattle.folder_protocol.specs.Goes.{GoesInTurn}
use Rattle.folder_protocol.specs.Linking.{GoesPlainly}
use Rattle.folder_protocol.specs.Sweeping.{RemovesOnly}
use Rattle.folder_protocol.proofs.Causing.{Follows}
use Rattle.folder_protocol.proofs.putting.write_all.Given as goal

-- what was written so far
abbrev pub invariant-loop-done : goal.invariant-loop-done
invariant-loop-done g l =
    let history = g.F.Folder.history in
    record {
      follows : Follows (history l.fn.folder) (history l.folder);
      plain : GoesPlainly (history l.fn.folder) (history l.folder);
      unremoved : RemovesOnly (λ name. ⊥) (history l.fn.folder) (history l.folder);
      within : l.done ≤ length l.bytes;
      told : (parts : Parts) (temporary : List ℕ) → stage_of parts (history l.fn.folder) ≡ Filled temporary [] → GoesInTurn parts (history l.fn.folder) (history l.folder) × (stage_of parts (history l.folder) ≡ Filled temporary (take l.done l.bytes));
    }

abbrev pub decreases-loop-done : goal.decreases-loop-done
decreases-loop-done g l = length l.bytes - l.done
