use Rattle.std.proofs.Common.{length, ◌-◌, ◌≡◌, ℕ, List, map, take}
use Rattle.std.specs.String.{string_bytes}
use Rattle.folder_model.specs.Parts.{Parts}
use Rattle.folder_model.specs.Turn.{Guarded, stage_of}
use Rattle.folder_protocol.specs.Goes.{GoesInTurn, AreJoined, AreRemoved}
use Rattle.folder_protocol.specs.Linking.{GoesPlainly}
use Rattle.folder_protocol.specs.Removing.{RemovesOnce, IsReplaced}
use Rattle.folder_protocol.proofs.Causing.{Follows}
use Rattle.folder_protocol.proofs.removing.remove_each.Given as goal

-- what was removed so far
abbrev pub invariant-loop-at : goal.invariant-loop-at
invariant-loop-at g l =
    let history = g.F.Folder.history in
    record {
      follows : Follows (history l.fn.folder) (history l.folder);
      stays : (parts : Parts) → stage_of parts (history l.folder) ≡ stage_of parts (history l.fn.folder);
      plain : GoesPlainly (history l.fn.folder) (history l.folder);
      told : (parts : Parts) (packed : List ℕ) → stage_of parts (history l.fn.folder) ≡ Guarded packed → AreJoined parts packed (map string_bytes l.joined) (history l.fn.folder) → GoesInTurn parts (history l.fn.folder) (history l.folder) × (stage_of parts (history l.folder) ≡ Guarded packed);
      removes : (parts : Parts) (packed : List ℕ) → stage_of parts (history l.fn.folder) ≡ Guarded packed → RemovesOnce (IsReplaced parts packed (map string_bytes l.joined)) (history l.fn.folder) (history l.folder);
      gone : AreRemoved (take l.at (map string_bytes l.joined)) (history l.fn.folder) (history l.folder);
    }

abbrev pub decreases-loop-at : goal.decreases-loop-at
decreases-loop-at g l = length l.joined - l.at
