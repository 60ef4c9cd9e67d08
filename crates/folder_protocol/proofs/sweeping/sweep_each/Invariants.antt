-- Each temporary before this name was to be removed.
use Rattle.std.proofs.Common.{length, ◌-◌, ◌≡◌, true, ℕ, List, map, take}
use Rattle.std.specs.String.{string_bytes}
use Rattle.folder_model.specs.Disk.{Among}
use Rattle.folder_model.specs.Parts.{Parts, IsNoPart}
use Rattle.folder_model.specs.Turn.{Gave, listing_of}
use Rattle.folder_protocol.specs.Causes.{HasCall}
use Rattle.folder_protocol.specs.Goes.{GoesInTurn}
use Rattle.folder_protocol.specs.Linking.{GoesPlainly}
use Rattle.folder_protocol.specs.Sweeping.{Tries, RemovesTemporaries}
use Rattle.folder_protocol.specs.Temporary.{is_temporary}
use Rattle.folder_protocol.proofs.Causing.{Follows}
use Rattle.folder_protocol.proofs.sweeping.sweep_each.Given as goal

abbrev pub invariant-loop-at : goal.invariant-loop-at
invariant-loop-at g l =
    let history = g.F.Folder.history in
    record {
      plain : GoesPlainly (history l.fn.folder) (history l.folder);
      only : RemovesTemporaries (history l.fn.folder) (history l.folder);
      follows : Follows (history l.fn.folder) (history l.folder);
      goes : (parts : Parts) → ((name : List ℕ) → is_temporary name ≡ true → IsNoPart parts name) → GoesInTurn parts (history l.fn.folder) (history l.folder);
      listing : (listed : List (List ℕ)) → listing_of (history l.fn.folder) ≡ Gave listed → listing_of (history l.folder) ≡ Gave listed;
      swept : (name : List ℕ) → Among name (take l.at (map string_bytes l.names)) → is_temporary name ≡ true → HasCall (Tries name) (history l.fn.folder) (history l.folder);
    }

abbrev pub decreases-loop-at : goal.decreases-loop-at
decreases-loop-at g l = length l.names - l.at
