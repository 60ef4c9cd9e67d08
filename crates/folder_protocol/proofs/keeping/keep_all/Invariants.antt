-- Each part before this one was read and synced, or is gone.
use Rattle.std.proofs.Common.{length, ◌-◌, ◌≤◌, ℕ, List, map, take}
use Rattle.std.specs.String.{string_bytes}
use Rattle.folder_model.specs.Disk.{Among}
use Rattle.folder_model.specs.Parts.{Parts}
use Rattle.folder_protocol.specs.Goes.{GoesInTurn}
use Rattle.folder_protocol.specs.Keeping.{IsSyncedOrGone, IsSyncedOrMissed}
use Rattle.folder_protocol.specs.Linking.{GoesPlainly}
use Rattle.folder_protocol.proofs.keeping.keep_all.Given as goal

abbrev pub invariant-loop-at : goal.invariant-loop-at
invariant-loop-at g l =
    let history = g.F.Folder.history in
    record {
      plain : GoesPlainly (history l.fn.folder) (history l.folder);
      within : l.at ≤ length l.names;
      goes : (parts : Parts) → GoesInTurn parts (history l.fn.folder) (history l.folder);
      relied : (parts : Parts) (name : List ℕ) → Among name (take l.at (map string_bytes l.names)) → IsSyncedOrMissed parts name (history l.fn.folder) (history l.folder);
      each : (parts : Parts) (name : List ℕ) → Among name (take l.at (map string_bytes l.names)) → IsSyncedOrGone parts name (history l.fn.folder) (history l.folder);
    }

abbrev pub decreases-loop-at : goal.decreases-loop-at
decreases-loop-at g l = length l.names - l.at
