use Rattle.std.proofs.Common.{length, ◌-◌, ◌≤◌, ◌≡◌, ◌⊎◌, ℕ, List, map, take}
use Rattle.std.specs.String.{string_bytes}
use Rattle.folder_model.specs.Disk.{Among}
use Rattle.folder_model.specs.Parts.{Parts}
use Rattle.folder_model.specs.Turn.{listing_of}
use Rattle.folder_protocol.specs.Goes.{GoesInTurn}
use Rattle.folder_protocol.specs.Linking.{GoesPlainly}
use Rattle.folder_protocol.specs.Taking.{IsTaken, AreReadSince}
use Rattle.folder_protocol.proofs.taking.take_each.Given as goal

-- what was taken so far
abbrev pub invariant-loop-at : goal.invariant-loop-at
invariant-loop-at g l =
    let history = g.F.Folder.history in
    let T = g.T.Taker in
    record {
      plain : GoesPlainly (history l.fn.folder) (history l.folder);
      within : l.at ≤ length l.names;
      goes : (parts : Parts) → GoesInTurn parts (history l.fn.folder) (history l.folder);
      named : T.name_of l.taker ≡ T.name_of l.fn.taker;
      passing : (name : List ℕ) → T.passes l.taker name → T.passes l.fn.taker name;
      listing : listing_of (history l.folder) ≡ listing_of (history l.fn.folder);
      each : (parts : Parts) → parts.name_of ≡ T.name_of l.fn.taker → (name : List ℕ) → Among name (take l.at (map string_bytes l.names)) → T.passes l.fn.taker name ⊎ IsTaken parts (history l.folder) (T.taken l.taker) name;
      only : (parts : Parts) → parts.name_of ≡ T.name_of l.fn.taker → AreReadSince parts (T.taken l.fn.taker) (T.taken l.taker) (history l.folder);
    }

abbrev pub decreases-loop-at : goal.decreases-loop-at
decreases-loop-at g l = length l.names - l.at
