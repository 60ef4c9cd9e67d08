-- Those before this one that are wanted were read.
use Rattle.std.proofs.Common.{◌≡◌, ◌≤◌, ℕ, List, [], map, take, string_bytes}
use Rattle.std.specs.Prelude.{filter}
use Rattle.folder_model.specs.Turn.{listing_of}
use Rattle.folder_protocol.specs.Goes.{GoesInTurn}
use Rattle.folder_protocol.specs.Linking.{GoesPlainly}
use Rattle.folder_protocol.specs.Sweeping.{RemovesOnly}
use Rattle.folder_parts.specs.Covers.{folder_parts}
use Rattle.folder_commands.specs.ReadParts.{AreReadSoFar}
use Rattle.folder_commands.specs.Wanted.{is_wanted}
use Rattle.folder_commands.proofs.gathering.gather_each.Given as goal

abbrev pub invariant-loop-index : goal.invariant-loop-index
invariant-loop-index g l =
    let history = g.F.Folder.history in
    let made_of = g.G.Gathers.made_of l.way in
    record {
      plain : GoesPlainly (history l.fn.folder) (history l.folder);
      unremoved : RemovesOnly (λ (name : List ℕ). ⊥) (history l.fn.folder) (history l.folder);
      goes : GoesInTurn folder_parts (history l.fn.folder) (history l.folder);
      listing : listing_of (history l.folder) ≡ listing_of (history l.fn.folder);
      few : l.count ≤ l.index;
      read : made_of l.fn.start [] → AreReadSoFar (made_of l.made) l.count (filter (is_wanted (map string_bytes l.passed)) (take l.index (map string_bytes l.listed))) (history l.fn.folder) (history l.folder);
    }
