-- The places so far and those of the names that are left are those of all names.
use Rattle.std.proofs.Common.{◌≡◌, ◌<◌, ◌+◌, map, drop, take, length, sum_by}
use Rattle.std.specs.List.{All}
use Rattle.live_columns.specs.Names.{places_from}
use Rattle.live_columns.proofs.NameSteps.{onto, part_room}
use Rattle.live_columns.proofs.names.places_of.Given as goal

abbrev pub invariant-loop-part : goal.invariant-loop-part
invariant-loop-part l =
    record {
      at : l.at ≡ sum_by (λ part. length part.now + 1) (take l.part-index l.parts);
      within : All (λ place. place < length l.columns) l.places.items;
      places : onto l.places.items (places_from l.columns l.at (drop l.part-index (map (λ part. part.now) l.parts))) ≡ places_from l.columns 0 (map (λ part. part.now) l.parts);
    }
