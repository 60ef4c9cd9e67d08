-- The first places.
use Rattle.std.proofs.Common.{◌≡◌, ◌<◌}
use Rattle.std.specs.List.{All, range_with_len}
use Rattle.live_columns.proofs.names.all_places.Given as goal

abbrev pub invariant-loop-place : goal.invariant-loop-place
invariant-loop-place l =
    record {
      places : l.places.items ≡ range_with_len 0 l.place;
      within : All (λ place. place < l.columns) l.places.items;
    }
