-- The parts are as long as the list.
use Rattle.std.proofs.Common.{◌==◌, ◌+◌, ◌<◌, ℕ, List, length, map, sum_by, ◌∙◌, ap, arith}
use Rattle.live_columns.specs.Names.{parts_of}
use Rattle.live_columns.proofs.NameSteps.{part_room, parts-borrowed, parts-room}
use Rattle.live_columns.proofs.names.places_named.Goals as goal

pub places_of-requires : goal.places_of-requires
places_of-requires c =
    let text : List ℕ = c.args.names.now in
    omega (
      arith,
      parts-borrowed c.as_slice.result.now,
      ap (λ l. sum_by part_room l) (ap (λ l. map (λ p. p.now) l) c.as_slice.ensures.value ∙ c.in_ok-parts.ensures),
      parts-room (λ byte. byte == c.args.separator) text,
      c.ranges,
    )
