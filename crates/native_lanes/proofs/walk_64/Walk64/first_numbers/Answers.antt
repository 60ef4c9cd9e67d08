-- The first step is taken from what the lanes start with.
use Rattle.std.proofs.Common.{ap, ◌∙◌}
use Rattle.native_lanes.specs.Walks.{Walk, number_before}
use Rattle.native_lanes.proofs.WalkLemmas.{number_before-zero}
use Rattle.native_lanes.proofs.walk_64.Walk64.first_numbers.Goals as goal

pub go-requires-clause-before : goal.go-requires-clause-before
go-requires-clause-before c lane h =
    let inside = c.self.inside in
    number_before-zero (record { lane_width = 64; width = inside.width; words = inside.words.now; carried = inside.carried; starts = inside.starts; added = inside.added }) lane
    ∙ ap (λ (w : Walk). number_before w lane 0) c.self.view_is
