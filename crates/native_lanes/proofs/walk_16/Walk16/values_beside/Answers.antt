-- Two values compare as their numbers do, and each row has a lane and a step.
use Rattle.std.proofs.Common.{◌≡◌, ◌==◌, ℕ, ◌^◌, inl, inr, refl, slice_index, ap, ◌∙◌}
use Rattle.std.specs.Int.{bit_at}
use Rattle.transpose_order.specs.Place.{lane_of, step_of}
use Rattle.transpose_order.specs.MaskWords.{rows_of-like}
use Rattle.transpose_order.proofs.PlaceLemmas.{row_at-lane_of}
use Rattle.native_lanes.specs.Pairs.{number_passes, value_passes}
use Rattle.native_lanes.specs.Walks.{number_at, number_of_row}
use Rattle.native_lanes.proofs.RaisedLemmas.{passes_raised}
use Rattle.native_lanes.proofs.WalkFoldLemmas.{row_in_lane}
use Rattle.native_lanes.proofs.walk_16.Walk16.values_beside.Goals as goal

pub returns : goal.returns
returns c = λ left right is_left is_right.
    let walk = c.args.self.now in
    let other = c.args.other.now in
    let asked = c.args.test in
    let width : walk.lane_width ≡ 16 = c.marks_beside.ensures.width in
    let other_width : other.lane_width ≡ 16 = c.marks_beside.ensures.other in
    c.mask_of_lanes.ensures
    ∙ rows_of-like (λ n. bit_at (slice_index c.marks_beside.result (lane_of 16 n)) (step_of 16 n) == 1) (λ n. value_passes asked (left n) (right n))
    (λ n h.
    let place = row_at-lane_of 16 n (inr (inl refl)) h in
    c.marks_beside.ensures.marks (lane_of 16 n) (step_of 16 n) place.0 place.1
    ∙ ap (λ (x : ℕ). number_passes asked x (number_at other (lane_of 16 n) (step_of 16 n))) (row_in_lane walk 16 n width)
    ∙ ap (λ (x : ℕ). number_passes asked (number_of_row walk n) x) (row_in_lane other 16 n other_width)
    ∙ passes_raised asked (number_of_row walk n) (number_of_row other n) (2 ^ 15) (left n) (right n) (is_left n h) (is_right n h))
