-- A row's lane is its word, and its step its place there.
use Rattle.std.proofs.Common.{◌≡◌, ◌==◌, ℕ, ◌/◌, ◌%◌, slice_index, ap, ◌∙◌, arith}
use Rattle.std.specs.Int.{bit_at}
use Rattle.transpose_order.specs.Mask.{truth_at}
use Rattle.transpose_order.specs.Place.{lane_of, step_of}
use Rattle.transpose_order.specs.MaskWords.{rows_of-like}
use Rattle.native_lanes.proofs.native_64.mask_of_lanes.Goals as goal

pub returns : goal.returns
returns c =
    let marks = c.args.marks.now in
    c.from_words.ensures
    ∙ rows_of-like (truth_at marks) (λ n. bit_at (slice_index marks (lane_of 64 n)) (step_of 64 n) == 1)
    (λ n h.
    let lane : n / 64 ≡ lane_of 64 n = omega arith in
    ap (λ (k : ℕ). bit_at (slice_index marks k) (n % 64) == 1) lane)
