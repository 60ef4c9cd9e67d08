-- Each row has a lane and a step, and its number has 16 bits.
use Rattle.std.proofs.Common.{◌≡◌, ◌==◌, ℕ, ◌+◌, ◌-◌, ◌%◌, ◌^◌, ◌<◌, ◌≤◌, ◌&&◌, nat_le, inl, inr, refl, slice_index, ap, ◌∙◌, arith}
use Rattle.std.specs.Int.{bit_at}
use Rattle.std.proofs.Math.Pow.{pow_mono}
use Rattle.transpose_order.specs.Place.{lane_of, step_of}
use Rattle.transpose_order.specs.MaskWords.{rows_of-like}
use Rattle.transpose_order.proofs.PlaceLemmas.{row_at-lane_of}
use Rattle.bit_interleave.specs.Packing.{packed_value}
use Rattle.bit_interleave.proofs.StepLemmas.{packed_value-below}
use Rattle.native_lanes.proofs.NativeLemmas.{shifted}
use Rattle.native_lanes.proofs.native_16.rows_between_16.Goals as goal

pub returns : goal.returns
returns c =
    let number : ℕ → ℕ = λ n. packed_value 16 c.args.width c.args.words.now (lane_of 16 n) (step_of 16 n) in
    c.mask_of_lanes.ensures
    ∙ rows_of-like (λ n. bit_at (slice_index c.packed_marks-found.result (lane_of 16 n)) (step_of 16 n) == 1) (λ n. nat_le c.args.first (number n) && nat_le (number n) c.args.last)
    (λ n h.
    let place = row_at-lane_of 16 n (inr (inl refl)) h in
    let none : 0 + (2 ^ 16 - c.args.first) ≡ 2 ^ 16 - c.args.first = omega arith in
    let bound : 2 ^ c.args.width ≤ 2 ^ 16 = pow_mono c.requires.width in
    let fits : number n < 2 ^ 16 = omega (arith, packed_value-below 16 c.args.width c.args.words.now (lane_of 16 n) (step_of 16 n), bound) in
    c.packed_marks-found.ensures (lane_of 16 n) (step_of 16 n) place.0 place.1
    ∙ ap (λ (o : ℕ). nat_le ((number n + o % 2 ^ 16) % 2 ^ 16) (c.args.last - c.args.first)) none
    ∙ shifted (2 ^ 16) (number n) c.args.first c.args.last fits c.ranges.last.fits c.requires.order)
