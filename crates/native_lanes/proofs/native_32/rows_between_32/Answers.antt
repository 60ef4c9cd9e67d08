-- Each row has a lane and a step, and its number has 32 bits.
use Rattle.std.proofs.Common.{◌≡◌, ◌==◌, ℕ, ◌+◌, ◌-◌, ◌%◌, ◌^◌, ◌<◌, ◌≤◌, ◌&&◌, nat_le, inl, inr, refl, slice_index, ap, ◌∙◌, arith}
use Rattle.std.specs.Int.{bit_at}
use Rattle.std.proofs.Math.Pow.{pow_mono}
use Rattle.transpose_order.specs.Place.{lane_of, step_of}
use Rattle.transpose_order.specs.MaskWords.{rows_of-like}
use Rattle.transpose_order.proofs.PlaceLemmas.{row_at-lane_of}
use Rattle.bit_interleave.specs.Packing.{packed_value}
use Rattle.bit_interleave.proofs.StepLemmas.{packed_value-below}
use Rattle.native_lanes.proofs.NativeLemmas.{shifted}
use Rattle.native_lanes.proofs.native_32.rows_between_32.Goals as goal

pub returns : goal.returns
returns c =
    let number : ℕ → ℕ = λ n. packed_value 32 c.args.width c.args.words.now (lane_of 32 n) (step_of 32 n) in
    c.mask_of_lanes.ensures
    ∙ rows_of-like (λ n. bit_at (slice_index c.packed_marks-found.result (lane_of 32 n)) (step_of 32 n) == 1) (λ n. nat_le c.args.first (number n) && nat_le (number n) c.args.last)
    (λ n h.
    let place = row_at-lane_of 32 n (inr (inr (inl refl))) h in
    let none : 0 + (2 ^ 32 - c.args.first) ≡ 2 ^ 32 - c.args.first = omega arith in
    let bound : 2 ^ c.args.width ≤ 2 ^ 32 = pow_mono c.requires.width in
    let fits : number n < 2 ^ 32 = omega (arith, packed_value-below 32 c.args.width c.args.words.now (lane_of 32 n) (step_of 32 n), bound) in
    c.packed_marks-found.ensures (lane_of 32 n) (step_of 32 n) place.0 place.1
    ∙ ap (λ (o : ℕ). nat_le ((number n + o % 2 ^ 32) % 2 ^ 32) (c.args.last - c.args.first)) none
    ∙ shifted (2 ^ 32) (number n) c.args.first c.args.last fits c.ranges.last.fits c.requires.order)
