-- The front of the room holds each lane's base.
use Rattle.std.proofs.Common.{◌≡◌, ℕ, ◌/◌, ◌<◌, ◌≤◌, ℤ, ◌-ℤ◌, pos, List, length, take, of_z, to_z, sym, ap, subst, ◌∙◌, arith, IfOk}
use Rattle.std.specs.Int.{w64, int_wrap}
use Rattle.std.proofs.lemmas.Int.{to_z-of_z}
use Rattle.std.proofs.lemmas.List.{get_or-take, length-take-le}
use Rattle.std.proofs.lemmas.List.FromFn.{fill_by_all}
use Rattle.transpose_order.specs.Place.{row_at}
use Rattle.bit_interleave.specs.Arithmetic.{integer_width}
use Rattle.bit_interleave.specs.LaneValues.{LaneValues}
use Rattle.bit_interleave.specs.Range.{AreInRange, value_at}
use Rattle.frame_delta.specs.Delta.{bases_of}
use Rattle.frame_delta.proofs.DeltaLemmas.{bases_of_fit}
use Rattle.frame_delta.proofs.differences.bases_of.Goals as goal

front_is_bases : (t lane : ℕ) (r : ℤ) (values room : List ℤ) → length room ≡ 128 → 1024 / t ≤ lane → 1024 / t ≤ 128 → ((k : ℕ) → k < lane → value_at room k ≡ int_wrap (integer_width t) (value_at values (row_at t k 0) -ℤ r)) → take (1024 / t) room ≡ bases_of t r values
unfolding bases_of
front_is_bases t lane r values room long all few done =
    fill_by_all (λ k. int_wrap (integer_width t) (value_at values (row_at t k 0) -ℤ r)) (take (1024 / t) room) (1024 / t) (pos 0) (length-take-le (1024 / t) room (omega (arith, long, few)))
    (λ k h. get_or-take (1024 / t) room k (pos 0) h ∙ done k (omega (arith, h, all)))

pub from_slice-requires-clause-fit : goal.from_slice-requires-clause-fit
from_slice-requires-clause-fit c =
    let t = c.args.lane_width in
    let r = to_z w64 (of_z w64 c.args.least) in
    let values = c.args.values.now in
    subst (λ (xs : List ℤ). AreInRange t xs) (sym (front_is_bases t c.loop-lane.lane r values c.loop-lane.bases c.loop-lane.invariant.long (omega arith) (grind (arith, c.requires)) c.loop-lane.invariant.done)) (bases_of_fit t r values)

pub returns : goal.returns
returns c =
    let t = c.args.lane_width in
    let r = to_z w64 (of_z w64 c.args.least) in
    let values = c.args.values.now in
    let front = front_is_bases t c.loop-lane.lane r values c.loop-lane.bases c.loop-lane.invariant.long (omega arith) (grind (arith, c.requires)) c.loop-lane.invariant.done in
    let bases : take (1024 / t) c.loop-lane.bases ≡ bases_of t c.args.least values = front ∙ ap (λ (z : ℤ). bases_of t z values) (to_z-of_z w64 c.args.least c.ranges.least) in
    subst (λ (xs : List ℤ). IfOk c.from_slice.result (λ (v : LaneValues). v ≡ record { lane_width = t; values = xs })) bases c.from_slice.ensures
