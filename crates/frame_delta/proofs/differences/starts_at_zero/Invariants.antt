-- The first rows of the places so far hold 0.
use Rattle.std.proofs.Common.{◌≡◌, ℕ, ◌%◌, ◌<◌, false}
use Rattle.bit_interleave.specs.Places.{by_place}
use Rattle.frame_delta.specs.Delta.{is_later}
use Rattle.frame_delta.proofs.differences.starts_at_zero.Given as goal

abbrev pub invariant-loop-place : goal.invariant-loop-place
invariant-loop-place l =
    (n : ℕ) → n < 1024 → n % 64 < l.place → is_later l.lane_width n ≡ false → by_place l.numbers n ≡ 0
