-- A word's number is 0 where its marked rows at the places so far repeat.
use Rattle.std.proofs.Common.{◌≡◌, ◌↔◌, ℕ, ◌<◌, length, slice_index}
use Rattle.segment_core.specs.Repeats.{RepeatsAt}
use Rattle.segment_core.proofs.repeats.repeat_at_places.Given as goal

abbrev pub invariant-loop-place : goal.invariant-loop-place
invariant-loop-place l = record {
  long : length l.breaks ≡ 16;
  each : (j : ℕ) → j < 16 → (slice_index l.breaks j ≡ 0) ↔ ((place : ℕ) → 0 < place → place < l.place → RepeatsAt l.words l.numbers place j);
}
