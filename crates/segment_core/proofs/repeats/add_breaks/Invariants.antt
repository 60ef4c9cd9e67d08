-- The words so far tell of this place too, and the others are as they were.
use Rattle.std.proofs.Common.{◌≡◌, ◌↔◌, ℕ, ◌<◌, ◌≤◌, length, slice_index}
use Rattle.segment_core.specs.Repeats.{RepeatsAt}
use Rattle.segment_core.proofs.repeats.add_breaks.Given as goal

abbrev pub invariant-loop-j : goal.invariant-loop-j
invariant-loop-j l = record {
  long : length l.breaks ≡ 16;
  each : (k : ℕ) → k < l.j → (slice_index l.breaks k ≡ 0) ↔ ((slice_index l.fn.breaks k ≡ 0) × RepeatsAt l.words l.numbers l.place k);
  others : (k : ℕ) → l.j ≤ k → slice_index l.breaks k ≡ slice_index l.fn.breaks k;
}
