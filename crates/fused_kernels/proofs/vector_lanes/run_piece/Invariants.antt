-- the values so far
use Rattle.std.proofs.Common.{◌≡◌, ℕ, ◌+◌, ◌*◌, ◌<◌, ◌≤◌, slice_index, pos, length, slice_index_or, FitsSigned}
use Rattle.std.specs.Int.{w64}
use Rattle.run_dictionary.specs.Runs.{run_of, run_value}
use Rattle.fused_kernels.proofs.vector_lanes.run_piece.Given as goal

abbrev pub invariant-loop-i : goal.invariant-loop-i
invariant-loop-i l = record {
  long : length l.values ≡ 16;
  long_runs : length l.runs ≡ 16;
  runs : (k : ℕ) → k < l.i → slice_index l.runs k ≡ run_of l.form.starts (64 * k + l.place);
  rest : (k : ℕ) → l.i ≤ k → slice_index l.runs k ≡ slice_index l.fn.runs k;
  done : (k : ℕ) → k < l.i → slice_index_or l.values k (pos 0) ≡ run_value l.form (64 * k + l.place);
  fits : (k : ℕ) → k < l.i → FitsSigned w64 (slice_index_or l.values k (pos 0));
}
