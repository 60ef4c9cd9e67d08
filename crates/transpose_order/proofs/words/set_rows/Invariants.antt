-- the words before j are written, the others are as they were
use Rattle.std.proofs.Common.{◌≡◌, ◌==◌, ◌-◌, ◌*◌, ◌^◌, ℕ, ◌<◌, ◌≤◌, ◌&&◌, min, nat_le, nat_lt, if◌then◌else◌, slice_index_or, length}
use Rattle.std.specs.Int.{bit_at}
use Rattle.transpose_order.proofs.words.set_rows.Given as goal

abbrev pub invariant-loop-j : goal.invariant-loop-j
invariant-loop-j l = record {
  count : length l.words ≡ 16;
  fit : (k : ℕ) → slice_index_or l.words k 0 < 2 ^ 64;
  written : (k p : ℕ) → k < l.j → p < 64 → (bit_at (slice_index_or l.words k 0) p == 1) ≡ (if nat_le (min (l.first - 64 * k) 64) p && nat_lt p (min (l.end - 64 * k) 64) then l.value else (bit_at (slice_index_or l.fn.words k 0) p == 1));
  others : (k : ℕ) → l.j ≤ k → slice_index_or l.words k 0 ≡ slice_index_or l.fn.words k 0;
}
