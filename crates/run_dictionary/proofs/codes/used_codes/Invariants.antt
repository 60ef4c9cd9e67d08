-- the codes of the rows so far are marked, and no other
use Rattle.std.proofs.Common.{◌≡◌, ℕ, ◌<◌, slice_index, slice_index_or, length, true, false}
use Rattle.run_dictionary.proofs.codes.used_codes.Given as goal

abbrev pub invariant-loop-row : goal.invariant-loop-row
invariant-loop-row l = record {
  long : length l.used ≡ 1024;
  used : (k : ℕ) → k < 1024 → slice_index_or l.used k false ≡ true → (n : ℕ) × (n < l.row) × (slice_index l.codes n ≡ k);
  unused : (n : ℕ) → n < l.row → slice_index_or l.used (slice_index l.codes n) false ≡ true;
}
