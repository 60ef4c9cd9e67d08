-- the rows before the row are written, and those before the first and from the end on stay
use Rattle.std.proofs.Common.{◌≡◌, ℕ, ◌<◌, ◌≤◌, slice_index_or, length, pos}
use Rattle.run_dictionary.proofs.run_words.fill_rows.Given as goal

abbrev pub invariant-loop-row : goal.invariant-loop-row
invariant-loop-row l = record {
  long : length l.into ≡ 1024;
  written : (n : ℕ) → l.first ≤ n → n < l.row → slice_index_or l.into n (pos 0) ≡ l.value;
  others : (n : ℕ) → n < l.first → slice_index_or l.into n (pos 0) ≡ slice_index_or l.fn.into n (pos 0);
  after : (n : ℕ) → l.end ≤ n → slice_index_or l.into n (pos 0) ≡ slice_index_or l.fn.into n (pos 0);
}
