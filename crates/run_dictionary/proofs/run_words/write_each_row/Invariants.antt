-- the starts before the row are counted, and the rows before it are written
use Rattle.std.proofs.Common.{◌≡◌, ℕ, ◌<◌, slice_index_or, length, pos}
use Rattle.transpose_order.specs.Mask.{has, count_below}
use Rattle.run_dictionary.specs.Runs.{run_of}
use Rattle.run_dictionary.proofs.run_words.write_each_row.Given as goal

abbrev pub invariant-loop-row : goal.invariant-loop-row
invariant-loop-row l = record {
  long : length l.into ≡ 1024;
  run : l.run ≡ count_below (has l.starts) l.row;
  written : (n : ℕ) → n < l.row → slice_index_or l.into n (pos 0) ≡ slice_index_or l.runs (run_of l.starts n) (pos 0);
}
