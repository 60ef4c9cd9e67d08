-- the codes of the rows so far are written
use Rattle.std.proofs.Common.{◌≡◌, ℕ, ◌<◌, slice_index, length}
use Rattle.bit_interleave.specs.Range.{value_at}
use Rattle.run_dictionary.specs.Dict.{code_of}
use Rattle.run_dictionary.proofs.codes.write_codes.Given as goal

abbrev pub invariant-loop-row : goal.invariant-loop-row
invariant-loop-row l = record {
  long : length l.into ≡ 1024;
  written : (n : ℕ) → n < l.row → slice_index l.into n ≡ code_of l.dictionary (value_at l.values n);
}
