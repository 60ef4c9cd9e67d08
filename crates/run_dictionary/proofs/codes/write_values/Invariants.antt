-- the values of the rows so far are written
use Rattle.std.proofs.Common.{◌≡◌, ℕ, ◌<◌, slice_index, slice_index_or, length, pos}
use Rattle.bit_interleave.specs.Range.{value_at}
use Rattle.run_dictionary.proofs.codes.write_values.Given as goal

abbrev pub invariant-loop-row : goal.invariant-loop-row
invariant-loop-row l = (length l.into ≡ 1024) × ((n : ℕ) → n < l.row → slice_index_or l.into n (pos 0) ≡ value_at l.dictionary (slice_index l.codes n))
