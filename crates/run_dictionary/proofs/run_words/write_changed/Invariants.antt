-- the values of the runs that begin before the row are written
use Rattle.std.proofs.Common.{◌≡◌, ◌≤◌, length, take}
use Rattle.bit_interleave.specs.Range.{value_at}
use Rattle.run_dictionary.specs.Runs.{changed_values}
use Rattle.run_dictionary.proofs.run_words.write_changed.Given as goal

abbrev pub invariant-loop-row : goal.invariant-loop-row
invariant-loop-row l = record { long : length l.into ≡ 1024; bound : l.count ≤ l.row; written : take l.count l.into ≡ changed_values (value_at l.values) l.row }
