-- the rows of the steps so far are written
use Rattle.std.proofs.Common.{◌≡◌, ℕ, ◌%◌, ◌<◌, length}
use Rattle.bit_interleave.specs.Range.{value_at}
use Rattle.run_dictionary.specs.Dict.{dict_value}
use Rattle.fused_kernels.proofs.code_values.decode_codes.Given as goal

abbrev pub invariant-loop-step : goal.invariant-loop-step
invariant-loop-step l = record {
  long : length l.rows ≡ 1024;
  written : (n : ℕ) → n < 1024 → n % 16 < l.step → value_at l.rows n ≡ dict_value l.form n;
}
