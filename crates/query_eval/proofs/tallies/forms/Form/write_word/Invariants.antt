-- The first rows are written, and those before them stay.
use Rattle.std.proofs.Common.{◌≡◌, ◌==◌, ◌+◌, ◌<◌, ℕ, get_or, length, pos}
use Rattle.std.specs.Int.{bit_at}
use Rattle.query_eval.specs.Forms.{taken_form}
use Rattle.query_eval.proofs.tallies.forms.Form.write_word.Given as goal

abbrev pub invariant-loop-bit : goal.invariant-loop-bit
invariant-loop-bit l = record {
  long : length l.room ≡ 1024;
  before : (n : ℕ) → n < l.first → get_or l.room n (pos 0) ≡ get_or l.initial.room n (pos 0);
  value : (b : ℕ) → b < l.bit → get_or l.room (l.first + b) (pos 0) ≡ taken_form l.self (bit_at l.word b == 1) (get_or l.values (l.first + b) (pos 0));
}
