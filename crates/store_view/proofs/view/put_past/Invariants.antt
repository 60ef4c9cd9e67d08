-- the rows so far are written, the others are as they were
use Rattle.std.proofs.Common.{◌≡◌, ℕ, ◌<◌, ◌≤◌, length, get_or}
use Rattle.store_view.proofs.view.put_past.Given as goal

abbrev pub invariant-loop-row : goal.invariant-loop-row
invariant-loop-row l = record {
  long : length l.codes ≡ 1024;
  before : (n : ℕ) → n < l.covered → get_or l.codes n 0 ≡ get_or l.fn.codes n 0;
  written : (n : ℕ) → l.covered ≤ n → n < l.row → get_or l.codes n 0 ≡ l.code;
}
