-- As many columns as the counter says.
use Rattle.std.proofs.Common.{◌≡◌, length}
use Rattle.query_eval.proofs.grouping.key_columns.make_columns.Given as goal

abbrev pub invariant-loop : goal.invariant-loop
invariant-loop l = length l.columns.items ≡ l.counter
