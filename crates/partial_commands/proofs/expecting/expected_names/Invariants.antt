-- The names are those of the summaries so far.
use Rattle.std.proofs.Common.{◌≡◌, take}
use Rattle.std.specs.FinSet as set
use Rattle.table_model.specs.declared.names.BatchName.{BatchName}
use Rattle.partial_commands.specs.Expecting.{is_expected}
use Rattle.partial_commands.proofs.expecting.expected_names.Given as goal

abbrev pub invariant-loop-summary : goal.invariant-loop-summary
invariant-loop-summary l = (q : BatchName) → set.contains l.names q ≡ is_expected (take l.summary-index l.summaries) q
