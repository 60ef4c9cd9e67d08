use Rattle.column_file.proofs.Comparisons.{nothing_came}
use Rattle.column_file.proofs.comparing.Comparison.new.Goals as goal

pub invariant_of-result : goal.invariant_of-result
invariant_of-result c = nothing_came c.args.expected.now
