-- The columns that are left are fewer each time.
use Rattle.std.proofs.Common.{length}
use Rattle.refusal_sentences.proofs.table_fault.+named_twice.Given as goal

abbrev pub decreases-named_twice : goal.decreases-named_twice
decreases-named_twice l = length l.columns.now
