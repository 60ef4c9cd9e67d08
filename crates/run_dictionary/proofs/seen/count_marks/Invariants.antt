-- the marks so far are counted, and no more than the limit
use Rattle.std.proofs.Common.{◌≤◌}
use Rattle.run_dictionary.specs.Keys.{marks_of}
use Rattle.run_dictionary.proofs.DistinctLemmas.{MarksCounted}
use Rattle.run_dictionary.proofs.seen.count_marks.Given as goal

abbrev pub invariant-loop-number : goal.invariant-loop-number
invariant-loop-number l = record {
  marks : MarksCounted (marks_of l.numbers) l.marked l.count l.number-index;
  within : l.count ≤ l.limit;
}
