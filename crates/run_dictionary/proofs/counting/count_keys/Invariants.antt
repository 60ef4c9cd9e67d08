-- the keys so far are marked and counted, and no more than the limit
use Rattle.std.proofs.Common.{◌≤◌}
use Rattle.run_dictionary.proofs.KeyLemmas.{KeysCounted}
use Rattle.run_dictionary.proofs.counting.count_keys.Given as goal

abbrev pub invariant-loop-value : goal.invariant-loop-value
invariant-loop-value l = record {
  keys : KeysCounted l.values l.marks.words l.count l.value-index;
  within : l.count ≤ l.limit;
}
