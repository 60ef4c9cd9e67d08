use Rattle.std.proofs.Common.{◌≡◌, length}
use Rattle.column_file.proofs.CanonicalWriting.{ChosenBelow}
use Rattle.column_file.proofs.canonical_writing.canonical_copies.Given as goal

abbrev pub invariant-loop-index : goal.invariant-loop-index
invariant-loop-index l = record {
  long : length l.made.items ≡ l.index;
  each_one : ChosenBelow l.entries l.made.items l.index;
}
