-- The numbers so far, and no null from there on.
use Rattle.std.proofs.Common.{◌≡◌, length}
use Rattle.query_eval.proofs.NumberLemmas.{NoneFrom, NumbersBelow}
use Rattle.query_eval.proofs.answers.group_numbers.Numbers.at.Given as goal

abbrev pub invariant-loop-row : goal.invariant-loop-row
invariant-loop-row l = record {
  long : length l.values ≡ 1024;
  done : NumbersBelow l.groups l.place l.row l.nulls l.values;
  clear : NoneFrom l.row l.nulls;
}
