-- Of the other kinds there are no values.
use Rattle.std.specs.List.Sorted.{IsStrictlySortedBy}
use Rattle.partial_answers.proofs.Tallies.{set_of-none}
use Rattle.partial_answers.proofs.kept.Kept.values.Goals as goal

pub returns-in-Count-clause-value : goal.returns-in-Count-clause-value
returns-in-Count-clause-value c = rw c.in-Count.is set_of-none

pub returns-in-Count-clause-rising : goal.returns-in-Count-clause-rising
unfolding IsStrictlySortedBy
returns-in-Count-clause-rising c = tt

pub returns-in-Sum-clause-value : goal.returns-in-Sum-clause-value
returns-in-Sum-clause-value c = rw c.in-Sum.is set_of-none

pub returns-in-Sum-clause-rising : goal.returns-in-Sum-clause-rising
unfolding IsStrictlySortedBy
returns-in-Sum-clause-rising c = tt

pub returns-in-Least-clause-value : goal.returns-in-Least-clause-value
returns-in-Least-clause-value c = rw c.in-Least.is set_of-none

pub returns-in-Least-clause-rising : goal.returns-in-Least-clause-rising
unfolding IsStrictlySortedBy
returns-in-Least-clause-rising c = tt

pub returns-in-Greatest-clause-value : goal.returns-in-Greatest-clause-value
returns-in-Greatest-clause-value c = rw c.in-Greatest.is set_of-none

pub returns-in-Greatest-clause-rising : goal.returns-in-Greatest-clause-rising
unfolding IsStrictlySortedBy
returns-in-Greatest-clause-rising c = tt
