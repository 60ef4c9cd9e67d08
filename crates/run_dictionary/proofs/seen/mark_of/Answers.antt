-- What is left of the sum is that of the wrapped one.
use Rattle.std.proofs.Common.{arith}
use Rattle.run_dictionary.specs.Keys.{mark_of}
use Rattle.run_dictionary.proofs.seen.mark_of.Goals as goal

pub returns-clause-value : goal.returns-clause-value
unfolding mark_of
returns-clause-value c = omega arith
