-- One bit is set.
use Rattle.std.proofs.Common.{arith}
use Rattle.run_dictionary.proofs.KeyLemmas.{truth_at-marked}
use Rattle.run_dictionary.proofs.counting.Marks.mark.Goals as goal

pub returns-clause-marked : goal.returns-clause-marked
returns-clause-marked c = λ n. truth_at-marked c.args.self.now.words c.args.number n (omega arith)
