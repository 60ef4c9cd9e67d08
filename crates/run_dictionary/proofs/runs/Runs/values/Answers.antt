-- There are at most 1024 runs.
use Rattle.std.proofs.Common.{length, ap, arith}
use Rattle.run_dictionary.proofs.StepLemmas.{run_of-bound}
use Rattle.run_dictionary.proofs.runs.Runs.values.Goals as goal

pub returns-clause-many : goal.returns-clause-many
returns-clause-many c = omega (arith, run_of-bound _ c.self.invariant, ap (λ form. length form.values) c.self.view_is)
