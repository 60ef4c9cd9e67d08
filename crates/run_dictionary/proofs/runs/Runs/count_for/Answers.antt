-- The starts after row 0 are all but those of row 0.
use Rattle.std.proofs.Common.{suc, arith}
use Rattle.transpose_order.specs.Mask.{has}
use Rattle.transpose_order.proofs.MaskLemmas.{count_below-le}
use Rattle.run_dictionary.proofs.StepLemmas.{run_of-all}
use Rattle.run_dictionary.proofs.runs.Runs.count_for.Goals as goal

pub overflow_sub-result : goal.overflow_sub-result
overflow_sub-result c = omega (arith, run_of-all c.args.starts.now)

pub overflow_add-result : goal.overflow_add-result
overflow_add-result c = record { fits = omega (arith, count_below-le (has c.args.starts.now) 1024) }

pub returns-clause-runs : goal.returns-clause-runs
returns-clause-runs c = omega (arith, run_of-all c.args.starts.now)

pub returns-clause-many : goal.returns-clause-many
returns-clause-many c = omega (arith, run_of-all c.args.starts.now, count_below-le (λ i. has c.args.starts.now (suc i)) 1023)
