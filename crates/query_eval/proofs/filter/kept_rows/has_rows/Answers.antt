-- The first true row, or none.
use Rattle.std.proofs.Common.{arith}
use Rattle.std.proofs.lemmas.Bool.Decides.{nat_tests}
use Rattle.query_eval.proofs.KeptLemmas.{no_true, none_counted}
use Rattle.query_eval.proofs.filter.kept_rows.has_rows.Goals as goal

pub returns-clause-some : goal.returns-clause-some
returns-clause-some c = λ t none. grind (arith, c.next_true.ensures.here (grind (arith, nat_tests, t)), no_true c.args.mask.now c.next_true.result none)

pub returns-clause-none : goal.returns-clause-none
returns-clause-none c = λ f. none_counted c.args.mask.now (λ n l. c.next_true.ensures.none n (omega arith) (grind (arith, nat_tests, f, l, c.keeps_1024_rows.ensures)))
