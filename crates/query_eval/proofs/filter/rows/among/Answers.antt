-- A null is unknown beside each literal, and a value is among them where it stands there.
use Rattle.std.proofs.Common.{arith, rules}
use Rattle.std.proofs.lemmas.Bool.Decides.{nat_tests}
use Rattle.query_eval.proofs.DecodedLemmas.{among_value, among_null}
use Rattle.query_eval.proofs.filter.rows.among.Goals as goal

pub returns-else-is_empty : goal.returns-else-is_empty
returns-else-is_empty c = among_null c.args.cell c.args.literals.now c.in-None.is (λ h. grind (arith, nat_tests, h, c.is_empty.ensures, c.if-is_empty.false))

pub returns-in-Some : goal.returns-in-Some
returns-in-Some c = let e = among_value c.args.cell c.in-Some.value c.args.literals.now c.in-Some.is in search (rules, e)
