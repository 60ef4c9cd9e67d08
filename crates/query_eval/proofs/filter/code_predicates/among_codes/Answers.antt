-- No literal, or those that the codes tell.
use Rattle.std.proofs.Common.{get_or, arith}
use Rattle.std.proofs.lemmas.Bool.Decides.{nat_tests}
use Rattle.table_model.specs.Answer.{whole}
use Rattle.query_eval.specs.Coded.{cell_of_code}
use Rattle.query_eval.proofs.CodeAmong.{pair_of_codes, pair_of_none}
use Rattle.query_eval.proofs.filter.code_predicates.among_codes.Goals as goal

pub returns-then-is_empty : goal.returns-then-is_empty
returns-then-is_empty c = pair_of_none c.args.mask.now (λ n. whole (cell_of_code c.args.count c.args.keys.now (get_or c.args.codes.now n 0))) c.args.literals.now c.everywhere.result (grind (arith, nat_tests, c.is_empty.ensures, c.if-is_empty.true)) c.everywhere.ensures

pub returns : goal.returns
returns c =
    pair_of_codes c.args.count c.args.keys.now c.args.codes.now c.args.mask.now c.coded_rows.result c.and_not-known.result c.rows_among-found.result _
    c.coded_rows.ensures c.and_not-known.ensures c.and.ensures c.and_not.ensures c.args.literals.now (λ h. grind (arith, nat_tests, h, c.is_empty.ensures, c.if-is_empty.false)) c.rows_among-found.ensures
