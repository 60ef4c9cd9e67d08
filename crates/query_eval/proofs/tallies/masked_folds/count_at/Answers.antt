-- As many values as rows.
use Rattle.std.proofs.Common.{sym, ◌∙◌, arith}
use Rattle.query_eval.proofs.ColumnLemmas.{count-small}
use Rattle.query_eval.proofs.MaskedLemmas.{length-values_at}
use Rattle.query_eval.proofs.tallies.masked_folds.count_at.Goals as goal

pub returns-clause-value : goal.returns-clause-value
returns-clause-value c = λ values. c.count.ensures ∙ sym (length-values_at c.args.rows.now values c.keeps_1024_rows.ensures)

pub returns-clause-few : goal.returns-clause-few
returns-clause-few c = omega (arith, c.count.ensures, count-small c.args.rows.now c.keeps_1024_rows.ensures)
