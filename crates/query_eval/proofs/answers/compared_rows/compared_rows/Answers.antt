-- Each comparison by which number is below the other.
use Rattle.table_model.specs.declared.op.Op.TheVariants.{Equal, NotEqual, Less, LessOrEqual, Greater, GreaterOrEqual}
use Rattle.query_eval.proofs.NumberLemmas.{rows_at_least, rows_at_most, rows_by, rows_differ, rows_equal}
use Rattle.query_eval.proofs.answers.compared_rows.compared_rows.Goals as goal

pub returns-in-Equal : goal.returns-in-Equal
returns-in-Equal c =
    rows_by c.args.op Equal c.args.left.now c.args.right.now c.not.result c.in-Equal.is
    (rows_equal c.args.left.now c.args.right.now c.less_rows-low.result c.less_rows-high.result c.or.result c.less_rows-low.ensures c.less_rows-high.ensures c.or.ensures c.not.result c.not.ensures)

pub returns-in-NotEqual : goal.returns-in-NotEqual
returns-in-NotEqual c =
    rows_by c.args.op NotEqual c.args.left.now c.args.right.now c.or-in-NotEqual.result c.in-NotEqual.is
    (rows_differ c.args.left.now c.args.right.now c.less_rows-low.result c.less_rows-high.result c.or-in-NotEqual.result c.less_rows-low.ensures c.less_rows-high.ensures c.or-in-NotEqual.ensures)

pub returns-in-Less : goal.returns-in-Less
returns-in-Less c = rows_by c.args.op Less c.args.left.now c.args.right.now c.less_rows-low.result c.in-Less.is c.less_rows-low.ensures

pub returns-in-LessOrEqual : goal.returns-in-LessOrEqual
returns-in-LessOrEqual c =
    rows_by c.args.op LessOrEqual c.args.left.now c.args.right.now c.not-in-LessOrEqual.result c.in-LessOrEqual.is
    (rows_at_most c.args.left.now c.args.right.now c.less_rows-high.result c.not-in-LessOrEqual.result c.less_rows-high.ensures c.not-in-LessOrEqual.ensures)

pub returns-in-Greater : goal.returns-in-Greater
returns-in-Greater c = rows_by c.args.op Greater c.args.left.now c.args.right.now c.less_rows-high.result c.in-Greater.is c.less_rows-high.ensures

pub returns-in-GreaterOrEqual : goal.returns-in-GreaterOrEqual
returns-in-GreaterOrEqual c =
    rows_by c.args.op GreaterOrEqual c.args.left.now c.args.right.now c.not-in-GreaterOrEqual.result c.in-GreaterOrEqual.is
    (rows_at_least c.args.left.now c.args.right.now c.less_rows-low.result c.not-in-GreaterOrEqual.result c.less_rows-low.ensures c.not-in-GreaterOrEqual.ensures)
