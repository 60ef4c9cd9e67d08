-- The rows are read in the dialect that is said; or none is said, or the rows are refused.
use Rattle.std.proofs.lemmas.Result.{err_from_is_err_and}
use Rattle.lanes_c.proofs.DialectSteps.{rows_read, rows_unread}
use Rattle.lanes_c.proofs.dialect_import.rows_loaded.Goals as goal

pub returns-in_err-dialect : goal.returns-in_err-dialect
returns-in_err-dialect c =
    let p = err_from_is_err_and c.from_residual.result c.from_residual.ensures.1 in
    rw (p.1, p.2) (rows_unread c.args.schema.now c.column_list.result.now (record { separator = c.args.separator; null_word = c.args.null_word.now; columns = c.args.columns.now; needs_ends = c.args.needs_ends }) c.in_err-dialect.field-0.0 c.args.csv.now c.args.has_heading c.column_list.ensures.list c.in_err-dialect.ensures)

pub returns : goal.returns
returns c =
    rows_read c.loaded_in.result c.args.schema.now c.column_list.result.now (record { separator = c.args.separator; null_word = c.args.null_word.now; columns = c.args.columns.now; needs_ends = c.args.needs_ends }) c.in_ok-dialect.dialect c.args.csv.now c.args.has_heading c.column_list.ensures.list c.in_ok-dialect.ensures c.loaded_in.ensures.load c.loaded_in.ensures.fault
