use Rattle.std.proofs.Common.{option_map}
use Rattle.script_lines.specs.Line.{words_left}
use Rattle.script_lines.proofs.ColumnLaws.{column_none, column_bad_name, column_bad_type, column_good}
use Rattle.script_lines.proofs.columns.column.Goals as goal

pub returns-in_err-name-clause-column : goal.returns-in_err-name-clause-column
returns-in_err-name-clause-column c = rw c.from_residual.ensures (column_none c.args.words.now c.in_err-name.ensures.parts)

pub returns-in_err-name-2-clause-column : goal.returns-in_err-name-2-clause-column
returns-in_err-name-2-clause-column c =
    rw c.from_residual-in_err-name-2.ensures (column_bad_name c.args.words.now c.in_ok-name.name.now c.in_ok-name.after.now c.first_word.result.0.now (words_left (option_map (λ rest. rest.now) c.first_word.result.1)) c.in_ok-name.ensures.parts c.first_word.ensures.words c.in_err-name-2.ensures)

pub returns-in_err-column_type-clause-column : goal.returns-in_err-column_type-clause-column
returns-in_err-column_type-clause-column c =
    rw c.from_residual-in_err-column_type.ensures (column_bad_type c.args.words.now c.in_ok-name.name.now c.in_ok-name.after.now c.first_word.result.0.now (words_left (option_map (λ rest. rest.now) c.first_word.result.1)) c.in_ok-name.ensures.parts c.first_word.ensures.words c.in_err-column_type.ensures)

pub returns-clause-column : goal.returns-clause-column
returns-clause-column c =
    column_good c.args.words.now c.in_ok-name.name.now c.in_ok-name.after.now c.first_word.result.0.now (words_left (option_map (λ rest. rest.now) c.first_word.result.1)) c.in_ok-name-2.name.now c.in_ok-column_type.column_type c.in_ok-name.ensures.parts c.first_word.ensures.words c.in_ok-name-2.ensures c.in_ok-column_type.ensures
