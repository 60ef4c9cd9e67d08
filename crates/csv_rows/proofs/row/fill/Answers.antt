-- A line has at most a field more than it has bytes.
use Rattle.std.proofs.Common.{◌∙◌, ◌+◌, ap, sym, drop, arith, option_map}
use Rattle.csv_rows.specs.Field.{fields_left}
use Rattle.csv_rows.proofs.Pieces.{few_pieces}
use Rattle.csv_rows.proofs.RowFacts.{filled_all}
use Rattle.csv_rows.proofs.row.fill.Goals as goal

pub overflow_add-result : goal.overflow_add-result
overflow_add-result c = omega (arith, c.loop-place.invariant.count, c.count_left.ensures, few_pieces c.args.dialect.now.separator c.args.line.now, c.requires.limit)

pub returns-in_default-clause-row : goal.returns-in_default-clause-row
returns-in_default-clause-row c =
    sym c.loop-place.invariant.row
    ∙ filled_all c.args.dialect.now c.args.columns.now (c.loop-place.fields + 1) (drop c.loop-place.place-index c.args.order.now) (fields_left c.args.dialect.now.separator (option_map (λ rest. rest.now) c.loop-place.rest)) c.loop-place.cells.items (ap (λ rest. fields_left c.args.dialect.now.separator (option_map (λ r. r.now) rest)) c.in_default.is)
