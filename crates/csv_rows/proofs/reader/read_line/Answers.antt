use Rattle.std.proofs.Common.{◌+◌, arith, rules, subst}
use Rattle.std.proofs.lemmas.Result.{err_from_is_err_and}
use Rattle.csv_rows.specs.declared.lines.Found.{Found}
use Rattle.csv_rows.specs.LineReading.{Finds}
use Rattle.csv_rows.specs.LinesForm.{last_read}
use Rattle.csv_rows.proofs.RowFacts.{behind_fits, counts_line}
use Rattle.csv_rows.proofs.Steps.{none_between, line_too_long}
use Rattle.csv_rows.proofs.Takings.{takes_line, takes_none}
use Rattle.csv_rows.proofs.reader.read_line.Goals as goal

pub returns-in_err-push_row-in-Line-clause-reads : goal.returns-in_err-push_row-in-Line-clause-reads
returns-in_err-push_row-in-Line-clause-reads g c = record {
  came = c.in_ok-advance.ensures.reads.came;
  within = search rules;
  kept = search rules;
  counts =
      let p = err_from_is_err_and c.from_residual-in_err-push_row-in-Line.result c.from_residual-in_err-push_row-in-Line.ensures.1 in
      rw (p.1, p.2) (counts_line _ c.args.dialect.now c.args.columns.now c.args.order.now c.advance.new.self.number (last_read c.advance.new.self) c.in_err-push_row-in-Line.field-0.0 c.args.reader.now.1 c.advance.new.reader.1
      c.in_err-push_row-in-Line.ensures.rows c.in_ok-advance.ensures.reads.kept);
}

pub returns-in_ok-push_row-in-Line-clause-fits : goal.returns-in_ok-push_row-in-Line-clause-fits
returns-in_ok-push_row-in-Line-clause-fits g c = λ h.
    behind_fits c.args.dialect.now c.args.columns.now c.args.order.now c.advance.new.self.number (last_read c.advance.new.self) c.args.rows.now c.push_row.new.rows c.in_ok-push_row-in-Line.ensures.rows.0 c.in_ok-push_row-in-Line.ensures.rows.1 c.in_ok-push_row-in-Line.ensures.rows.2 h

pub returns-in-TooLong-clause-fault : goal.returns-in-TooLong-clause-fault
returns-in-TooLong-clause-fault g c =
    let found = subst (λ (f : Found). Finds f c.args.lines.now c.advance.new.self (g.R.Read.remaining c.args.reader.now.0) (g.R.Read.remaining c.advance.new.reader.0)) c.in-TooLong.is c.in_ok-advance.ensures.found in
    line_too_long c.args.dialect.now c.args.columns.now c.args.order.now c.args.lines.now (c.number.result + 1) (g.R.Read.remaining c.args.reader.now.0) (g.R.Read.remaining c.advance.new.reader.0) (omega (arith, c.number.ensures, found.0)) found.1

pub returns-in_ok-push_row-in-Line-clause-taken : goal.returns-in_ok-push_row-in-Line-clause-taken
returns-in_ok-push_row-in-Line-clause-taken g c =
    let found = subst (λ (f : Found). Finds f c.args.lines.now c.advance.new.self (g.R.Read.remaining c.args.reader.now.0) (g.R.Read.remaining c.advance.new.reader.0)) c.in-Line.is c.in_ok-advance.ensures.found in
    takes_line c.args.dialect.now c.args.columns.now c.args.order.now c.args.lines.now c.advance.new.self (last_read c.advance.new.self) c.in_ok-push_row-in-Line.ensures.rows.0 c.args.rows.now c.push_row.new.rows (g.R.Read.remaining c.args.reader.now.0) (g.R.Read.remaining c.advance.new.reader.0)
    found.0 found.2 c.in_ok-push_row-in-Line.ensures.rows.1 c.in_ok-push_row-in-Line.ensures.rows.2

pub returns-in-End-clause-taken : goal.returns-in-End-clause-taken
returns-in-End-clause-taken g c =
    let found = subst (λ (f : Found). Finds f c.args.lines.now c.advance.new.self (g.R.Read.remaining c.args.reader.now.0) (g.R.Read.remaining c.advance.new.reader.0)) c.in-End.is c.in_ok-advance.ensures.found in
    takes_none c.args.dialect.now c.args.columns.now c.args.order.now c.args.lines.now c.advance.new.self c.args.rows.now (g.R.Read.remaining c.args.reader.now.0) (g.R.Read.remaining c.advance.new.reader.0) found.0 found.2

pub returns-in-End-clause-between : goal.returns-in-End-clause-between
returns-in-End-clause-between g c = λ h.
    let found = subst (λ (f : Found). Finds f c.args.lines.now c.advance.new.self (g.R.Read.remaining c.args.reader.now.0) (g.R.Read.remaining c.advance.new.reader.0)) c.in-End.is c.in_ok-advance.ensures.found in
    none_between c.args.lines.now c.advance.new.self (g.R.Read.remaining c.args.reader.now.0) (g.R.Read.remaining c.advance.new.reader.0) found.2
