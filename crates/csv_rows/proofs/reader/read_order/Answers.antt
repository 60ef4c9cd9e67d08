use Rattle.std.proofs.Common.{List, Option, ℕ, rules, subst}
use Rattle.csv_rows.specs.declared.lines.Found.{Found}
use Rattle.csv_rows.specs.LineReading.{Finds}
use Rattle.csv_rows.specs.LinesForm.{last_read}
use Rattle.csv_rows.proofs.RowFacts.{header_counts}
use Rattle.csv_rows.proofs.Steps.{header_long}
use Rattle.csv_rows.proofs.reader.read_order.Goals as goal

pub returns-in-Line-clause-reads : goal.returns-in-Line-clause-reads
returns-in-Line-clause-reads g c = record {
  came = c.in_ok-advance.ensures.reads.came;
  within = search rules;
  kept = search rules;
  counts = header_counts (λ (order : List (Option ℕ)). order) _ c.args.dialect.now c.args.columns.now (last_read c.advance.new.self) c.order_of_header.result c.args.reader.now.1 c.advance.new.reader.1 c.order_of_header.ensures c.in_ok-advance.ensures.reads.kept;
}

pub returns-in-TooLong-clause-fault : goal.returns-in-TooLong-clause-fault
returns-in-TooLong-clause-fault g c =
    let found = subst (λ (f : Found). Finds f c.args.lines.now c.advance.new.self (g.R.Read.remaining c.args.reader.now.0) (g.R.Read.remaining c.advance.new.reader.0)) c.in-TooLong.is c.in_ok-advance.ensures.found in
    header_long c.args.dialect.now c.args.columns.now c.args.lines.now (g.R.Read.remaining c.args.reader.now.0) (g.R.Read.remaining c.advance.new.reader.0) found.1
