-- Each line's rows come behind those of the lines before it.
use Rattle.std.proofs.Common.{rules}
use Rattle.csv_rows.proofs.KnownFacts.{came_start, came_both}
use Rattle.csv_rows.proofs.Steps.{reads_both}
use Rattle.csv_rows.proofs.Takings.{reads_begin, takes_start, takes_both}
use Rattle.csv_rows.proofs.reader.fill_rows.Goals as goal

pub loop-turn-init : goal.loop-turn-init
loop-turn-init g c = record {
  rows = reads_begin c.args.dialect.now c.args.columns.now c.args.order.now c.args.lines.now c.args.rows.now (g.R.Read.remaining c.args.reader.now.0);
  taken = takes_start c.args.dialect.now c.args.columns.now c.args.order.now c.args.lines.now c.args.rows.now (g.R.Read.remaining c.args.reader.now.0);
  fits = λ h. h;
  few = search rules;
  further = search rules;
  turns = search rules;
  bound = search rules;
  within = search rules;
  came = came_start c.args.lines.now.given (g.R.Read.remaining c.args.reader.now.0);
  kept = search rules;
}

pub returns-then-len-ge-MAX_ROWS-clause-rows : goal.returns-then-len-ge-MAX_ROWS-clause-rows
returns-then-len-ge-MAX_ROWS-clause-rows g c =
    reads_both c.args.dialect.now c.args.columns.now c.args.order.now c.args.lines.now c.loop-turn.lines c.read_line.new.lines c.args.rows.now c.loop-turn.rows c.read_line.new.rows
    (g.R.Read.remaining c.args.reader.now.0) (g.R.Read.remaining c.loop-turn.reader.0) (g.R.Read.remaining c.read_line.new.reader.0) c.loop-turn.invariant.rows c.in_ok-read_line.ensures.rows

pub returns-then-len-ge-MAX_ROWS-clause-taken : goal.returns-then-len-ge-MAX_ROWS-clause-taken
returns-then-len-ge-MAX_ROWS-clause-taken g c =
    takes_both c.args.dialect.now c.args.columns.now c.args.order.now c.args.lines.now c.loop-turn.lines c.read_line.new.lines c.args.rows.now c.loop-turn.rows c.read_line.new.rows
    (g.R.Read.remaining c.args.reader.now.0) (g.R.Read.remaining c.loop-turn.reader.0) (g.R.Read.remaining c.read_line.new.reader.0) c.loop-turn.invariant.taken c.in_ok-read_line.ensures.taken

pub loop-turn-preserved : goal.loop-turn-preserved
loop-turn-preserved g c = record {
  rows = reads_both c.args.dialect.now c.args.columns.now c.args.order.now c.args.lines.now c.loop-turn.lines c.read_line.new.lines c.args.rows.now c.loop-turn.rows c.read_line.new.rows
      (g.R.Read.remaining c.args.reader.now.0) (g.R.Read.remaining c.loop-turn.reader.0) (g.R.Read.remaining c.read_line.new.reader.0) c.loop-turn.invariant.rows c.in_ok-read_line.ensures.rows;
  taken = takes_both c.args.dialect.now c.args.columns.now c.args.order.now c.args.lines.now c.loop-turn.lines c.read_line.new.lines c.args.rows.now c.loop-turn.rows c.read_line.new.rows
      (g.R.Read.remaining c.args.reader.now.0) (g.R.Read.remaining c.loop-turn.reader.0) (g.R.Read.remaining c.read_line.new.reader.0) c.loop-turn.invariant.taken c.in_ok-read_line.ensures.taken;
  fits = λ h. c.in_ok-read_line.ensures.fits (c.loop-turn.invariant.fits h);
  few = search rules;
  further = search rules;
  turns = search rules;
  bound = search rules;
  within = search rules;
  came = came_both c.args.lines.now.given c.loop-turn.lines.given c.read_line.new.lines.given (g.R.Read.remaining c.args.reader.now.0) (g.R.Read.remaining c.loop-turn.reader.0) (g.R.Read.remaining c.read_line.new.reader.0) c.loop-turn.invariant.came
      c.in_ok-read_line.ensures.reads.came;
  kept = search rules;
}
