-- One batch of rows after another is loaded.
use Rattle.std.proofs.Common.{◌≡◌, ◌<◌, ◌∙◌, length, refl, arith}
use Rattle.std.proofs.lemmas.Result.{err_from_is_err_and}
use Rattle.table_model.specs.Faults.{read_limit}
use Rattle.replica_changes.proofs.CsvLoading.{load_begins, load_next, load_ends, load_refused, none_refused}
use Rattle.replica_changes.proofs.StoppedLoads.{reading_stops, reading_counts, adding_stops, adding_counts, came_start, came_on}
use Rattle.replica_changes.proofs.csv_reading.read_csv.Goals as goal

pub loop-round-init : goal.loop-round-init
loop-round-init g c = record {
  so = load_begins c.args.csv.now (g.R.Read.remaining c.args.reader.now.0) c.args.load.now;
  table = refl;
  further = omega arith;
  bound = omega arith;
  came = came_start c.args.csv.now.given (g.R.Read.remaining c.args.reader.now.0);
  kept = refl;
}

pub returns-in_err-rows-clause-fault : goal.returns-in_err-rows-clause-fault
returns-in_err-rows-clause-fault g c =
    let p = err_from_is_err_and c.from_residual.result c.from_residual.ensures.1 in
    rw (p.1, p.2) (load_refused c.args.csv.now c.loop-round.csv c.in_err-rows.field-0.0 (g.R.Read.remaining c.args.reader.now.0) (g.R.Read.remaining c.loop-round.reader.0) c.args.load.now c.loop-round.load c.loop-round.invariant.so c.in_err-rows.ensures.fault)

pub returns-in_err-rows-clause-stopped : goal.returns-in_err-rows-clause-stopped
returns-in_err-rows-clause-stopped g c =
    let p = err_from_is_err_and c.from_residual.result c.from_residual.ensures.1 in
    rw (p.1, p.2) (reading_stops c.args.csv.now c.loop-round.csv c.in_err-rows.field-0.0 (g.R.Read.remaining c.args.reader.now.0) (g.R.Read.remaining c.loop-round.reader.0) c.args.load.now c.loop-round.load (read_limit < c.next_batch.new.self.given) c.loop-round.reader.1 c.next_batch.new.reader.1
    c.loop-round.invariant.so c.in_err-rows.ensures.counts)

pub returns-in_err-rows-clause-came : goal.returns-in_err-rows-clause-came
returns-in_err-rows-clause-came g c =
    came_on c.args.csv.now.given c.loop-round.csv.given c.next_batch.new.self.given (g.R.Read.remaining c.args.reader.now.0) (g.R.Read.remaining c.loop-round.reader.0) (g.R.Read.remaining c.next_batch.new.reader.0) c.loop-round.invariant.came c.in_err-rows.ensures.came

pub returns-in_err-rows-clause-counts : goal.returns-in_err-rows-clause-counts
returns-in_err-rows-clause-counts g c =
    let p = err_from_is_err_and c.from_residual.result c.from_residual.ensures.1 in
    rw (p.1, p.2) (reading_counts c.in_err-rows.field-0.0 (read_limit < c.next_batch.new.self.given) c.args.reader.now.1 c.loop-round.reader.1 c.next_batch.new.reader.1 c.loop-round.invariant.kept c.in_err-rows.ensures.counts)

pub returns-in_err-add_rows-clause-fault : goal.returns-in_err-add_rows-clause-fault
returns-in_err-add_rows-clause-fault g c =
    let p = err_from_is_err_and c.from_residual-in_err-add_rows.result c.from_residual-in_err-add_rows.ensures.1 in
    rw (p.1, p.2) (none_refused c.args.csv.now c.in_err-add_rows.field-0.0 (g.R.Read.remaining c.args.reader.now.0) c.loop-round.load c.in_ok-rows.rows c.in_err-add_rows.ensures.refused)

pub returns-in_err-add_rows-clause-stopped : goal.returns-in_err-add_rows-clause-stopped
returns-in_err-add_rows-clause-stopped g c =
    let p = err_from_is_err_and c.from_residual-in_err-add_rows.result c.from_residual-in_err-add_rows.ensures.1 in
    rw (p.1, p.2) (adding_stops c.args.csv.now c.loop-round.csv c.next_batch.new.self c.in_err-add_rows.field-0.0 (g.R.Read.remaining c.args.reader.now.0) (g.R.Read.remaining c.loop-round.reader.0) (g.R.Read.remaining c.next_batch.new.reader.0) c.args.load.now c.loop-round.load c.add_rows.new.load c.in_ok-rows.rows
    c.loop-round.invariant.so c.in_ok-rows.ensures.rows c.in_err-add_rows.ensures.kept c.loop-round.invariant.table c.in_ok-rows.ensures.fits c.in_ok-rows.ensures.limit c.in_err-add_rows.ensures.refused)

pub returns-in_err-add_rows-clause-came : goal.returns-in_err-add_rows-clause-came
returns-in_err-add_rows-clause-came g c =
    came_on c.args.csv.now.given c.loop-round.csv.given c.next_batch.new.self.given (g.R.Read.remaining c.args.reader.now.0) (g.R.Read.remaining c.loop-round.reader.0) (g.R.Read.remaining c.next_batch.new.reader.0) c.loop-round.invariant.came c.in_ok-rows.ensures.came

pub returns-in_err-add_rows-clause-counts : goal.returns-in_err-add_rows-clause-counts
returns-in_err-add_rows-clause-counts g c =
    let p = err_from_is_err_and c.from_residual-in_err-add_rows.result c.from_residual-in_err-add_rows.ensures.1 in
    rw (p.1, p.2) (adding_counts c.loop-round.load c.in_ok-rows.rows c.in_err-add_rows.field-0.0 (read_limit < c.next_batch.new.self.given) c.args.reader.now.1 c.loop-round.reader.1 c.next_batch.new.reader.1 c.in_err-add_rows.ensures.refused c.loop-round.invariant.kept c.in_ok-rows.ensures.kept)

pub returns-then-len-lt-MAX_ROWS-clause-loaded : goal.returns-then-len-lt-MAX_ROWS-clause-loaded
returns-then-len-lt-MAX_ROWS-clause-loaded g c =
    load_ends c.args.csv.now c.loop-round.csv c.next_batch.new.self (g.R.Read.remaining c.args.reader.now.0) (g.R.Read.remaining c.loop-round.reader.0) (g.R.Read.remaining c.next_batch.new.reader.0) c.args.load.now c.loop-round.load c.add_rows.new.load c.in_ok-rows.rows
    c.loop-round.invariant.so c.in_ok-rows.ensures.rows c.in_ok-add_rows.ensures.added (c.in_ok-rows.ensures.end (omega (arith, c.if-len-lt-MAX_ROWS.true, c.len.ensures)))

pub returns-then-len-lt-MAX_ROWS-clause-came : goal.returns-then-len-lt-MAX_ROWS-clause-came
returns-then-len-lt-MAX_ROWS-clause-came g c =
    came_on c.args.csv.now.given c.loop-round.csv.given c.next_batch.new.self.given (g.R.Read.remaining c.args.reader.now.0) (g.R.Read.remaining c.loop-round.reader.0) (g.R.Read.remaining c.next_batch.new.reader.0) c.loop-round.invariant.came c.in_ok-rows.ensures.came

pub returns-then-len-lt-MAX_ROWS-clause-kept : goal.returns-then-len-lt-MAX_ROWS-clause-kept
returns-then-len-lt-MAX_ROWS-clause-kept g c = c.in_ok-rows.ensures.kept ∙ c.loop-round.invariant.kept

pub loop-round-preserved : goal.loop-round-preserved
loop-round-preserved g c =
    let full : length c.in_ok-rows.rows ≡ 65536 = omega (arith, c.in_ok-rows.ensures.limit, c.if-len-lt-MAX_ROWS.false, c.len.ensures) in
    record {
      so = load_next c.args.csv.now c.loop-round.csv c.next_batch.new.self (g.R.Read.remaining c.args.reader.now.0) (g.R.Read.remaining c.loop-round.reader.0) (g.R.Read.remaining c.next_batch.new.reader.0) c.args.load.now c.loop-round.load c.add_rows.new.load c.in_ok-rows.rows
          c.loop-round.invariant.so c.in_ok-rows.ensures.rows c.in_ok-add_rows.ensures.added full;
      table = c.in_ok-rows.ensures.table ∙ c.loop-round.invariant.table;
      further = omega (arith, c.in_ok-rows.ensures.further, full, c.loop-round.invariant.further);
      bound = omega (arith, c.in_ok-rows.ensures.further, full, c.loop-round.invariant.further, c.in_ok-rows.ensures.bound);
      came = came_on c.args.csv.now.given c.loop-round.csv.given c.next_batch.new.self.given (g.R.Read.remaining c.args.reader.now.0) (g.R.Read.remaining c.loop-round.reader.0) (g.R.Read.remaining c.next_batch.new.reader.0) c.loop-round.invariant.came c.in_ok-rows.ensures.came;
      kept = c.in_ok-rows.ensures.kept ∙ c.loop-round.invariant.kept;
    }

pub returns-clause-stopped : goal.returns-clause-stopped
returns-clause-stopped g c = let no : ⊥ = omega (arith, c.loop-round.invariant.bound, c.loop-round-test.false) in absurd no

pub returns-clause-came : goal.returns-clause-came
returns-clause-came g c = c.loop-round.invariant.came

pub returns-clause-counts : goal.returns-clause-counts
returns-clause-counts g c = let no : ⊥ = omega (arith, c.loop-round.invariant.bound, c.loop-round-test.false) in absurd no
