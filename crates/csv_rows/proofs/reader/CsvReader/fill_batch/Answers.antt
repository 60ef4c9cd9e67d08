-- The text begins in this call, or it began in one before.
use Rattle.std.specs.Prelude.{◌≡◌, ℕ, None, OnOk}
use Rattle.std.proofs.Common.{sym, ap, ◌∙◌, subst, inl, inr}
use Rattle.std.proofs.lemmas.Result.{err_from_is_err_and}
use Rattle.csv_rows.specs.Reading.{Reading, Begins, RowsOfLines}
use Rattle.csv_rows.proofs.Begins.{Same}
use Rattle.csv_rows.proofs.Starts as starts
use Rattle.csv_rows.proofs.Starts.{Started, Read, on_ok, if_err, none_of, some_of, if_none}
use Rattle.csv_rows.proofs.Takings.{refuses_on}
use Rattle.csv_rows.proofs.reader.CsvReader.fill_batch.Given.{Over}
use Rattle.csv_rows.proofs.reader.CsvReader.fill_batch.Goals as goal
use Rattle.csv_rows.proofs.reader.CsvReader.fill_batch.Goals.{then-is_none+in_ok-begin, else-is_none}

started : (g : Over) (c : goal.After-more_rows g) → Started c.args.self.now c.if-is_none.self (g.R.Read.remaining c.args.reader.now.0) (g.R.Read.remaining c.if-is_none.reader.0)
started g c = elim c.if-is_none.branch [
  | then-is_none+in_ok-begin w ↦
      let none : c.self.inside.order ≡ None = none_of c.self.inside.order c.is_none.result c.is_none.ensures w.if-is_none.true in record {
        table = ap (λ (m : Reading). m.table) w.self-is ∙ w.in_ok-begin.ensures.table;
        dialect = ap (λ (m : Reading). m.dialect) w.self-is ∙ w.in_ok-begin.ensures.dialect;
        how = inl (
          sym (ap (λ (m : Reading). m.order) c.self.view_is) ∙ none,
          sym (ap (λ (m : Reading). m.number) c.self.view_is) ∙ (if_none c.self.inside.order c.self.invariant none).2,
          subst (λ (r : g.row.R.Denot × ℕ). Begins c.args.self.now c.if-is_none.self (g.R.Read.remaining c.args.reader.now.0) (g.R.Read.remaining r.0)) (sym w.reader-is)
              (subst (λ (m : Reading). Begins c.args.self.now m (g.R.Read.remaining c.args.reader.now.0) (g.R.Read.remaining w.begin.new.reader.0)) (sym w.self-is) w.in_ok-begin.ensures.begins),
          subst (λ (r : g.row.R.Denot × ℕ). Same c.args.self.now c.if-is_none.self (g.R.Read.remaining c.args.reader.now.0) (g.R.Read.remaining r.0)) (sym w.reader-is)
              (subst (λ (m : Reading). Same c.args.self.now m (g.R.Read.remaining c.args.reader.now.0) (g.R.Read.remaining w.begin.new.reader.0)) (sym w.self-is) w.in_ok-begin.ensures.rows),
        );
      }
  | else-is_none w ↦
      let some = some_of c.self.inside.order c.is_none.result c.is_none.ensures w.if-is_none.false in record {
        table = ap (λ (m : Reading). m.table) w.self-is;
        dialect = ap (λ (m : Reading). m.dialect) w.self-is;
        how = inr (some.0, sym (ap (λ (m : Reading). m.order) c.self.view_is) ∙ some.1, w.self-is, ap (λ (r : g.row.R.Denot × ℕ). g.R.Read.remaining r.0) w.reader-is);
      }
]

read : (g : Over) (c : goal.After-more_rows g) → OnOk c.more_rows.result (Read c.if-is_none.self c.more_rows.new.self c.args.rows.now c.more_rows.new.rows (g.R.Read.remaining c.if-is_none.reader.0) (g.R.Read.remaining c.more_rows.new.reader.0))
read g c = on_ok c.more_rows.result
    (λ (h : RowsOfLines c.if-is_none.self c.more_rows.new.self c.args.rows.now c.more_rows.new.rows (g.R.Read.remaining c.if-is_none.reader.0) (g.R.Read.remaining c.more_rows.new.reader.0)). record {
      order = c.more_rows.ensures.order;
      table = c.more_rows.ensures.table;
      dialect = c.more_rows.ensures.dialect;
      takes = h;
    }) c.more_rows.ensures.taken

pub returns-clause-began : goal.returns-clause-began
returns-clause-began g c = on_ok c.more_rows.result
    (λ (h : Read c.if-is_none.self c.more_rows.new.self c.args.rows.now c.more_rows.new.rows (g.R.Read.remaining c.if-is_none.reader.0) (g.R.Read.remaining c.more_rows.new.reader.0)). starts.began c.args.self.now c.if-is_none.self c.more_rows.new.self (g.R.Read.remaining c.args.reader.now.0) (g.R.Read.remaining c.if-is_none.reader.0) (started g c) c.more_rows.ensures.order)
    (read g c)

pub returns-clause-counted : goal.returns-clause-counted
returns-clause-counted g c = on_ok c.more_rows.result
    (starts.counts_on c.args.self.now c.if-is_none.self c.more_rows.new.self c.args.rows.now c.more_rows.new.rows (g.R.Read.remaining c.args.reader.now.0) (g.R.Read.remaining c.if-is_none.reader.0) (g.R.Read.remaining c.more_rows.new.reader.0) (started g c))
    (read g c)

pub returns-clause-between : goal.returns-clause-between
returns-clause-between g c = on_ok c.more_rows.result
    (λ h few. starts.at_line c.args.self.now c.if-is_none.self c.more_rows.new.self (g.R.Read.remaining c.args.reader.now.0) (g.R.Read.remaining c.if-is_none.reader.0) (g.R.Read.remaining c.more_rows.new.reader.0) (started g c) (h few))
    c.more_rows.ensures.between

pub returns-clause-onward : goal.returns-clause-onward
returns-clause-onward g c = on_ok c.more_rows.result
    (starts.goes_on c.args.self.now c.if-is_none.self c.more_rows.new.self c.args.rows.now c.more_rows.new.rows (g.R.Read.remaining c.args.reader.now.0) (g.R.Read.remaining c.if-is_none.reader.0) (g.R.Read.remaining c.more_rows.new.reader.0) (started g c))
    (read g c)

pub returns-clause-refused : goal.returns-clause-refused
returns-clause-refused g c = if_err c.more_rows.result
    (λ e h. starts.refused_on c.args.self.now c.if-is_none.self e (g.R.Read.remaining c.args.reader.now.0) (g.R.Read.remaining c.if-is_none.reader.0) (started g c) h)
    c.more_rows.ensures.fault

pub returns-in_err-begin-clause-refused : goal.returns-in_err-begin-clause-refused
returns-in_err-begin-clause-refused g c =
    let p = err_from_is_err_and c.from_residual.result c.from_residual.ensures.1 in
    rw (p.1, p.2) (refuses_on c.args.self.now c.in_err-begin.field-0.0 (g.R.Read.remaining c.args.reader.now.0) c.in_err-begin.ensures.fault)
