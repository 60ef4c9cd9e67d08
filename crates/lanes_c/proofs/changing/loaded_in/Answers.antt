-- The rows are batches of the table; else the text was refused, or memory ran out.
use Rattle.std.specs.Prelude.{ℕ, List}
use Rattle.std.proofs.Common.{ap, refl, inl, Bor}
use Rattle.std.proofs.lemmas.Result.{err_from_is_err_and}
use Rattle.lanes_c.proofs.Importings.{load_lacks, text_refused, rows_loaded}
use Rattle.lanes_c.proofs.changing.loaded_in.Goals as goal

pub returns-in_err-load-clause-fault : goal.returns-in_err-load-clause-fault
returns-in_err-load-clause-fault c =
    let p = err_from_is_err_and c.from_residual.result c.from_residual.ensures.1 in
    rw (p.1, p.2) (load_lacks c.args.dialect c.args.schema.now c.in_err-load.field-0.0 c.args.csv.now c.args.has_heading c.in_err-load.ensures)

pub returns-in_err-rows-clause-fault : goal.returns-in_err-rows-clause-fault
returns-in_err-rows-clause-fault c =
    let p = err_from_is_err_and c.from_residual-in_err-rows.result c.from_residual-in_err-rows.ensures.1 in
    rw (p.1, p.2) (inl (inl refl))

pub returns-in_err-read_csv-clause-fault : goal.returns-in_err-read_csv-clause-fault
returns-in_err-read_csv-clause-fault c =
    let p = err_from_is_err_and c.from_residual-in_err-read_csv.result c.from_residual-in_err-read_csv.ensures.1 in
    rw (p.1, p.2) (text_refused c.args.dialect c.in_err-read_csv.field-0.0 c.in_ok-rows.rows c.args.schema.now c.in_ok-load.load c.read_csv.new.load c.args.csv.now _ c.args.has_heading (ap (λ (w : Bor (List ℕ) × ℕ). w.0.now) c.new-2.ensures)
    c.in_ok-rows.ensures c.in_ok-load.ensures c.in_err-read_csv.ensures.fault c.in_err-read_csv.ensures.stopped)

pub returns-clause-load : goal.returns-clause-load
returns-clause-load c =
    rows_loaded c.args.dialect c.in_ok-rows.rows c.args.schema.now c.in_ok-load.load c.read_csv.new.load c.args.csv.now _ c.args.has_heading (ap (λ (w : Bor (List ℕ) × ℕ). w.0.now) c.new-2.ensures) c.in_ok-rows.ensures c.in_ok-load.ensures c.in_ok-read_csv.ensures.loaded
