-- The rows are of the table that the file holds; else the file was refused, or the text, or memory ran out.
use Rattle.std.specs.Prelude.{ℕ, List}
use Rattle.std.proofs.Common.{ap, inl, Bor}
use Rattle.std.proofs.lemmas.Result.{err_from_is_err_and}
use Rattle.lanes_c.proofs.Importings.{file_refused, loads_held, unread_held}
use Rattle.lanes_c.proofs.changing.loaded_for.Goals as goal

pub returns-in_err-schema-clause-fault : goal.returns-in_err-schema-clause-fault
returns-in_err-schema-clause-fault c =
    let p = err_from_is_err_and c.from_residual.result c.from_residual.ensures.1 in
    rw (p.1, p.2) (inl (file_refused c.in_err-schema.field-0.0 c.args.file.now _ (ap (λ (w : Bor (List ℕ) × ℕ). w.0.now) c.new.ensures) c.in_err-schema.ensures.read))

pub returns-clause-load : goal.returns-clause-load
returns-clause-load c =
    loads_held c.loaded.result c.in_ok-schema.schema c.args.file.now _ c.args.csv.now c.args.has_heading (ap (λ (w : Bor (List ℕ) × ℕ). w.0.now) c.new.ensures) c.in_ok-schema.ensures.read c.loaded.ensures.load

pub returns-clause-fault : goal.returns-clause-fault
returns-clause-fault c =
    unread_held c.loaded.result c.in_ok-schema.schema c.args.file.now _ c.args.csv.now c.args.has_heading (ap (λ (w : Bor (List ℕ) × ℕ). w.0.now) c.new.ensures) c.in_ok-schema.ensures.read c.loaded.ensures.fault
