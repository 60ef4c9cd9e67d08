-- The rows are of the table that the file holds, and their load is imported; or the file was refused, or the rows.
use Rattle.std.specs.Prelude.{ℕ, List}
use Rattle.std.proofs.Common.{ap, inl, sym, ◌∙◌, Bor}
use Rattle.std.proofs.lemmas.Result.{err_from_is_err_and}
use Rattle.replica_changes.specs.Commands.{schema_in}
use Rattle.lanes_c.specs.Rooms.{given_by}
use Rattle.lanes_c.proofs.DialectSteps.{file_imported, file_unread}
use Rattle.lanes_c.proofs.Importings.{file_refused, schema_held}
use Rattle.lanes_c.proofs.dialect_import.imported_rows.Goals as goal

pub returns-in_err-schema : goal.returns-in_err-schema
returns-in_err-schema c =
    let p = err_from_is_err_and c.from_residual.result c.from_residual.ensures.1 in
    rw (p.1, p.2) (inl (file_refused c.in_err-schema.field-0.0 c.args.file.now _ (ap (λ (w : Bor (List ℕ) × ℕ). w.0.now) c.new.ensures) c.in_err-schema.ensures.read))

pub returns-in_err-load : goal.returns-in_err-load
returns-in_err-load c =
    let p = err_from_is_err_and c.from_residual-in_err-load.result c.from_residual-in_err-load.ensures.1 in
    let same = ap (λ (w : Bor (List ℕ) × ℕ). w.0.now) c.new.ensures in
    let held = schema_held c.args.file.now c.in_ok-schema.schema (ap schema_in (sym same) ∙ c.in_ok-schema.ensures.read) in
    rw (p.1, p.2) (file_unread c.in_err-load.field-0.0 c.args.first c.args.words.now c.args.file.now c.args.csv.now (record { separator = c.args.separator; null_word = c.args.null_word.now; columns = c.args.columns.now; needs_ends = c.args.needs_ends }) c.args.has_heading c.in_ok-schema.schema held c.in_err-load.ensures)

pub returns : goal.returns
returns c =
    let same = ap (λ (w : Bor (List ℕ) × ℕ). w.0.now) c.new.ensures in
    let held = schema_held c.args.file.now c.in_ok-schema.schema (ap schema_in (sym same) ∙ c.in_ok-schema.ensures.read) in
    file_imported (given_by c.imported.result) c.in_ok-load.load c.args.first c.args.words.now c.args.file.now c.args.csv.now (record { separator = c.args.separator; null_word = c.args.null_word.now; columns = c.args.columns.now; needs_ends = c.args.needs_ends }) c.args.has_heading c.in_ok-schema.schema held c.in_ok-load.ensures c.imported.ensures
