-- The rows were loaded, and the load is imported; or the rows weren't loaded.
use Rattle.std.specs.Prelude.{Ok, Err}
use Rattle.std.proofs.Common.{ap, inl, subst, ◌∙◌}
use Rattle.std.proofs.lemmas.Result.{err_from_is_err_and}
use Rattle.table_model.specs.Table.{Table as Schema}
use Rattle.replica_store.specs.Segments.{StoreForm}
use Rattle.lanes_c.specs.Dialects.{ReadsRows}
use Rattle.lanes_c.specs.TableChanges.{changed_by}
use Rattle.lanes_c.proofs.DialectSteps.{rows_imported}
use Rattle.lanes_c.proofs.dialect_import.import_rows.Goals as goal

pub returns-in_err-load-clause-made : goal.returns-in_err-load-clause-made
returns-in_err-load-clause-made c =
    let p = err_from_is_err_and c.from_residual.result c.from_residual.ensures.1 in
    let same = c.schema.ensures ∙ ap (λ (s : StoreForm). s.replica.schema) c.deref.ensures in
    rw (p.1, p.2) (inl (subst (λ (t : Schema). ReadsRows (Err c.in_err-load.field-0.0) t (record { separator = c.args.separator; null_word = c.args.null_word.now; columns = c.args.columns.now; needs_ends = c.args.needs_ends }) c.args.csv.now c.args.has_heading) same c.in_err-load.ensures))

pub returns-clause-made : goal.returns-clause-made
returns-clause-made c =
    let same = c.schema.ensures ∙ ap (λ (s : StoreForm). s.replica.schema) c.deref.ensures in
    rows_imported (changed_by c.change.result c.change.new.self.store.value.replica) c.in_ok-load.load c.args.first c.args.words.now c.args.csv.now (record { separator = c.args.separator; null_word = c.args.null_word.now; columns = c.args.columns.now; needs_ends = c.args.needs_ends }) c.args.has_heading c.args.shared.now.store.value.replica
    (subst (λ (t : Schema). ReadsRows (Ok c.in_ok-load.load) t (record { separator = c.args.separator; null_word = c.args.null_word.now; columns = c.args.columns.now; needs_ends = c.args.needs_ends }) c.args.csv.now c.args.has_heading) same c.in_ok-load.ensures) c.change.ensures.made
