-- The rows of the text were loaded, and the load is imported; or the rows weren't loaded.
use Rattle.std.proofs.Common.{ap, inl, subst, ◌∙◌}
use Rattle.std.proofs.lemmas.Result.{err_from_is_err_and}
use Rattle.table_model.specs.Table.{Table as Schema}
use Rattle.replica_store.specs.Segments.{StoreForm}
use Rattle.lanes_c.specs.Importing.{IsWhyNotRead, LoadsText}
use Rattle.lanes_c.specs.TableChanges.{changed_by}
use Rattle.lanes_c.proofs.TableChanging.{text_imported}
use Rattle.lanes_c.proofs.table_changes.import_text.Goals as goal

pub returns-in_err-load-clause-made : goal.returns-in_err-load-clause-made
returns-in_err-load-clause-made c =
    let p = err_from_is_err_and c.from_residual.result c.from_residual.ensures.1 in
    let same = c.schema.ensures ∙ ap (λ (s : StoreForm). s.replica.schema) c.deref.ensures in
    rw (p.1, p.2) (inl (subst (λ (t : Schema). IsWhyNotRead t c.args.csv.now c.args.has_heading c.in_err-load.field-0.0) same c.in_err-load.ensures.fault))

pub returns-clause-made : goal.returns-clause-made
returns-clause-made c =
    let same = c.schema.ensures ∙ ap (λ (s : StoreForm). s.replica.schema) c.deref.ensures in
    text_imported (changed_by c.change.result c.change.new.self.store.value.replica) c.in_ok-load.load c.args.first c.args.words.now c.args.csv.now c.args.has_heading c.args.shared.now.store.value.replica
    (subst (λ (t : Schema). LoadsText t c.args.csv.now c.args.has_heading c.in_ok-load.load) same c.in_ok-load.ensures.load) c.change.ensures.made
