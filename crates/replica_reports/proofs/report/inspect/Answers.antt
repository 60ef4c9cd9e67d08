-- What is written is the report, which begins with the counts.
use Rattle.std.proofs.Common.{List, ℕ, sym, subst}
use Rattle.replica_store.specs.Segments.{StoreForm}
use Rattle.replica_reports.specs.Reports.{Reports}
use Rattle.replica_reports.proofs.ReportTexts.{begins, on_ok}
use Rattle.replica_reports.proofs.report.inspect.Goals as goal

pub returns-clause-text : goal.returns-clause-text
returns-clause-text g c =
    let text : List ℕ = c.as_slice.result.now in
    let is : Reports c.args.form c.args.file.now text =
    subst (λ (t : List ℕ). Reports c.args.form c.args.file.now t) (sym c.as_slice.ensures.value)
    (subst (λ (s : StoreForm). Reports c.args.form s c.in_ok-text.text.items) c.store.ensures.value c.in_ok-text.ensures.text) in
    on_ok c.write_whole.result (λ appends. (text, is, appends)) c.write_whole.ensures.ok

pub returns-clause-counts : goal.returns-clause-counts
returns-clause-counts g c =
    let text : List ℕ = c.as_slice.result.now in
    let is : Reports c.args.form c.args.file.now text =
    subst (λ (t : List ℕ). Reports c.args.form c.args.file.now t) (sym c.as_slice.ensures.value)
    (subst (λ (s : StoreForm). Reports c.args.form s c.in_ok-text.text.items) c.store.ensures.value c.in_ok-text.ensures.text) in
    on_ok c.write_whole.result (λ appends. (text, begins c.args.form c.args.file.now text is, appends)) c.write_whole.ensures.ok
