-- The list is written whole, or a front of it.
use Rattle.std.proofs.Common.{◌≡◌, ◌∙◌, ℕ, List, Ok, Result, ap, sym}
use Rattle.table_model.specs.declared.refusal.Refusal.{Refusal}
use Rattle.replica_store.specs.Segments.{StoreForm}
use Rattle.replica_reports.specs.BatchDigests.{digest_list}
use Rattle.replica_reports.proofs.AskedTexts.{text_written}
use Rattle.replica_reports.proofs.batch_list.list_batches_with_digests.Goals as goal

pub returns-clause-text : goal.returns-clause-text
returns-clause-text g c =
    let told : List ℕ = digest_list c.args.form c.args.file.now.replica in
    let is : told ≡ c.as_slice.result.now = ap (λ (s : StoreForm). digest_list c.args.form s.replica) (sym c.store.ensures.value) ∙ sym (c.as_slice.ensures.value ∙ c.in_ok-list.ensures.list) in
    let whole : ◌≡◌ {A = Result (List ℕ) Refusal} (Ok told) (Ok c.as_slice.result.now) = ap (λ (t : List ℕ). let text : Result (List ℕ) Refusal = Ok t in text) is in
    text_written c.write_whole.result (g.W.Write.contents c.args.writer.now.0) (g.W.Write.contents c.write_whole.new.self.0) c.args.writer.now.1 c.write_whole.new.self.1 (Ok told) c.as_slice.result.now whole
    c.write_whole.ensures.ok c.write_whole.ensures.front c.write_whole.ensures.kept c.write_whole.ensures.fault
