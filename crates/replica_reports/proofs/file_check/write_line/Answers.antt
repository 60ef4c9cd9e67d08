-- The line is written whole, or a front of it.
use Rattle.std.proofs.Common.{◌≡◌, ◌∙◌, ℕ, List, Ok, Result, length, ap, sym}
use Rattle.table_model.specs.declared.refusal.Refusal.{Refusal}
use Rattle.column_file.specs.Files.{ranges_of}
use Rattle.column_file.proofs.RangeLists.{ranges_are}
use Rattle.replica_store.specs.Segments.{StoreForm}
use Rattle.replica_reports.specs.Asking.{checked_line, counts_of}
use Rattle.replica_reports.proofs.AskedTexts.{text_written}
use Rattle.replica_reports.proofs.file_check.write_line.Goals as goal

pub returns-clause-text : goal.returns-clause-text
returns-clause-text g c =
    let s : StoreForm = c.args.file.now in
    let ranges = ranges_are c.ranges-2.result.now c.store-store.result.now.replica.state.deleted c.ranges-2.ensures.maximal (c.ranges-2.ensures.rows ∙ c.tombs.ensures) in
    let many : length (ranges_of c.store-store.result.now.replica.state.deleted) ≡ length c.ranges-2.result.now = ap length ranges in
    let made : counts_of s.replica ≡ (c.batches-batches.result, length c.ranges-2.result.now) =
    ap (λ (t : StoreForm). counts_of t.replica) (sym c.store-store.ensures.value) ∙ (λ i. (sym c.batches-batches.ensures.value i, many i)) in
    let whole : ◌≡◌ {A = Result (List ℕ) Refusal} (Ok (checked_line (counts_of s.replica) c.args.ending.now)) (Ok c.as_slice.result.now) =
    ap (λ (n : ℕ × ℕ). let text : Result (List ℕ) Refusal = Ok (checked_line n c.args.ending.now) in text) made ∙ ap (λ (t : List ℕ). let text : Result (List ℕ) Refusal = Ok t in text) (sym (c.as_slice.ensures.value ∙ c.in_ok-line.ensures)) in
    text_written c.write_whole.result (g.W.Write.contents c.args.writer.now.0) (g.W.Write.contents c.write_whole.new.self.0) c.args.writer.now.1 c.write_whole.new.self.1 (Ok (checked_line (counts_of s.replica) c.args.ending.now)) c.as_slice.result.now whole
    c.write_whole.ensures.ok c.write_whole.ensures.front c.write_whole.ensures.kept c.write_whole.ensures.fault
