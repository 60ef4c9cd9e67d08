-- What is told is written whole, or a front of it.
use Rattle.std.proofs.Common.{◌≡◌, ◌∙◌, ℕ, List, Ok, Result, ap, sym}
use Rattle.table_model.specs.declared.refusal.Refusal.{Refusal}
use Rattle.replica_reports.proofs.AskedTexts.{text_written}
use Rattle.partial_commands.specs.Coverage.{partial_answer_coverage}
use Rattle.partial_commands.proofs.coverage.inspect_partial_answer.Goals as goal

pub returns-clause-text : goal.returns-clause-text
returns-clause-text g c =
    let told : List ℕ = partial_answer_coverage c.args.form c.args.partial.now in
    let is : told ≡ c.as_slice.result.now = sym (c.as_slice.ensures.value ∙ c.in_ok-text.ensures) in
    let whole : ◌≡◌ {A = Result (List ℕ) Refusal} (Ok told) (Ok c.as_slice.result.now) = ap (λ (t : List ℕ). let text : Result (List ℕ) Refusal = Ok t in text) is in
    text_written c.write_whole.result (g.W.Write.contents c.args.writer.now.0) (g.W.Write.contents c.write_whole.new.self.0) c.args.writer.now.1 c.write_whole.new.self.1 (Ok told) c.as_slice.result.now whole
    c.write_whole.ensures.ok c.write_whole.ensures.front c.write_whole.ensures.kept c.write_whole.ensures.fault
