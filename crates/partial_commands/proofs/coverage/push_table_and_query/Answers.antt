-- The pieces of an object are put one behind another.
use Rattle.std.proofs.Common.{◌≡◌, ◌∙◌, ◌++◌, ℕ, List, ap, codes, sym}
use Rattle.answer_formats.specs.declared.format.ReportForm.{ReportForm}
use Rattle.replica_reports.proofs.ReportTexts.{on_ok}
use Rattle.partial_commands.specs.Coverage.{json_text, table_and_query}
use Rattle.partial_commands.proofs.CoverageTexts.{four_pieces}
use Rattle.partial_commands.proofs.coverage.push_table_and_query.Goals as goal

pub returns-in_ok-extend_from_slice-in-Json-3 : goal.returns-in_ok-extend_from_slice-in-Json-3
returns-in_ok-extend_from_slice-in-Json-3 c =
    let out : List ℕ = c.args.out.now.items in
    let table : List ℕ = c.args.table.now in
    let query : List ℕ = c.args.query.now in
    let first : List ℕ = c.extend_from_slice-in-Json.new.self.items in
    let second : List ℕ = c.extend_from_slice-in-Json-2.new.self.items in
    let third : List ℕ = c.extend_from_slice-in-Json-3.new.self.items in
    let named : second ≡ first ++ table = c.in_ok-extend_from_slice-in-Json-2.ensures.items ∙ ap (λ (t : List ℕ). first ++ t) c.as_bytes-in-Json.ensures.value in
    let whole : third ++ json_text query ≡ out ++ table_and_query c.args.form table query =
    four_pieces out first second third (codes "{\"table\":\"") table (codes "\",\"query\":\"") (json_text query) c.in_ok-extend_from_slice-in-Json.ensures.items named c.in_ok-extend_from_slice-in-Json-3.ensures.items
    ∙ ap (λ (form : ReportForm). out ++ table_and_query form table query) (sym c.in-Json.is) in
    on_ok c.push_json.result (λ put. put ∙ ap (λ (text : List ℕ). third ++ json_text text) c.as_bytes-in-Json-2.ensures.value ∙ whole) c.push_json.ensures
