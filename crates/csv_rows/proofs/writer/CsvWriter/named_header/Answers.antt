use Rattle.std.proofs.Common.{◌≡◌, ◌∙◌, ◌++◌, List, ℕ, ap}
use Rattle.std.specs.Prelude.{codes}
use Rattle.csv_rows.specs.Written.{header_line_at, named_header_line_at}
use Rattle.csv_rows.proofs.RowTexts.{wrote}
use Rattle.csv_rows.proofs.writer.CsvWriter.named_header.Goals as goal

pub returns : goal.returns
returns g c =
    let is : c.as_slice.result.now ≡ named_header_line_at c.args.columns.now c.args.places.now =
    c.as_slice.ensures.value ∙ c.in_ok-push_header.ensures
    ∙ ap (λ (t : List ℕ). t ++ header_line_at c.args.columns.now c.args.places.now) (c.in_ok-extend_from_slice.ensures.items ∙ ap (λ (t : List ℕ). t ++ codes "BATCH,ORDINAL,") c.clear.ensures.items)
    in
    wrote c.write_whole.result (g.W.Write.contents c.args.writer.now.0) (g.W.Write.contents c.write_whole.new.self.0) c.args.writer.now.1 c.write_whole.new.self.1 (named_header_line_at c.args.columns.now c.args.places.now) c.as_slice.result.now is
    c.write_whole.ensures.ok c.write_whole.ensures.front c.write_whole.ensures.kept c.write_whole.ensures.fault
