use Rattle.std.proofs.Common.{◌∙◌, ap, List, ℕ, ◌++◌}
use Rattle.csv_rows.specs.Written.{name_at}
use Rattle.csv_rows.proofs.RowTexts.{line_written}
use Rattle.csv_rows.proofs.writer.push_header.Goals as goal

pub returns : goal.returns
returns c =
    line_written (name_at c.args.columns.now) c.args.places.now c.in-Some.first.now c.in-Some.rest.now c.args.out.now.items c.extend_from_slice-2.new.self.items c.push_more_names.new.out.items c.extend_from_slice-3.new.self.items
    c.in-Some.ensures.cases.0 (c.in_ok-extend_from_slice.ensures.items ∙ ap (λ (t : List ℕ). c.args.out.now.items ++ t) c.name_at.ensures) c.in_ok-push_more_names.ensures c.in_ok-extend_from_slice-2.ensures.items
