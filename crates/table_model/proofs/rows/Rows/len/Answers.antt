-- There is an end for each row.
use Rattle.std.proofs.Common.{length, sym, ◌∙◌, ap}
use Rattle.table_model.proofs.EndFacts.{length-rows_from}
use Rattle.table_model.proofs.rows.Rows.len.Goals as goal

pub returns : goal.returns
returns c =
    ap length c.as_slice.ensures.value
    ∙ sym (length-rows_from 0 c.self.inside.ends.items c.self.inside.cells.items) ∙ ap length c.self.view_is
