-- The ends are the batch's own.
use Rattle.std.proofs.Common.{ℕ, List, [], length, get_or, sym, ◌∙◌, ap, arith}
use Rattle.table_model.specs.State.{Cells, Batch}
use Rattle.table_model.specs.Ends.{rows_from}
use Rattle.table_model.proofs.EndFacts.{length-rows_from}
use Rattle.table_model.proofs.rows.Rows.row.Goals as goal

pub row_at-requires-clause-ends : goal.row_at-requires-clause-ends
row_at-requires-clause-ends c = rw (c.as_slice.ensures.value, c.as_slice-2.ensures.value) c.self.invariant

pub row_at-requires-clause-row : goal.row_at-requires-clause-row
row_at-requires-clause-row c =
    let count = ap length c.as_slice-2.ensures.value ∙ sym (length-rows_from 0 c.self.inside.ends.items c.self.inside.cells.items) ∙ ap length c.self.view_is in
    let within = c.requires in omega arith

pub returns : goal.returns
returns c =
    c.row_at.ensures
    ∙ ap (λ (ends : List ℕ). get_or (rows_from 0 ends c.as_slice.result.now) c.args.ordinal []) c.as_slice-2.ensures.value
    ∙ ap (λ (cells : Cells). get_or (rows_from 0 c.self.inside.ends.items cells) c.args.ordinal []) c.as_slice.ensures.value
    ∙ ap (λ (rows : Batch). get_or rows c.args.ordinal []) c.self.view_is
