-- A row lies from the end before it to its own.
use Rattle.std.proofs.Common.{ℕ, sym, ◌∙◌, ap}
use Rattle.std.specs.List.{slice_range}
use Rattle.table_model.proofs.EndFacts.{row_is}
use Rattle.table_model.proofs.rows.row_at.Goals as goal

pub returns : goal.returns
returns c =
    ap (λ (n : ℕ). slice_range c.args.cells.now n c.bounds_of-start.result.1) c.bounds_of-start.ensures.start
    ∙ ap (slice_range c.args.cells.now _) c.bounds_of-start.ensures.end
    ∙ sym (row_is 0 c.args.ends.now c.args.cells.now c.args.ordinal c.requires.row)
