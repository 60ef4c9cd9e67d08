-- What is read is the vector's part of the column.
use Rattle.std.proofs.Common.{◌≡◌, ◌*◌, ◌-◌, ℤ, List, Option, min, length, sym, ◌∙◌, ap}
use Rattle.segment_core.specs.Segment.{column_cells, cells_in}
use Rattle.segment_core.proofs.GatherLemmas.{length-column_cells}
use Rattle.segment_core.proofs.BuildLemmas.{part_is}
use Rattle.segment_core.proofs.build.has_part.Goals as goal

pub returns : goal.returns
returns c =
    let cells : List (Option ℤ) = column_cells c.args.rows.now c.args.column in
    let count = length-column_cells c.args.rows.now c.args.column in
    let part : c.read_column.new.cells ≡ cells_in cells c.args.k = c.read_column.ensures ∙ part_is cells c.args.k (length c.args.cells.now) (c.requires.room ∙ ap (λ n. min 1024 (n - 1024 * c.args.k)) (sym count)) in
    (λ yes. c.has_these.ensures.0 yes ∙ part, λ e. c.has_these.ensures.1 (e ∙ sym part))
