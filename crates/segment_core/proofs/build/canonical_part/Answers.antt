-- What is read is the vector's part of the column.
use Rattle.std.proofs.Common.{◌≡◌, ◌*◌, ◌-◌, ℤ, List, Option, IfOk, min, length, sym, ◌∙◌, ap, subst}
use Rattle.segment_core.specs.Fill.{AreCellsInRange}
use Rattle.segment_core.specs.CodedVector.{canonical_vector}
use Rattle.segment_core.specs.Segment.{column_cells, cells_in}
use Rattle.segment_core.proofs.GatherLemmas.{length-column_cells}
use Rattle.segment_core.proofs.BuildLemmas.{part_is, part_in_range}
use Rattle.segment_core.proofs.build.canonical_part.Goals as goal

pub canonical_vector-requires-clause-fit : goal.canonical_vector-requires-clause-fit
canonical_vector-requires-clause-fit c =
    let cells : List (Option ℤ) = column_cells c.args.rows.now c.args.column in
    let count = length-column_cells c.args.rows.now c.args.column in
    let part : c.read_column.new.cells ≡ cells_in cells c.args.k = c.read_column.ensures ∙ part_is cells c.args.k (length c.args.cells.now) (c.requires.room ∙ ap (λ n. min 1024 (n - 1024 * c.args.k)) (sym count)) in
    subst (AreCellsInRange c.args.lane_width) (sym part) (part_in_range c.args.lane_width cells c.args.k c.requires.column.fit)

pub returns : goal.returns
returns c =
    let cells : List (Option ℤ) = column_cells c.args.rows.now c.args.column in
    let count = length-column_cells c.args.rows.now c.args.column in
    let part : c.read_column.new.cells ≡ cells_in cells c.args.k = c.read_column.ensures ∙ part_is cells c.args.k (length c.args.cells.now) (c.requires.room ∙ ap (λ n. min 1024 (n - 1024 * c.args.k)) (sym count)) in
    subst (λ (read : List (Option ℤ)). IfOk c.canonical_vector.result (λ vector. vector ≡ canonical_vector c.args.lane_width read)) part c.canonical_vector.ensures
