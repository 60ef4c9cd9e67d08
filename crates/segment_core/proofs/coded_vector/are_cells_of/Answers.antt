-- The cells are those that are asked for, or differ at the first where they do.
use Rattle.std.proofs.Common.{pos, w64, FitsSigned, to_z, of_z, get_or, length, rules, refl, ◌∙◌, ap, arith}
use Rattle.std.proofs.lemmas.Int.{to_z-of_z}
use Rattle.transpose_order.specs.Mask.{has}
use Rattle.segment_core.specs.Fill.{cell_or_null}
use Rattle.segment_core.proofs.FillLemmas.{under_are, under_at}
use Rattle.segment_core.proofs.coded_vector.are_cells_of.Goals as goal

pub returns-then-not-is_cell : goal.returns-then-not-is_cell
returns-then-not-is_cell c =
    let own : FitsSigned w64 (get_or c.args.values.now c.loop-row.row (pos 0)) = search rules in (
      λ yes. absurd (cc),
      λ e.
          c.if-not-is_cell.ensures.1
          (ap (λ b. cell_or_null b (to_z w64 (of_z w64 (get_or c.args.values.now c.loop-row.row (pos 0))))) c.get.ensures
          ∙ ap (cell_or_null (has c.args.nulls.now c.loop-row.row)) (to_z-of_z w64 _ own)
          ∙ under_at (length c.args.cells.now) c.args.nulls.now c.args.values.now c.args.cells.now c.loop-row.row e c.loop-row-test.true),
    )

pub returns : goal.returns
returns c = (
  λ _. under_are (length c.args.cells.now) c.args.nulls.now c.args.values.now c.args.cells.now refl
      (λ n h. c.loop-row.invariant n (let t = c.loop-row-test.false in omega arith)),
  λ _. refl,
)
