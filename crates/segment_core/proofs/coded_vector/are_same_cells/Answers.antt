-- The cells are the same at each row, or differ at the first where they do.
use Rattle.std.proofs.Common.{pos, w64, FitsSigned, to_z, of_z, None, get_or, rules, refl, sym, ◌∙◌, ap, arith}
use Rattle.std.proofs.lemmas.Int.{to_z-of_z}
use Rattle.transpose_order.specs.Mask.{has}
use Rattle.segment_core.specs.Fill.{cell_or_null, cells_under}
use Rattle.segment_core.proofs.FillLemmas.{under_are, under_at, length-cells_under, get_or-cells_under}
use Rattle.segment_core.proofs.coded_vector.are_same_cells.Goals as goal

pub returns-then-not-same_cell : goal.returns-then-not-same_cell
returns-then-not-same_cell c =
    let own : FitsSigned w64 (get_or c.args.values.now c.loop-row.row (pos 0)) = search rules in
    let theirs : FitsSigned w64 (get_or c.args.others.now c.loop-row.row (pos 0)) = search rules in (
      λ yes. absurd (cc),
      λ e.
          c.if-not-same_cell.ensures.1
          (ap (λ b. cell_or_null b (to_z w64 (of_z w64 (get_or c.args.values.now c.loop-row.row (pos 0))))) c.get-null.ensures
          ∙ ap (cell_or_null (has c.args.nulls.now c.loop-row.row)) (to_z-of_z w64 _ own)
          ∙ under_at c.args.rows c.args.nulls.now c.args.values.now (cells_under c.args.rows c.args.other_nulls.now c.args.others.now) c.loop-row.row e c.loop-row-test.true
          ∙ get_or-cells_under c.args.rows c.args.other_nulls.now c.args.others.now c.loop-row.row None c.loop-row-test.true
          ∙ ap (cell_or_null (has c.args.other_nulls.now c.loop-row.row)) (sym (to_z-of_z w64 _ theirs))
          ∙ ap (λ b. cell_or_null b (to_z w64 (of_z w64 (get_or c.args.others.now c.loop-row.row (pos 0))))) (sym c.get.ensures)),
    )

pub returns : goal.returns
returns c = (
  λ _. under_are c.args.rows c.args.nulls.now c.args.values.now (cells_under c.args.rows c.args.other_nulls.now c.args.others.now)
      (length-cells_under c.args.rows c.args.other_nulls.now c.args.others.now)
      (λ n h. c.loop-row.invariant n (let t = c.loop-row-test.false in omega arith) ∙ sym (get_or-cells_under c.args.rows c.args.other_nulls.now c.args.others.now n None h)),
  λ _. refl,
)
