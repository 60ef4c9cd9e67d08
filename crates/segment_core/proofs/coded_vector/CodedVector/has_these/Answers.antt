-- The decoded values under the null mask are the cells.
use Rattle.std.proofs.Common.{◌≡◌, ◌≤◌, length, sym, ◌∙◌, ap, arith}
use Rattle.segment_core.specs.Fill.{cells_under}
use Rattle.segment_core.specs.Coded.{values_of}
use Rattle.segment_core.specs.CodedVector.{VectorForm, cells_of}
use Rattle.segment_core.proofs.VectorLemmas.{cells_of-under, length-cells_of}
use Rattle.segment_core.proofs.coded_vector.CodedVector.has_these.Goals as goal

pub returns-then-rows-cells : goal.returns-then-rows-cells
returns-then-rows-cells c = (
  λ yes. absurd (cc),
  λ e. absurd (c.if-rows-cells.true (c.rows.ensures.value ∙ sym (length-cells_of c.args.self.now) ∙ ap length e)),
)

pub returns : goal.returns
returns c =
    let limit : length c.args.cells.now ≤ 1024 = omega (arith, c.rows.ensures.value, c.rows.ensures.form.limit, c.if-rows-cells.false) in
    let own : cells_under (length c.args.cells.now) c.null_rows.result c.decode.new.values ≡ cells_of c.args.self.now =
    cells_of-under c.args.self.now (length c.args.cells.now) c.null_rows.result c.decode.new.values (sym (sym c.if-rows-cells.false ∙ c.rows.ensures.value)) limit c.null_rows.ensures
    (c.decode.ensures.values ∙ ap (λ (v : VectorForm). values_of v.coded) c.self.view_is) in (
      λ yes. sym own ∙ c.are_cells_of.ensures.0 yes,
      λ e. c.are_cells_of.ensures.1 (own ∙ e),
    )
