-- The decoded values under the null masks are the cells.
use Rattle.std.proofs.Common.{◌≡◌, ◌≤◌, arith, length, sym, ◌∙◌, ap}
use Rattle.segment_core.specs.Fill.{cells_under}
use Rattle.segment_core.specs.Coded.{values_of}
use Rattle.segment_core.specs.CodedVector.{VectorForm, cells_of}
use Rattle.segment_core.proofs.VectorLemmas.{cells_of-under, length-cells_of}
use Rattle.segment_core.proofs.coded_vector.CodedVector.same_cells.Goals as goal

pub returns-then-rows : goal.returns-then-rows
returns-then-rows c = (
  λ yes. absurd (cc),
  λ e. absurd (c.if-rows.true
      (c.rows-rows.ensures.value ∙ sym (length-cells_of c.args.self.now) ∙ ap length e ∙ length-cells_of c.args.other.now ∙ sym c.rows.ensures.value)),
)

pub returns : goal.returns
returns c =
    let limit : c.rows-rows.result ≤ 1024 = omega (arith, c.rows-rows.ensures.value, c.rows-rows.ensures.form.limit) in
    let own : cells_under c.rows-rows.result c.null_rows-nulls.result c.decode.new.values ≡ cells_of c.args.self.now =
    cells_of-under c.args.self.now c.rows-rows.result c.null_rows-nulls.result c.decode.new.values (sym c.rows-rows.ensures.value) limit c.null_rows-nulls.ensures
    (c.decode.ensures.values ∙ ap (λ (v : VectorForm). values_of v.coded) c.self.view_is) in
    let theirs : cells_under c.rows-rows.result c.null_rows-other_nulls.result c.decode-2.new.values ≡ cells_of c.args.other.now =
    cells_of-under c.args.other.now c.rows-rows.result c.null_rows-other_nulls.result c.decode-2.new.values (sym (c.if-rows.false ∙ c.rows.ensures.value)) limit c.null_rows-other_nulls.ensures
    (c.decode-2.ensures.values ∙ ap (λ (v : VectorForm). values_of v.coded) c.other.view_is) in (
      λ yes. sym own ∙ c.are_same_cells.ensures.0 yes ∙ theirs,
      λ e. c.are_same_cells.ensures.1 (own ∙ e ∙ sym theirs),
    )
