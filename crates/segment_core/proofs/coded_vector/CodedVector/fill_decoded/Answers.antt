-- The decoded values under the null mask are the vector's cells.
use Rattle.std.proofs.Common.{ℤ, List, arith, sym, ◌∙◌, ap, subst}
use Rattle.bit_interleave.specs.Range.{AreInRange}
use Rattle.segment_core.specs.Fill.{filled}
use Rattle.segment_core.specs.Coded.{lane_width_of}
use Rattle.segment_core.specs.CodedVector.{cells_of, IsVector}
use Rattle.segment_core.proofs.VectorLemmas.{cells_of-under, filled_in_range, cells_in_range, lane_width_is}
use Rattle.segment_core.proofs.coded_vector.CodedVector.fill_decoded.Goals as goal

pub returns-clause-values : goal.returns-clause-values
returns-clause-values c =
    c.fill.ensures
    ∙ ap filled (cells_of-under c.args.self.now c.rows.result c.null_rows.result c.args.values.now
    (sym c.rows.ensures.value) (omega (arith, c.rows.ensures.value, c.rows.ensures.form.limit)) c.null_rows.ensures c.requires)

pub returns-clause-fit : goal.returns-clause-fit
returns-clause-fit c =
    let is : IsVector c.args.self.now = c.rows.ensures.form in
    subst (λ (xs : List ℤ). AreInRange (lane_width_of c.args.self.now.coded) xs) (sym (returns-clause-values c))
    (filled_in_range (lane_width_of c.args.self.now.coded) (cells_of c.args.self.now) (lane_width_is c.args.self.now.coded is.form) (cells_in_range c.args.self.now is))
