-- At one lane width the values decide.
use Rattle.std.proofs.Common.{sym, ◌∙◌}
use Rattle.std.proofs.lemmas.Bool.Decides.{Decides-int_eq}
use Rattle.std.proofs.lemmas.Slice.Eq.{slice_eq-Decides}
use Rattle.bit_interleave.proofs.ValuesLemmas.{same_at_width}
use Rattle.bit_interleave.proofs.values.Values.is_same.Goals as goal

pub returns-in-8 : goal.returns-in-8
returns-in-8 c =
    same_at_width c.args.self.now c.args.other.now c.values_8.result.now c.values_8-in-8.result.now c.eq.result (sym c.lane_width-lane_width.ensures.value ∙ c.if-lane_width.false ∙ c.lane_width.ensures.value) c.values_8.ensures c.values_8-in-8.ensures
    (slice_eq-Decides Decides-int_eq c.values_8.result.now c.values_8-in-8.result.now c.eq.result c.eq.ensures)

pub returns-in-16 : goal.returns-in-16
returns-in-16 c =
    same_at_width c.args.self.now c.args.other.now c.values_16.result.now c.values_16-in-16.result.now c.eq-in-16.result (sym c.lane_width-lane_width.ensures.value ∙ c.if-lane_width.false ∙ c.lane_width.ensures.value) c.values_16.ensures c.values_16-in-16.ensures
    (slice_eq-Decides Decides-int_eq c.values_16.result.now c.values_16-in-16.result.now c.eq-in-16.result c.eq-in-16.ensures)

pub returns-in-32 : goal.returns-in-32
returns-in-32 c =
    same_at_width c.args.self.now c.args.other.now c.values_32.result.now c.values_32-in-32.result.now c.eq-in-32.result (sym c.lane_width-lane_width.ensures.value ∙ c.if-lane_width.false ∙ c.lane_width.ensures.value) c.values_32.ensures c.values_32-in-32.ensures
    (slice_eq-Decides Decides-int_eq c.values_32.result.now c.values_32-in-32.result.now c.eq-in-32.result c.eq-in-32.ensures)

pub returns-in_default : goal.returns-in_default
returns-in_default c =
    same_at_width c.args.self.now c.args.other.now c.values_64.result.now c.values_64-in_default.result.now c.eq-in_default.result (sym c.lane_width-lane_width.ensures.value ∙ c.if-lane_width.false ∙ c.lane_width.ensures.value) c.values_64.ensures c.values_64-in_default.ensures
    (slice_eq-Decides Decides-int_eq c.values_64.result.now c.values_64-in_default.result.now c.eq-in_default.result c.eq-in_default.ensures)
