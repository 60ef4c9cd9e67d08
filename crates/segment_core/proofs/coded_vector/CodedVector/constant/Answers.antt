-- The frame of one value is the canonical form of cells that all have it.
use Rattle.std.proofs.Common.{◌∙◌, FitsSigned, sym, ap, rules}
use Rattle.std.specs.Int.{w64}
use Rattle.std.proofs.lemmas.Int.{to_z-of_z}
use Rattle.segment_core.specs.Cover.{Cover}
use Rattle.segment_core.specs.Fill.{filled}
use Rattle.segment_core.specs.declared.coded.Coded.TheVariants.{For}
use Rattle.segment_core.proofs.SameCells.{filled_same, vector_same}
use Rattle.segment_core.proofs.coded_vector.CodedVector.constant.Goals as goal

pub returns : goal.returns
returns c cells same =
    let fits : FitsSigned w64 c.args.value = search rules in
    let form = c.in_ok-form.ensures (filled cells) (λ n l. filled_same c.args.rows c.args.value cells c.requires.some same n l ∙ sym (to_z-of_z w64 c.args.value fits)) in
    vector_same c.args.rows c.args.value cells c.requires.some same c.args.lane_width _ c.requires.lane_width
    (ap (λ (x : Cover). x.rows) c.new-cover.ensures) (ap (λ (x : Cover). x.nulls) c.new-cover.ensures) (ap For (c.in_ok-new.ensures ∙ form))
