-- The values of a frame or of deltas are those of the coding.
use Rattle.std.proofs.Common.{◌≡◌, ℤ, Option, IfSome, sym, subst}
use Rattle.frame_delta.specs.Frame.{FrameForm, frame_value}
use Rattle.frame_delta.specs.Delta.{DeltaForm, delta_value}
use Rattle.native_lanes.specs.Extremes.{extreme_at}
use Rattle.segment_core.specs.Coded.{value_in}
use Rattle.segment_core.specs.declared.coded.Coded.{Coded}
use Rattle.fused_kernels.proofs.vector_extremes.extreme_by_coding.Goals as goal

pub returns-in-For : goal.returns-in-For
returns-in-For c =
    subst (λ (x : Coded). IfSome c.extreme.result (λ (found : Option ℤ). found ≡ extreme_at c.args.side c.args.rows.now (value_in x))) (sym c.in-For.is)
    (subst (λ (form : FrameForm). IfSome c.extreme.result (λ (found : Option ℤ). found ≡ extreme_at c.args.side c.args.rows.now (frame_value form))) c.get.ensures c.extreme.ensures.value)

pub returns-in-Delta : goal.returns-in-Delta
returns-in-Delta c =
    subst (λ (x : Coded). IfSome c.extreme-in-Delta.result (λ (found : Option ℤ). found ≡ extreme_at c.args.side c.args.rows.now (value_in x))) (sym c.in-Delta.is)
    (subst (λ (form : DeltaForm). IfSome c.extreme-in-Delta.result (λ (found : Option ℤ). found ≡ extreme_at c.args.side c.args.rows.now (delta_value form))) c.get-in-Delta.ensures c.extreme-in-Delta.ensures.value)
