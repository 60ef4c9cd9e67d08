-- The least form has the width of the differences within the lanes.
use Rattle.std.proofs.Common.{◌+◌, ◌*◌, ◌/◌, ℤ, List, sym, subst, ap, ◌∙◌}
use Rattle.bit_interleave.specs.Range.{AreInRange}
use Rattle.frame_delta.specs.Frame.{frame_width}
use Rattle.frame_delta.specs.Delta.{least_delta}
use Rattle.frame_delta.proofs.DifferenceLemmas.{AreInRange-differences_within, frame_width-differences_within}
use Rattle.frame_delta.proofs.delta_coding.Delta.size.Goals as goal

pub of-frame-requires-clause-fit : goal.of-frame-requires-clause-fit
of-frame-requires-clause-fit c =
    subst (λ (xs : List ℤ). AreInRange c.args.lane_width xs) (sym c.differences_within.ensures) (AreInRange-differences_within c.args.lane_width c.args.values.now)

pub returns : goal.returns
unfolding least_delta
returns c =
    let t = c.args.lane_width in
    ap (λ w. t / 8 + 128 + 128 * w) (c.of-frame.ensures.width ∙ ap frame_width c.differences_within.ensures ∙ frame_width-differences_within t c.args.values.now c.requires.lane_width)
