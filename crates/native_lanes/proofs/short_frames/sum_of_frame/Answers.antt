-- The walk's numbers are the raised values.
use Rattle.std.proofs.Common.{rules, FitsSigned, ◌∙◌}
use Rattle.std.specs.Int.{w128}
use Rattle.std.proofs.lemmas.Int.{to_z-of_z}
use Rattle.frame_delta.specs.Frame.{frame_value}
use Rattle.native_lanes.proofs.short_frames.sum_of_frame.Goals as goal

pub returns-in-16-clause-value : goal.returns-in-16-clause-value
returns-in-16-clause-value c =
    let wide : FitsSigned w128 c.sum_of_values.result = search rules in
    to_z-of_z w128 c.sum_of_values.result wide ∙ c.sum_of_values.ensures (frame_value c.args.form.now) c.walk_of_frame_16.ensures
