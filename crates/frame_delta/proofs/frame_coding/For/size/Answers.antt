-- The least form has the frame's width.
use Rattle.std.proofs.Common.{◌+◌, ◌*◌, ◌/◌, ap}
use Rattle.frame_delta.specs.Frame.{least_frame}
use Rattle.frame_delta.proofs.frame_coding.For.size.Goals as goal

pub returns : goal.returns
unfolding least_frame
returns c = ap (λ w. c.args.lane_width / 8 + 128 * w) c.of-frame.ensures.width
