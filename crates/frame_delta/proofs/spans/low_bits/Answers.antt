-- Lane by lane.
use Rattle.bit_interleave.proofs.StepLemmas.{narrow_width}
use Rattle.frame_delta.proofs.SpanLemmas.{length-low_bits, low_bits_lane}
use Rattle.frame_delta.proofs.spans.low_bits.Goals as goal

pub returns-clause-long : goal.returns-clause-long
returns-clause-long c = length-low_bits c.args.lane_width c.args.lanes c.requires.lanes

pub returns-clause-lanes : goal.returns-clause-lanes
returns-clause-lanes c = λ i h. low_bits_lane c.args.lane_width i c.args.lanes (narrow_width c.args.lane_width c.requires.lane_width) c.requires.lanes h
