-- Lane by lane.
use Rattle.frame_delta.proofs.SpanLemmas.{length-ordered, ordered_lane}
use Rattle.frame_delta.proofs.spans.ordered.Goals as goal

pub returns-clause-long : goal.returns-clause-long
returns-clause-long c = length-ordered c.args.lane_width c.args.lanes c.requires.lanes

pub returns-clause-lanes : goal.returns-clause-lanes
returns-clause-lanes c = λ i h. ordered_lane c.args.lane_width i c.args.lanes c.requires.lane_width c.requires.lanes h
