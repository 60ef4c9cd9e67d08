-- Lane by lane.
use Rattle.frame_delta.proofs.SpanLemmas.{lane_min, lane_max}
use Rattle.frame_delta.proofs.spans.LaneSpread.with.Goals as goal

pub returns-clause-least : goal.returns-clause-least
returns-clause-least c = λ i h. lane_min c.args.self.least c.args.lanes i c.args.self.least_count c.requires h

pub returns-clause-greatest : goal.returns-clause-greatest
returns-clause-greatest c = λ i h. lane_max c.args.self.greatest c.args.lanes i c.args.self.greatest_count c.requires h
