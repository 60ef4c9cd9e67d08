use Rattle.std.proofs.Common.{sym, ap}
use Rattle.native_lanes.specs.Walks.{Walk}
use Rattle.native_lanes.proofs.walk_32.Walk32.keeps_lanes_of_32.Goals as goal

pub returns : goal.returns
returns c = ap (λ (w : Walk). w.lane_width) (sym c.self.view_is)
