-- No number is above the greatest of 64 bits.
use Rattle.std.proofs.Common.{sym, ap}
use Rattle.native_lanes.specs.Walks.{Walk}
use Rattle.native_lanes.proofs.WalkFoldLemmas.{number_of_row-below}
use Rattle.native_lanes.proofs.walk_64.Walk64.greatest.Goals as goal

pub returns-then-is_rising-clause-below : goal.returns-then-is_rising-clause-below
returns-then-is_rising-clause-below c = λ n. number_of_row-below c.args.self.now 64 n (ap (λ (w : Walk). w.lane_width) (sym c.self.view_is))
