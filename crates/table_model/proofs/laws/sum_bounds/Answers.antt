-- Each value has magnitude at most 2^63.
use Rattle.table_model.proofs.Bounds.{bounds}
use Rattle.table_model.proofs.laws.sum_bounds.Goals as goal

pub returns : goal.returns
returns c = bounds
