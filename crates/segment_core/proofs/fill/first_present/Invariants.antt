-- No row so far has a value.
use Rattle.std.proofs.Common.{◌≡◌, [], take}
use Rattle.table_model.specs.Values.{present}
use Rattle.segment_core.specs.Fill.{cells_under}
use Rattle.segment_core.proofs.fill.first_present.Given as goal

abbrev pub invariant-loop-row : goal.invariant-loop-row
invariant-loop-row l = present (take l.row (cells_under l.rows l.nulls l.values)) ≡ []
