-- the changes before the row are counted
use Rattle.std.proofs.Common.{◌≡◌, suc, ◌-◌, ◌<◌}
use Rattle.transpose_order.specs.Mask.{count_below}
use Rattle.bit_interleave.specs.Range.{value_at}
use Rattle.run_dictionary.specs.Runs.{changes_at}
use Rattle.run_dictionary.proofs.run_words.count_changes.Given as goal

abbrev pub invariant-loop-row : goal.invariant-loop-row
invariant-loop-row l = (l.count ≡ count_below (λ i. changes_at (value_at l.values) (suc i)) (l.row - 1)) × (l.count < l.row)
