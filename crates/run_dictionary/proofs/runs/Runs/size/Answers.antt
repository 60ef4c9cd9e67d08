-- The changes are counted.
use Rattle.std.proofs.Common.{suc, ◌+◌, ◌-◌, ◌*◌, ◌/◌, sym, ap, ◌∙◌}
use Rattle.transpose_order.specs.Mask.{count_below}
use Rattle.run_dictionary.specs.Runs.{changes_at}
use Rattle.bit_interleave.specs.Range.{value_at}
use Rattle.run_dictionary.proofs.RunLemmas.{length-changed_values}
use Rattle.run_dictionary.proofs.runs.Runs.size.Goals as goal

pub returns : goal.returns
returns c =
    ap (λ k. 128 + (k + 1) * c.args.lane_width / 8) (c.count_changes.ensures.value ∙ ap (λ n. count_below (λ i. changes_at (value_at c.args.values.now) (suc i)) (n - 1)) c.told-values)
    ∙ ap (λ k. 128 + k * c.args.lane_width / 8) (sym (length-changed_values (value_at c.args.values.now) 1023))
