-- The number found, turned back, is the extreme value, raised.
use Rattle.std.proofs.Common.{ℕ, ◌^◌, cond, nat_lt, pos, ◌-ℤ◌, Some, None, ap, ◌∙◌}
use Rattle.transpose_order.specs.Mask.{has, count_below}
use Rattle.native_lanes.specs.Walks.{number_of_row, turned}
use Rattle.native_lanes.proofs.WalkFoldLemmas.{extreme_raised}
use Rattle.native_lanes.proofs.walk_16.Walk16.extreme_value.Goals as goal

pub returns : goal.returns
returns c = λ value raised.
    c.value_above.ensures
    ∙ ap (λ (n : ℕ). cond (nat_lt 0 (count_below (has c.args.rows.now) 1024)) (Some (pos n -ℤ pos (2 ^ 15))) None) (c.from.ensures ∙ c.turned-found.ensures ∙ ap (turned 16 c.is_least-flipped.result) c.greatest.ensures.value)
    ∙ extreme_raised c.args.side 16 (2 ^ 15) (has c.args.rows.now) (number_of_row c.args.self.now) value c.is_least-flipped.result c.is_least-flipped.ensures (λ n h. c.greatest.ensures.below n) raised
