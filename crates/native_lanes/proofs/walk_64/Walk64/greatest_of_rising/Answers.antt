-- The last step has the greatest number of each lane, and the first the least.
use Rattle.std.proofs.Common.{◌≡◌, ℕ, ◌<◌, cond, slice_index, inr, refl, sym, ap, ◌∙◌}
use Rattle.native_lanes.specs.Walks.{number_at, turned}
use Rattle.native_lanes.proofs.RisingLemmas.{lane_of_rising}
use Rattle.native_lanes.proofs.WalkFoldLemmas.{greatest_of_walk}
use Rattle.native_lanes.proofs.walk_64.Walk64.greatest_of_rising.Goals as goal
use Rattle.native_lanes.proofs.walk_64.Walk64.greatest_of_rising.Goals.{then-flipped, else-flipped}

pub returns : goal.returns
returns c =
    let walk = c.args.self.now in
    let flipped = c.args.flipped in
    let numbers = c.if-flipped.numbers in
    let number : (lane : ℕ) → lane < 16 → slice_index numbers lane ≡ number_at walk lane (cond flipped 0 63) = λ lane h. elim c.if-flipped.branch [
      | then-flipped w ↦ ap (λ xs. slice_index xs lane) w.numbers-is ∙ c.requires.first lane h ∙ ap (λ b. number_at walk lane (cond b 0 63)) (sym w.if-flipped.true)
      | else-flipped w ↦ ap (λ xs. slice_index xs lane) w.numbers-is ∙ w.last_numbers-numbers.ensures lane h ∙ ap (λ b. number_at walk lane (cond b 0 63)) (sym w.if-flipped.false)
    ] in
    c.greatest_of_turned.ensures
    ∙ greatest_of_walk walk c.args.rows.now 64 flipped (λ lane. turned 64 flipped (slice_index numbers lane)) (inr (inr (inr refl))) c.keeps_lanes_of_64.ensures
    (λ lane h. ap (turned 64 flipped) (number lane h)
    ∙ lane_of_rising walk c.args.rows.now flipped 64 lane 63 (λ s l. c.requires.rising lane s h l) (λ s l. c.requires.all lane s h l))
