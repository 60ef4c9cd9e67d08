-- Numbers that are half on, and half on once more, are as they were.
use Rattle.std.proofs.Common.{ℕ, max, cond, slice_index, inr, refl, ap, ◌∙◌}
use Rattle.transpose_order.specs.Mask.{has}
use Rattle.transpose_order.specs.Place.{row_at}
use Rattle.native_lanes.specs.Walks.{number_at, turned, half_on}
use Rattle.native_lanes.proofs.FoldLemmas.{fold_to-same}
use Rattle.native_lanes.proofs.WalkLemmas.{half_on_again}
use Rattle.native_lanes.proofs.WalkFoldLemmas.{greatest_of_walk, number_of_row-below}
use Rattle.native_lanes.proofs.walk_64.Walk64.greatest_by_steps.Goals as goal

pub returns-clause-value : goal.returns-clause-value
returns-clause-value c =
    let walk = c.args.self.now in
    let rows = c.args.rows.now in
    let flipped = c.args.flipped in
    let far : ℕ → ℕ → ℕ = λ lane s. cond (has rows (row_at 64 lane s)) (turned 64 flipped (half_on (number_at c.shifted-half.result lane s))) 0 in
    let near : ℕ → ℕ → ℕ = λ lane s. cond (has rows (row_at 64 lane s)) (turned 64 flipped (number_at walk lane s)) 0 in
    let width = c.shifted-half.ensures.width in
    c.greatest_of_turned.ensures
    ∙ greatest_of_walk walk rows 64 flipped (λ lane. turned 64 flipped (slice_index c.all_shifted.result lane)) (inr (inr (inr refl))) width
    (λ lane h.
    ap (λ (n : ℕ). turned 64 flipped n) (c.all_shifted.ensures lane h) ∙ c.furthest_of_lanes-furthest.ensures lane h
    ∙ fold_to-same max 0 64 (far lane) (near lane)
    (λ s l. ap (λ (n : ℕ). cond (has rows (row_at 64 lane s)) (turned 64 flipped n) 0) (half_on_again walk c.shifted-half.result lane s width (c.shifted-half.ensures.numbers lane s h l))))

pub returns-clause-below : goal.returns-clause-below
returns-clause-below c = λ n. number_of_row-below c.args.self.now 64 n c.shifted-half.ensures.width
