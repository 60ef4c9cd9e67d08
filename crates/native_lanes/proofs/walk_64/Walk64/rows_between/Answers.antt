-- Each row has a lane and a step, and its number has 64 bits.
use Rattle.std.proofs.Common.{◌≡◌, ◌==◌, ℕ, ◌+◌, ◌-◌, ◌%◌, ◌^◌, ◌<◌, ◌≤◌, ◌&&◌, true, false, nat_le, inr, refl, slice_index, sym, ap, ◌∙◌, arith}
use Rattle.std.specs.Int.{bit_at}
use Rattle.transpose_order.specs.Place.{lane_of, step_of}
use Rattle.transpose_order.specs.MaskWords.{rows_of-like}
use Rattle.transpose_order.proofs.PlaceLemmas.{row_at-lane_of}
use Rattle.native_lanes.specs.Walks.{number_of_row}
use Rattle.native_lanes.proofs.NativeLemmas.{shifted, none_within, each_within}
use Rattle.native_lanes.proofs.WalkFoldLemmas.{number_of_row-below, row_in_lane}
use Rattle.native_lanes.proofs.walk_64.Walk64.rows_between.Goals as goal

pub returns-then-last-first-clause-rows : goal.returns-then-last-first-clause-rows
returns-then-last-first-clause-rows c =
    let number : ℕ → ℕ = number_of_row c.args.self.now in
    c.none.ensures
    ∙ rows_of-like (λ _. false) (λ n. nat_le c.args.first (number n) && nat_le (number n) c.args.last) (λ n h. sym (none_within (number n) c.args.first c.args.last c.if-last-first.true))

pub returns-then-last-eq18446744073709551615-clause-rows : goal.returns-then-last-eq18446744073709551615-clause-rows
returns-then-last-eq18446744073709551615-clause-rows c =
    let walk = c.args.self.now in
    let number : ℕ → ℕ = number_of_row walk in
    c.all.ensures
    ∙ rows_of-like (λ _. true) (λ n. nat_le c.args.first (number n) && nat_le (number n) c.args.last)
    (λ n h. sym (each_within (number n) c.args.first c.args.last (2 ^ 64 - 1) c.if-first-eq0.true c.if-last-eq18446744073709551615.true (number_of_row-below walk 64 n c.keeps_lanes_of_64.ensures)))

pub returns-clause-rows : goal.returns-clause-rows
returns-clause-rows c =
    let walk = c.args.self.now in
    let number : ℕ → ℕ = number_of_row walk in
    c.mask_of_lanes.ensures
    ∙ rows_of-like (λ n. bit_at (slice_index c.marks-marks.result (lane_of 64 n)) (step_of 64 n) == 1) (λ n. nat_le c.args.first (number n) && nat_le (number n) c.args.last)
    (λ n h.
    let place = row_at-lane_of 64 n (inr (inr (inr refl))) h in
    let none : 0 + (2 ^ 64 - c.args.first) ≡ 2 ^ 64 - c.args.first = omega arith in
    let fits : number n < 2 ^ 64 = omega (arith, number_of_row-below walk 64 n c.keeps_lanes_of_64.ensures) in
    let order : c.args.first ≤ c.args.last = omega (arith, c.if-last-first.false) in
    c.marks-marks.ensures (lane_of 64 n) (step_of 64 n) place.0 place.1
    ∙ ap (λ (x : ℕ). nat_le ((x + (0 + (2 ^ 64 - c.args.first)) % 2 ^ 64) % 2 ^ 64) (c.args.last - c.args.first)) (row_in_lane walk 64 n c.keeps_lanes_of_64.ensures)
    ∙ ap (λ (o : ℕ). nat_le ((number n + o % 2 ^ 64) % 2 ^ 64) (c.args.last - c.args.first)) none
    ∙ shifted (2 ^ 64) (number n) c.args.first c.args.last fits c.ranges.last.fits order)

pub returns-then-last-first-clause-below : goal.returns-then-last-first-clause-below
returns-then-last-first-clause-below c = λ n. number_of_row-below c.args.self.now 64 n c.keeps_lanes_of_64.ensures

pub returns-then-last-eq18446744073709551615-clause-below : goal.returns-then-last-eq18446744073709551615-clause-below
returns-then-last-eq18446744073709551615-clause-below c = λ n. number_of_row-below c.args.self.now 64 n c.keeps_lanes_of_64.ensures

pub returns-clause-below : goal.returns-clause-below
returns-clause-below c = λ n. number_of_row-below c.args.self.now 64 n c.keeps_lanes_of_64.ensures
