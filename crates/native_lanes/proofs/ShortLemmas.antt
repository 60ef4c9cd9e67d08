-- The sum of packed numbers by lanes and steps is the sum by rows, and with a reference as often as there are rows the sum of values.
use Rattle.std.proofs.Common.{◌≡◌, ℕ, zero, suc, ◌+◌, ◌/◌, ◌^◌, ◌<◌, ◌≤◌, Bool, true, false, cond, ℤ, pos, ◌+ℤ◌, ◌*ℤ◌, List, sym, ap, ◌∙◌, arith}
use Rattle.std.proofs.Math.Pow.{pow_mono}
use Rattle.std.proofs.lemmas.Int.{ints}
use Rattle.transpose_order.specs.Mask.{has, count_below}
use Rattle.transpose_order.proofs.MaskLemmas.{count_below-zero, count_below-suc}
use Rattle.transpose_order.specs.Place.{IsLaneWidth, row_at, lane_of, step_of}
use Rattle.transpose_order.proofs.PlaceLemmas.{lane_of-row_at}
use Rattle.bit_interleave.specs.Packing.{packed_value}
use Rattle.bit_interleave.proofs.StepLemmas.{packed_value-below}
use Rattle.native_lanes.specs.Folds.{fold_to}
use Rattle.native_lanes.proofs.FoldLemmas.{fold_to-zero, fold_to-suc, fold_to-same}
use Rattle.native_lanes.proofs.WalkLemmas.{fold_to-lanes, added_is_join}

-- a number of at most so many bits
pub packed_value-short : (t w most : ℕ) (words : List ℕ) (lane step : ℕ) → w ≤ most → packed_value t w words lane step < 2 ^ most
packed_value-short t w most words lane step h =
    let below = packed_value-below t w words lane step in
    let more : 2 ^ w ≤ 2 ^ most = pow_mono h in
    omega (arith, below, more)

pub taken_at_most : (b : Bool) (n m : ℕ) → n ≤ m → cond b n 0 ≤ m
taken_at_most true n m h = h
taken_at_most false n m h = omega arith

pub sum_of_packed : (t w : ℕ) (words : List ℕ) (rows : List Bool) (sums : ℕ → ℕ) → IsLaneWidth t
    → ((lane : ℕ) → lane < 1024 / t → sums lane ≡ fold_to ◌+◌ 0 t (λ s. cond (has rows (row_at t lane s)) (packed_value t w words lane s) 0))
    → fold_to ◌+◌ 0 (1024 / t) sums ≡ fold_to ◌+◌ 0 1024 (λ n. cond (has rows n) (packed_value t w words (lane_of t n) (step_of t n)) 0)
sum_of_packed t w words rows sums width lanes =
    let f : ℕ → ℕ = λ n. cond (has rows n) (packed_value t w words (lane_of t n) (step_of t n)) 0 in
    fold_to-same ◌+◌ 0 (1024 / t) sums (λ lane. fold_to ◌+◌ 0 t (λ s. f (row_at t lane s)))
    (λ lane h. lanes lane h ∙ fold_to-same ◌+◌ 0 t (λ s. cond (has rows (row_at t lane s)) (packed_value t w words lane s) 0) (λ s. f (row_at t lane s)) (λ s l. sym (here lane s h l)))
    ∙ fold_to-lanes ◌+◌ 0 added_is_join t f width
  where
    here : (lane s : ℕ) → lane < 1024 / t → s < t
        → cond (has rows (row_at t lane s)) (packed_value t w words (lane_of t (row_at t lane s)) (step_of t (row_at t lane s))) 0 ≡ cond (has rows (row_at t lane s)) (packed_value t w words lane s) 0
    here lane s h l =
        let place = lane_of-row_at t lane s width h l in
        ap (λ (k : ℕ). cond (has rows (row_at t lane s)) (packed_value t w words k (step_of t (row_at t lane s))) 0) place.1
        ∙ ap (λ (k : ℕ). cond (has rows (row_at t lane s)) (packed_value t w words lane k) 0) place.2

-- ---- values above a reference
value_more : (b : Bool) (r z v : ℤ) (n sum count : ℕ) → z ≡ r *ℤ pos count +ℤ pos sum → v ≡ r +ℤ pos n → z +ℤ cond b v (pos 0) ≡ r *ℤ pos (count + cond b 1 0) +ℤ pos (sum + cond b n 0)
value_more true r z v n sum count e d =
    let more : r *ℤ pos (count + 1) ≡ r *ℤ pos count +ℤ r = grind (arith, ints) in
    omega (arith, ints, e, d, more)
value_more false r z v n sum count e d = omega (arith, ints, e)

pub sum_of_values : (r : ℤ) (b : ℕ → Bool) (number : ℕ → ℕ) (value : ℕ → ℤ) (k : ℕ) → ((n : ℕ) → n < k → value n ≡ r +ℤ pos (number n))
    → fold_to ◌+ℤ◌ (pos 0) k (λ n. cond (b n) (value n) (pos 0)) ≡ r *ℤ pos (count_below b k) +ℤ pos (fold_to ◌+◌ 0 k (λ n. cond (b n) (number n) 0))
sum_of_values r b number value zero above =
    let none : r *ℤ pos (count_below b 0) ≡ pos 0 = ap (λ n. r *ℤ pos n) (count_below-zero b) ∙ omega (arith, ints) in
    fold_to-zero ◌+ℤ◌ (pos 0) (λ n. cond (b n) (value n) (pos 0))
    ∙ sym (ap (λ n. r *ℤ pos (count_below b 0) +ℤ pos n) (fold_to-zero ◌+◌ 0 (λ n. cond (b n) (number n) 0)) ∙ ap (λ z. z +ℤ pos 0) none ∙ omega (arith, ints))
sum_of_values r b number value (suc k) above =
    fold_to-suc ◌+ℤ◌ (pos 0) k (λ n. cond (b n) (value n) (pos 0))
    ∙ value_more (b k) r (fold_to ◌+ℤ◌ (pos 0) k (λ n. cond (b n) (value n) (pos 0))) (value k) (number k) (fold_to ◌+◌ 0 k (λ n. cond (b n) (number n) 0)) (count_below b k)
    (sum_of_values r b number value k (λ n h. above n (omega arith))) (above k (omega arith))
    ∙ ap (λ c. r *ℤ pos c +ℤ pos (fold_to ◌+◌ 0 k (λ n. cond (b n) (number n) 0) + cond (b k) (number k) 0)) (sym (count_below-suc b k))
    ∙ ap (λ s. r *ℤ pos (count_below b (suc k)) +ℤ pos s) (sym (fold_to-suc ◌+◌ 0 k (λ n. cond (b n) (number n) 0)))
