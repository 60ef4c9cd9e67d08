-- A place is a row's and a row has a place, at each width by arithmetic.
use Rattle.std.proofs.Common.{◌≡◌, ℕ, ◌+◌, ◌*◌, ◌/◌, ◌%◌, ◌<◌, arith}
use Rattle.transpose_order.specs.Place.{IsLaneWidth, lane_of, step_of, row_at, place_of}
use Rattle.transpose_order.proofs.WidthLemmas.{at_widths}

pub row_at-lane_of : (t n : ℕ) → IsLaneWidth t → n < 1024 → (lane_of t n < 1024 / t) × (step_of t n < t) × (row_at t (lane_of t n) (step_of t n) ≡ n)
row_at-lane_of t n w =
    at_widths (λ t. n < 1024 → (lane_of t n < 1024 / t) × (step_of t n < t) × (row_at t (lane_of t n) (step_of t n) ≡ n))
    (λ h. (omega arith, omega arith, omega arith)) (λ h. (omega arith, omega arith, omega arith))
    (λ h. (omega arith, omega arith, omega arith)) (λ h. (omega arith, omega arith, omega arith)) t w

pub lane_of-row_at : (t lane step : ℕ) → IsLaneWidth t → lane < 1024 / t → step < t → (row_at t lane step < 1024) × (lane_of t (row_at t lane step) ≡ lane) × (step_of t (row_at t lane step) ≡ step)
lane_of-row_at t lane step w =
    at_widths (λ t. lane < 1024 / t → step < t → (row_at t lane step < 1024) × (lane_of t (row_at t lane step) ≡ lane) × (step_of t (row_at t lane step) ≡ step))
    (λ h l. (omega arith, omega arith, omega arith)) (λ h l. (omega arith, omega arith, omega arith))
    (λ h l. (omega arith, omega arith, omega arith)) (λ h l. (omega arith, omega arith, omega arith)) t w

pub row_at-piece : (t q i : ℕ) → IsLaneWidth t → q < 64 → i < 16 → (place_of t q < 64) × (row_at t (16 * (q / t) + i) (q % t) ≡ 64 * i + place_of t q)
row_at-piece t q i w =
    at_widths (λ t. q < 64 → i < 16 → (place_of t q < 64) × (row_at t (16 * (q / t) + i) (q % t) ≡ 64 * i + place_of t q))
    (λ h l. (omega arith, omega arith)) (λ h l. (omega arith, omega arith)) (λ h l. (omega arith, omega arith)) (λ h l. (omega arith, omega arith)) t w
