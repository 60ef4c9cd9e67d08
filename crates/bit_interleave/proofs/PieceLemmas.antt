-- A piece's place is a reversal of bits, which undoes itself; so each row is one lane of one piece.
use Rattle.std.proofs.Common.{◌≡◌, ◌≢◌, ℕ, ◌+◌, ◌*◌, ◌/◌, ◌%◌, ◌<◌, sym, ap, ◌∙◌, arith}
use Rattle.transpose_order.specs.Place.{IsLaneWidth, lane_of, step_of, place_of}
use Rattle.transpose_order.proofs.WidthLemmas.{at_widths}

pub place_of-place_of : (t q : ℕ) → IsLaneWidth t → q < 64 → (place_of t q < 64) × (place_of t (place_of t q) ≡ q)
place_of-place_of t q width =
    at_widths (λ t. q < 64 → (place_of t q < 64) × (place_of t (place_of t q) ≡ q))
    (λ h. (omega arith, omega arith)) (λ h. (omega arith, omega arith)) (λ h. (omega arith, omega arith)) (λ h. (omega arith, omega arith)) t width

pub places_apart : (t q p : ℕ) → IsLaneWidth t → q < 64 → p < 64 → q ≢ p → place_of t q ≢ place_of t p
places_apart t q p width h k apart e =
    apart (sym (place_of-place_of t q width h).1 ∙ ap (place_of t) e ∙ (place_of-place_of t p width k).1)

-- the piece and the lane of a row
pub piece_of_row : (t n : ℕ) → IsLaneWidth t → n < 1024 → (64 * (n / 64) + place_of t (place_of t (n % 64)) ≡ n) × (16 * (place_of t (n % 64) / t) + n / 64 ≡ lane_of t n) × (place_of t (n % 64) % t ≡ step_of t n)
piece_of_row t n width =
    at_widths (λ t. n < 1024 → (64 * (n / 64) + place_of t (place_of t (n % 64)) ≡ n) × (16 * (place_of t (n % 64) / t) + n / 64 ≡ lane_of t n) × (place_of t (n % 64) % t ≡ step_of t n))
    (λ h. (omega arith, omega arith, omega arith)) (λ h. (omega arith, omega arith, omega arith))
    (λ h. (omega arith, omega arith, omega arith)) (λ h. (omega arith, omega arith, omega arith)) t width
