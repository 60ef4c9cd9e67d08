-- A row belongs to one piece, the one that is next at the row's place in its word.
use Rattle.std.proofs.Common.{◌≡◌, ◌≢◌, ℕ, ◌+◌, ◌*◌, ◌/◌, ◌%◌, ◌<◌, sym, ◌∙◌, arith}
use Rattle.transpose_order.specs.Place.{IsLaneWidth, place_of}
use Rattle.bit_interleave.proofs.PieceLemmas.{place_of-place_of, places_apart}

-- the piece and the lane that have a row
pub place_of_row : (t n : ℕ) → IsLaneWidth t → n < 1024 → (n / 64 < 16) × (place_of t (n % 64) < 64) × (64 * (n / 64) + place_of t (place_of t (n % 64)) ≡ n)
place_of_row t n width h =
    let small : n % 64 < 64 = omega arith in
    let back = place_of-place_of t (n % 64) width small in
    (omega arith, back.0, omega (arith, back.1))

-- rows of other pieces have other places
pub other_place : (t q k i : ℕ) → IsLaneWidth t → q < 64 → k < q → (64 * i + place_of t k) % 64 ≢ place_of t q
other_place t q k i width h less e =
    let inside : place_of t k < 64 = (place_of-place_of t k width (omega arith)).0 in
    places_apart t k q width (omega arith) h (λ same. omega (arith, same)) (let rest : (64 * i + place_of t k) % 64 ≡ place_of t k = omega arith in sym rest ∙ e)
