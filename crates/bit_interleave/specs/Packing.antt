-- What packed words mean: a lane's words, one after another, hold the lane's values from the lowest bit on.
use Rattle.std.specs.Prelude.{◌≡◌, ℕ, ◌+◌, ◌*◌, ◌/◌, ◌%◌, ◌^◌, ◌<◌, List, map, length, slice_index}
use Rattle.std.specs.Int.{bit_at}
use Rattle.std.specs.List.{All, range_with_len}
use Rattle.transpose_order.specs.Place.{IsLaneWidth, lane_of, step_of, row_at}
use Rattle.transpose_order.specs.Mask.{rows_of, number_of_bits}

-- bit b of a lane, counted on through its words of t bits, of which word k of lane l is word k * (1024 / t) + l of the vector
unfoldable pub lane_bit : ℕ → List ℕ → ℕ → ℕ → ℕ
lane_bit t words lane b = bit_at (slice_index words (b / t * (1024 / t) + lane)) (b % t)

-- the sixteen values of f, one a lane of a group
unfoldable pub sixteen_of : {X : Type 0} → (ℕ → X) → List X
sixteen_of f = map f (range_with_len 0 16)

-- the value of w bits at a lane and a step of packed words of t bits
unfoldable pub packed_value : ℕ → ℕ → List ℕ → ℕ → ℕ → ℕ
packed_value t w words lane step = number_of_bits w (λ c. lane_bit t words lane (step * w + c))

-- the 1024 values of w bits of packed words of t bits, in row order
unfoldable pub unpacked : ℕ → ℕ → List ℕ → List ℕ
unpacked t w words = rows_of (λ n. packed_value t w words (lane_of t n) (step_of t n))

-- bit b of the values of w bits of a lane, one step after another, lowest bit first
unfoldable pub value_bit : ℕ → ℕ → List ℕ → ℕ → ℕ → ℕ
value_bit t w values lane b = bit_at (slice_index values (row_at t lane (b / w))) (b % w)

-- word k of a lane of t bits that packs 1024 values of w bits in row order
unfoldable pub packed_word : ℕ → ℕ → List ℕ → ℕ → ℕ → ℕ
packed_word t w values lane k = number_of_bits t (λ b. value_bit t w values lane (k * t + b))

-- the words of t bits that pack 1024 values of w bits in row order
unfoldable pub packed : ℕ → ℕ → List ℕ → List ℕ
packed t w values =
    map (λ i. packed_word t w values (i % (1024 / t)) (i / (1024 / t))) (range_with_len 0 (w * (1024 / t)))

-- unpacking gives back the values that were packed
abbrev pub UnpackingUndoesPacking : Type 0
UnpackingUndoesPacking =
    (t w : ℕ) (values : List ℕ) → IsLaneWidth t → length values ≡ 1024 → All (λ v. v < 2 ^ w) values → unpacked t w (packed t w values) ≡ values

-- packing gives back the words that were unpacked, so every bit of every word is some value's
abbrev pub PackingUndoesUnpacking : Type 0
PackingUndoesUnpacking =
    (t w : ℕ) (words : List ℕ) → IsLaneWidth t → length words ≡ w * (1024 / t) → All (λ n. n < 2 ^ t) words → packed t w (unpacked t w words) ≡ words
