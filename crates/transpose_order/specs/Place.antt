-- Where a row of a vector of 1024 rows is: its lane, its step, and its position in the one order of all widths.
use Rattle.std.specs.Prelude.{◌≡◌, ℕ, zero, suc, ◌+◌, ◌*◌, ◌/◌, ◌%◌, ◌^◌, ◌<◌, cond, ◌==◌, ◌⊎◌}

-- the k low bits of x in reverse
abbrev pub reversed : ℕ → ℕ → ℕ
reversed zero x = 0
reversed (suc k) x = x % 2 * 2 ^ k + reversed k (x / 2)

-- a lane has 8, 16, 32 or 64 bits
abbrev pub IsLaneWidth : ℕ → Type 0
IsLaneWidth t = (t ≡ 8) ⊎ (t ≡ 16) ⊎ (t ≡ 32) ⊎ (t ≡ 64)

-- the base two logarithm of the number of pieces of t bits in a word of 64 bits
abbrev pub group_bits : ℕ → ℕ
group_bits t = cond (t == 8) 3 (cond (t == 16) 2 (cond (t == 32) 1 0))

-- the lane of row n at lane width t
abbrev pub lane_of : ℕ → ℕ → ℕ
lane_of t n = 16 * reversed (group_bits t) (n % 64 / t) + n / 64

-- the step of row n within its lane
abbrev pub step_of : ℕ → ℕ → ℕ
step_of t n = n % t

-- the row at a lane and a step
abbrev pub row_at : ℕ → ℕ → ℕ → ℕ
row_at t lane step = 64 * (lane % 16) + t * reversed (group_bits t) (lane / 16) + step

-- the position of row n in the order that serves every lane width
abbrev pub position_of : ℕ → ℕ
position_of n = 128 * (n % 8) + 16 * reversed 3 (n / 8 % 8) + n / 64

-- the bit of each of a mask's words that belongs to piece q, which has a row of each of sixteen lanes
abbrev pub place_of : ℕ → ℕ → ℕ
place_of t q = t * reversed (group_bits t) (q / t) + q % t

-- no two rows share a lane and a step, since these give the row back
abbrev pub PlacesAreDistinct : Type 0
PlacesAreDistinct =
    (t n : ℕ) → IsLaneWidth t → n < 1024 → (lane_of t n < 1024 / t) × (step_of t n < t) × (row_at t (lane_of t n) (step_of t n) ≡ n)

-- every lane and step is a row's
abbrev pub EveryPlaceIsARow : Type 0
EveryPlaceIsARow =
    (t lane step : ℕ) → IsLaneWidth t → lane < 1024 / t → step < t → (row_at t lane step < 1024) × (lane_of t (row_at t lane step) ≡ lane) × (step_of t (row_at t lane step) ≡ step)

-- one order serves every lane width: a row's lane and step at any width give the same position
abbrev pub OneOrderServesEveryWidth : Type 0
OneOrderServesEveryWidth =
    (t n : ℕ) → IsLaneWidth t → n < 1024 → position_of n ≡ 128 * (step_of t n % 8) + 16 * reversed 3 (step_of t n / 8) + lane_of t n

-- piece q of sixteen lanes has in element i the row 64 * i + place_of t q
abbrev pub PiecesStandInWords : Type 0
PiecesStandInWords =
    (t q i : ℕ) → IsLaneWidth t → q < 64 → i < 16 → (place_of t q < 64) × (row_at t (16 * (q / t) + i) (q % t) ≡ 64 * i + place_of t q)
