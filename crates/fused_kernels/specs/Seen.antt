-- What lanes are seen as, and the rows that a kernel looks at.
use Rattle.std.specs.Prelude.{◌≡◌, ℕ, ◌+◌, ◌*◌, ◌≤◌, ℤ, Bool, not, cond, nat_lt, ◌&&◌, List, length, Option, Some, None, FitsSigned}
use Rattle.std.specs.Int.{w64}
use Rattle.std.specs.List.{All}
use Rattle.transpose_order.specs.Mask.{has, rows_of}
use Rattle.transpose_order.specs.Place.{IsLaneWidth, place_of}
use Rattle.bit_interleave.specs.Packing.{sixteen_of}
use Rattle.bit_interleave.specs.Range.{value_at}
use Rattle.table_model.specs.Values.{present}
pub use Rattle.native_lanes.specs.Between.{between}

-- a lane width, how many rows are covered, which rows are null, 1024 values in row order, and how many of the 64 pieces were
-- given
pub record LanesSeen : Type 0 where
  pub lane_width : ℕ
  pub rows : ℕ
  pub nulls : List Bool
  pub values : List ℤ
  pub given : ℕ

-- what holds of all lanes
pub record AreLanes (s : LanesSeen) : Type 0 where
  pub width : IsLaneWidth s.lane_width
  pub covered : s.rows ≤ 1024
  pub long : length s.values ≡ 1024
  pub fit : All (λ value. FitsSigned w64 value) s.values

-- the next piece: element i is the value at row 64 * i + p, for the place p in a word of the piece that is next
abbrev pub next_of : LanesSeen → List ℤ
next_of s = sixteen_of (λ i. value_at s.values (64 * i + place_of s.lane_width s.given))

-- the same lanes, of which a number of pieces were given
abbrev pub given_of : LanesSeen → ℕ → LanesSeen
given_of s q = record { lane_width = s.lane_width; rows = s.rows; nulls = s.nulls; values = s.values; given = q }

-- lanes before and after a kernel: 64 pieces at most were given, and nothing but their number has changed
pub record AreOnlyRead (before after : LanesSeen) : Type 0 where
  pub given : after.given ≤ 64
  pub same : after ≡ given_of before after.given

-- row n is looked at: it is covered, the mask has it, and it isn't null
abbrev pub looked_at : LanesSeen → List Bool → ℕ → Bool
looked_at s mask n = nat_lt n s.rows && (has mask n && not (has s.nulls n))

-- the value at row n where it is looked at
abbrev pub looked_cell : LanesSeen → List Bool → ℕ → Option ℤ
looked_cell s mask n = cond (looked_at s mask n) (Some (value_at s.values n)) None

-- the values of the rows looked at, in row order
unfoldable pub values_looked_at : LanesSeen → List Bool → List ℤ
values_looked_at s mask = present (rows_of (looked_cell s mask))
