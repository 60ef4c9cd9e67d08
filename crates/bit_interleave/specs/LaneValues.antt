-- A list of signed values of one lane width.
use Rattle.std.specs.Prelude.{ℕ, ℤ, List}

-- the values' width in bits, and the values in order
pub record LaneValues : Type 0 where
  pub lane_width : ℕ
  pub values : List ℤ
