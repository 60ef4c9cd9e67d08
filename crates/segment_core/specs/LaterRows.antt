-- Rows that are not the first of their lane.
use Rattle.std.specs.Prelude.{◌≡◌, ℕ, ◌<◌, Bool, true, false, List}
use Rattle.transpose_order.specs.Mask.{has}
use Rattle.frame_delta.specs.Delta.{is_later}

-- of the rows that are not the first of their lane of t bits, a mask has one and lacks another
pub record IsMixedWithin (t : ℕ) (mask : List Bool) : Type 0 where
  pub had : (n : ℕ) × (n < 1024) × (is_later t n ≡ true) × (has mask n ≡ true)
  pub lacked : (n : ℕ) × (n < 1024) × (is_later t n ≡ true) × (has mask n ≡ false)
