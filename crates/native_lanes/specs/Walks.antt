-- Lanes gone through step by step, and the numbers that they come to.
use Rattle.std.specs.Prelude.{ℕ, zero, suc, ◌+◌, ◌-◌, ◌^◌, ◌%◌, nat_lt, Bool, cond, List, slice_index}
use Rattle.transpose_order.specs.Place.{lane_of, step_of}
use Rattle.bit_interleave.specs.Packing.{packed_value}

-- packed words of a number of bits a lane, whether a lane's number is carried from a step to the next, what each lane starts with, and
-- what each step adds
pub record Walk : Type 0 where
  pub lane_width : ℕ
  pub width : ℕ
  pub words : List ℕ
  pub carried : Bool
  pub starts : List ℕ
  pub added : ℕ

-- a lane's number before step k: what it starts with, and after each step what is carried, added and packed there, modulo m
unfoldable pub walked : ℕ → Bool → ℕ → ℕ → (ℕ → ℕ) → ℕ → ℕ
walked m carried start added number zero = start
walked m carried start added number (suc k) = (cond carried (walked m carried start added number k) 0 + added + number k) % m

-- the number of a lane of t bits before step k, modulo two to the power of t
unfoldable pub number_before : Walk → ℕ → ℕ → ℕ
number_before walk lane k =
    walked (2 ^ walk.lane_width) walk.carried (slice_index walk.starts lane) walk.added (packed_value walk.lane_width walk.width walk.words lane) k

-- the number of a lane at a step
abbrev pub number_at : Walk → ℕ → ℕ → ℕ
number_at walk lane step = number_before walk lane (step + 1)

-- the number of row n
unfoldable pub number_of_row : Walk → ℕ → ℕ
number_of_row walk n = number_at walk (lane_of walk.lane_width n) (step_of walk.lane_width n)

-- a number, or how far it is below the greatest of t bits
abbrev pub turned : ℕ → Bool → ℕ → ℕ
turned t flipped number = cond flipped (2 ^ t - 1 - number) number

-- a number, half of those of 64 bits further, modulo two to the power of 64: what is below another as signed numbers of 64 bits, is
-- below it so
abbrev pub half_on : ℕ → ℕ
half_on number = (number + 2 ^ 63) % 2 ^ 64

-- of a number so far and another, the one that is greater, or where that is asked less, once both are half on
abbrev pub further : Bool → ℕ → ℕ → ℕ
further flipped so_far number =
    cond flipped (cond (nat_lt (half_on number) (half_on so_far)) number so_far) (cond (nat_lt (half_on number) (half_on so_far)) so_far number)
