-- Arithmetic on the signed numbers of a column's bits.
use Rattle.std.specs.Prelude.{ℕ, ◌-◌, cond, ◌==◌}
use Rattle.std.specs.Int.{Width, w8, w16, w32, w64, leading_zeros}

-- the integer type of a number of bits, which is 64 where there is no such type
abbrev pub integer_width : ℕ → Width
integer_width t = cond (t == 8) w8 (cond (t == 16) w16 (cond (t == 32) w32 w64))

-- how many bits it takes to write a number below 2 ^ 64
unfoldable pub least_width : ℕ → ℕ
least_width n = 64 - leading_zeros w64 n
