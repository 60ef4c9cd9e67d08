-- Numbers in two words.
use Rattle.std.specs.Prelude.{ℕ, ◌^◌, ℤ, pos, ◌+ℤ◌, ◌*ℤ◌}

-- the number of a low and a high word
abbrev pub joined : ℕ → ℤ → ℤ
joined low high = (high *ℤ pos (2 ^ 64)) +ℤ pos low
