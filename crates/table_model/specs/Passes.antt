-- Counting passes over the values of vectors.
use Rattle.std.specs.Prelude.{ℕ, ◌+◌, ◌-◌, ◌^◌, min}

-- that number of passes more, up to the greatest number of 128 bits
abbrev pub raised : ℕ → ℕ → ℕ
raised by passes = min (passes + by) (2 ^ 128 - 1)
