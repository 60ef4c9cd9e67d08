-- A range of numbers by its two ends.
use Rattle.std.specs.Prelude.{ℤ, int_le, Bool, ◌&&◌}

-- a number is neither below the first nor above the second
abbrev pub between : ℤ → ℤ → ℤ → Bool
between low high value = int_le low value && int_le value high
