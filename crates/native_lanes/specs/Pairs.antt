-- Two numbers of a row, tested.
use Rattle.std.specs.Prelude.{ℕ, ◌==◌, nat_lt, ℤ, int_lt, Bool}
use Rattle.std.specs.Ordering.{int_eq}
use Rattle.native_lanes.specs.declared.pair_test.PairTest.{PairTest}
use Rattle.native_lanes.specs.declared.pair_test.PairTest.TheVariants.{Equal, Less}

-- a number is equal to another, or below it
abbrev pub number_passes : PairTest → ℕ → ℕ → Bool
number_passes Equal number other = number == other
number_passes Less number other = nat_lt number other

-- a value is equal to another, or less
abbrev pub value_passes : PairTest → ℤ → ℤ → Bool
value_passes Equal value other = int_eq value other
value_passes Less value other = int_lt value other
