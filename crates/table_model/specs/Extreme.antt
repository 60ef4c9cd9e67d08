-- The least and the greatest of some values: one extreme with a side.
use Rattle.std.specs.Prelude.{Bool, true, false, List, Option, ℤ, negsuc, ◌-ℤ◌}
use Rattle.table_model.specs.Values.{greater, greatest, least, lesser}
use Rattle.table_model.specs.declared.extreme.Extreme.{Extreme}
use Rattle.table_model.specs.declared.extreme.Extreme.TheVariants.{Least, Greatest}

-- the least or the greatest of some values, null over none
abbrev pub extreme_of : Extreme → List ℤ → Option ℤ
extreme_of Least zs = least zs
extreme_of Greatest zs = greatest zs

-- the lesser or the greater of two values, null standing for no value
abbrev pub further : Extreme → Option ℤ → Option ℤ → Option ℤ
further Least a b = lesser a b
further Greatest a b = greater a b

-- the least is asked for
abbrev pub is_least : Extreme → Bool
is_least Least = true
is_least Greatest = false

-- a value, with its bits flipped where the least is asked for, which turns the order of values round
abbrev pub turned : Extreme → ℤ → ℤ
turned Least z = negsuc 0 -ℤ z
turned Greatest z = z
