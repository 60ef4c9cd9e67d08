-- What a partial answer of the code keeps, as tallies.
use Rattle.std.specs.Prelude.{◌≡◌, ◌||◌, List, map as each, None, ℤ, pos}
use Rattle.std.specs.List.{list_any}
use Rattle.std.specs.Ordering.{int_eq}
use Rattle.std.specs.FinMap as map
use Rattle.partial_answers.specs.PartialAnswer.{Tally, Tallies, set_of}
use Rattle.partial_answers.specs.declared.kept.Kept.{Kept}
use Rattle.partial_answers.specs.declared.kept.Kept.TheVariants.{Count, Sum, Least, Greatest, Distinct}

-- what is kept, as a tally
abbrev pub tally_in : Kept → Tally
tally_in (Count n) = record { count = n; sum = pos 0; lowest = None; highest = None; seen = map.empty }
tally_in (Sum sums) = record { count = sums.count; sum = sums.sum; lowest = None; highest = None; seen = map.empty }
tally_in (Least o) = record { count = 0; sum = pos 0; lowest = o; highest = None; seen = map.empty }
tally_in (Greatest o) = record { count = 0; sum = pos 0; lowest = None; highest = o; seen = map.empty }
tally_in (Distinct values) = record { count = 0; sum = pos 0; lowest = None; highest = None; seen = set_of values }

-- the tallies that kept values mean
abbrev pub tallies_in : List Kept → Tallies
tallies_in kept = each tally_in kept

-- a list has the values of two
abbrev pub HasValuesOf : List ℤ → List ℤ → List ℤ → Type 0
HasValuesOf both xs ys = (z : ℤ) → list_any (int_eq z) both ≡ (list_any (int_eq z) xs || list_any (int_eq z) ys)
