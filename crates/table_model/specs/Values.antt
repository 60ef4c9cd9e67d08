-- Set functions over the values of a list of cells.
use Rattle.std.specs.Prelude.{◌≡◌, ◌≢◌, cond, List, [], ◌∷◌, length, All, AllPairs, Contains, Option, Some, None, ℤ, pos, ◌+ℤ◌, ◌*ℤ◌, ◌≤ℤ◌, int_div}
use Rattle.std.specs.Int.{int_min, int_max}
use Rattle.std.specs.List.{filter_map, list_any}
use Rattle.std.specs.Ordering.{int_eq}

-- what is there of a list of which some may be missing: of cells, the values that aren't null
abbrev pub present : {X : Type 0} → List (Option X) → List X
present xs = filter_map (λ x. x) xs

-- each value once: one that comes again later in the list is left out
abbrev pub distinct : List ℤ → List ℤ
distinct [] = []
distinct (z ∷ zs) = cond (list_any (int_eq z) zs) (distinct zs) (z ∷ distinct zs)

-- the sum of some values, 0 over none
abbrev pub total : List ℤ → ℤ
total [] = pos 0
total (z ∷ zs) = z +ℤ total zs

-- null over no values, else the number
abbrev pub or_null : List ℤ → ℤ → Option ℤ
or_null [] n = None
or_null (z ∷ zs) n = Some n

-- SUM: the sum of some values, null over none
abbrev pub total_or_null : List ℤ → Option ℤ
total_or_null zs = or_null zs (total zs)

-- AVG: the sum of some values times a million, divided by their number and truncated toward zero, in millionths; null over none
abbrev pub mean : List ℤ → Option ℤ
mean zs = or_null zs (int_div (total zs *ℤ pos 1000000) (pos (length zs)))

-- the lesser of two values, null standing for no value
abbrev pub lesser : Option ℤ → Option ℤ → Option ℤ
lesser None b = b
lesser (Some x) None = Some x
lesser (Some x) (Some y) = Some (int_min x y)

-- the greater of two values, null standing for no value
abbrev pub greater : Option ℤ → Option ℤ → Option ℤ
greater None b = b
greater (Some x) None = Some x
greater (Some x) (Some y) = Some (int_max x y)

-- the sum of two values, null standing for no value
abbrev pub added : Option ℤ → Option ℤ → Option ℤ
added None b = b
added (Some x) None = Some x
added (Some x) (Some y) = Some (x +ℤ y)

-- MIN: the least of some values, null over none
abbrev pub least : List ℤ → Option ℤ
least [] = None
least (z ∷ zs) = lesser (Some z) (least zs)

-- MAX: the greatest of some values, null over none
abbrev pub greatest : List ℤ → Option ℤ
greatest [] = None
greatest (z ∷ zs) = greater (Some z) (greatest zs)

-- DISTINCT keeps each value that is there, once; the least and the greatest of some values are among them, and bound them
pub record ValueLaws : Type 0 where
  pub members : (zs : List ℤ) (z : ℤ) → list_any (int_eq z) (distinct zs) ≡ list_any (int_eq z) zs
  pub once : (zs : List ℤ) → AllPairs (λ x y. x ≢ y) (distinct zs)
  pub is_least : (zs : List ℤ) (m : ℤ) → least zs ≡ Some m → Contains zs m × All (λ z. m ≤ℤ z) zs
  pub is_greatest : (zs : List ℤ) (m : ℤ) → greatest zs ≡ Some m → Contains zs m × All (λ z. z ≤ℤ m) zs
  pub no_least : (zs : List ℤ) → least zs ≡ None → zs ≡ []
  pub no_greatest : (zs : List ℤ) → greatest zs ≡ None → zs ≡ []
