-- An extreme of values more, and values turned.
use Rattle.std.specs.Prelude.{◌≡◌, ℕ, ◌+◌, ◌<◌, List, [], ◌∷◌, ◌++◌, length, get_or, take, Some, None, ℤ}
use Rattle.std.proofs.Common.{refl, ap, ◌∙◌, arith}
use Rattle.std.proofs.lemmas.Int.{ints}
use Rattle.std.proofs.lemmas.List.{take_more}
use Rattle.table_model.specs.Extreme.{extreme_of, further, turned}
use Rattle.table_model.specs.declared.extreme.Extreme.{Extreme}
use Rattle.table_model.specs.declared.extreme.Extreme.TheVariants.{Least, Greatest}
use Rattle.table_model.proofs.Appended.{least-append, greatest-append}

pub no_extreme : (side : Extreme) → extreme_of side [] ≡ None
no_extreme Least = refl
no_extreme Greatest = refl

pub one_extreme : (side : Extreme) (z : ℤ) → extreme_of side (z ∷ []) ≡ Some z
one_extreme Least z = refl
one_extreme Greatest z = refl

pub extreme-append : (side : Extreme) (xs ys : List ℤ) → extreme_of side (xs ++ ys) ≡ further side (extreme_of side xs) (extreme_of side ys)
extreme-append Least xs ys = least-append xs ys
extreme-append Greatest xs ys = greatest-append xs ys

pub extreme-step : (side : Extreme) (xs : List ℤ) (i : ℕ) (d : ℤ) → i < length xs → extreme_of side (take (i + 1) xs) ≡ further side (extreme_of side (take i xs)) (Some (get_or xs i d))
extreme-step side xs i d h =
    ap (extreme_of side) (take_more xs i d h) ∙ extreme-append side (take i xs) (get_or xs i d ∷ []) ∙ ap (further side (extreme_of side (take i xs))) (one_extreme side (get_or xs i d))

pub turned_twice : (side : Extreme) (z : ℤ) → turned side (turned side z) ≡ z
turned_twice Least z = omega (arith, ints)
turned_twice Greatest z = refl
