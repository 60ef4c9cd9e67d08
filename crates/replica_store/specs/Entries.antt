-- Lists of entries in ascending order of their keys, as a sorted vector has them.
use Rattle.std.specs.Prelude.{ℕ, suc, Bool, true, false, cond, List, [], ◌∷◌}
use Rattle.std.specs.Ordering.{is_lt}
use Rattle.std.specs.declared.cmp.Ordering.{Ordering}

-- how many entries at the front have keys below q
abbrev pub count_below : {K X : Type 0} → (K → K → Ordering) → K → List (K × X) → ℕ
count_below R q [] = 0
count_below R q (e ∷ es) = cond (is_lt (R e.0 q)) (suc (count_below R q es)) 0

-- the entries of two lists, each step taking the lesser first one
abbrev pub merge : {K X : Type 0} → (K → K → Ordering) → List (K × X) → List (K × X) → List (K × X)
merge R [] fs = fs
merge R (e ∷ es) [] = e ∷ es
merge R (e ∷ es) (f ∷ fs) = cond (is_lt (R e.0 f.0)) (e ∷ merge R es (f ∷ fs)) (f ∷ merge R (e ∷ es) fs)

-- whether the next entry of a merge is the first list's
abbrev pub takes_first : {K X : Type 0} → (K → K → Ordering) → List (K × X) → List (K × X) → Bool
takes_first R [] fs = false
takes_first R (e ∷ es) [] = true
takes_first R (e ∷ es) (f ∷ fs) = is_lt (R e.0 f.0)
