-- Set functions of two lists joined, from those of each.
use Rattle.std.specs.Prelude.{◌≡◌, List, [], ◌∷◌, ◌++◌, Option, Some, None, ℤ, ◌+ℤ◌}
use Rattle.std.specs.Int.{int_min, int_max}
use Rattle.std.proofs.Common.{refl, ap, ◌∙◌, arith}
use Rattle.std.proofs.lemmas.Int.{ints, clamps}
use Rattle.table_model.specs.Values.{total, lesser, greater, least, greatest}

pub total-append : (xs ys : List ℤ) → total (xs ++ ys) ≡ total xs +ℤ total ys
total-append [] ys = omega (arith, ints)
total-append (x ∷ xs) ys = omega (arith, ints, total-append xs ys)

min_assoc : (x y z : ℤ) → int_min x (int_min y z) ≡ int_min (int_min x y) z
min_assoc x y z = omega (arith, ints, clamps)

pub lesser-assoc : (a b c : Option ℤ) → lesser a (lesser b c) ≡ lesser (lesser a b) c
lesser-assoc None b c = refl
lesser-assoc (Some x) None c = refl
lesser-assoc (Some x) (Some y) None = refl
lesser-assoc (Some x) (Some y) (Some z) = ap Some (min_assoc x y z)

pub least-append : (xs ys : List ℤ) → least (xs ++ ys) ≡ lesser (least xs) (least ys)
least-append [] ys = refl
least-append (x ∷ xs) ys = ap (lesser (Some x)) (least-append xs ys) ∙ lesser-assoc (Some x) (least xs) (least ys)

max_assoc : (x y z : ℤ) → int_max x (int_max y z) ≡ int_max (int_max x y) z
max_assoc x y z = omega (arith, ints, clamps)

pub greater-assoc : (a b c : Option ℤ) → greater a (greater b c) ≡ greater (greater a b) c
greater-assoc None b c = refl
greater-assoc (Some x) None c = refl
greater-assoc (Some x) (Some y) None = refl
greater-assoc (Some x) (Some y) (Some z) = ap Some (max_assoc x y z)

pub greatest-append : (xs ys : List ℤ) → greatest (xs ++ ys) ≡ greater (greatest xs) (greatest ys)
greatest-append [] ys = refl
greatest-append (x ∷ xs) ys = ap (greater (Some x)) (greatest-append xs ys) ∙ greater-assoc (Some x) (greatest xs) (greatest ys)
