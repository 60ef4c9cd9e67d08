-- Truth values, and comparisons of whole numbers and nulls.
use Rattle.std.specs.Prelude.{◌≡◌, ◌↔◌, ℕ, min, max, Bool, true, false, not, ◌&&◌, Option, Some, None, ℤ, int_lt, int_le}
use Rattle.std.specs.Ordering.{int_eq}
use Rattle.table_model.specs.declared.truth.Truth.{Truth}
use Rattle.table_model.specs.declared.truth.Truth.TheVariants.{False, Unknown, True}
use Rattle.table_model.specs.declared.op.Op.{Op}
use Rattle.table_model.specs.declared.op.Op.TheVariants.{Equal, NotEqual, Less, LessOrEqual, Greater, GreaterOrEqual}

-- the truth of a fact that is known
abbrev pub truth_of : Bool → Truth
truth_of false = False
truth_of true = True

-- AND: false with anything is false, true with anything changes nothing
abbrev pub and_of : Truth → Truth → Truth
and_of False t = False
and_of Unknown False = False
and_of Unknown Unknown = Unknown
and_of Unknown True = Unknown
and_of True t = t

-- OR: true with anything is true, false with anything changes nothing
abbrev pub or_of : Truth → Truth → Truth
or_of False t = t
or_of Unknown False = Unknown
or_of Unknown Unknown = Unknown
or_of Unknown True = True
or_of True t = True

-- NOT: true and false are exchanged, and unknown stays unknown
abbrev pub not_of : Truth → Truth
not_of False = True
not_of Unknown = Unknown
not_of True = False

-- whether a condition is true, as WHERE and HAVING ask
abbrev pub is_true : Truth → Bool
is_true False = false
is_true Unknown = false
is_true True = true

-- whether a condition is false
abbrev pub is_false : Truth → Bool
is_false t = is_true (not_of t)

-- whether a condition has the truth value, as IS TRUE, IS FALSE and IS UNKNOWN ask
abbrev pub same_truth : Truth → Truth → Bool
same_truth t False = is_false t
same_truth t Unknown = not (is_true t) && not (is_false t)
same_truth t True = is_true t

-- whether the comparison holds of two whole numbers
abbrev pub compared : Op → ℤ → ℤ → Bool
compared Equal x y = int_eq x y
compared NotEqual x y = not (int_eq x y)
compared Less x y = int_lt x y
compared LessOrEqual x y = int_le x y
compared Greater x y = int_lt y x
compared GreaterOrEqual x y = int_le y x

-- the comparison of two cells; with a null it is unknown
abbrev pub comparison : Op → Option ℤ → Option ℤ → Truth
comparison op None y = Unknown
comparison op (Some x) None = Unknown
comparison op (Some x) (Some y) = truth_of (compared op x y)

-- a truth value's place in the order false, unknown, true
abbrev pub rank : Truth → ℕ
rank False = 0
rank Unknown = 1
rank True = 2

-- AND is the least and OR the greatest, NOT takes each into the other, and twice it changes nothing
pub record TruthLaws : Type 0 where
  pub and_least : (p q : Truth) → rank (and_of p q) ≡ min (rank p) (rank q)
  pub or_greatest : (p q : Truth) → rank (or_of p q) ≡ max (rank p) (rank q)
  pub not_and : (p q : Truth) → not_of (and_of p q) ≡ or_of (not_of p) (not_of q)
  pub not_or : (p q : Truth) → not_of (or_of p q) ≡ and_of (not_of p) (not_of q)
  pub not_not : (p : Truth) → not_of (not_of p) ≡ p
  pub same : (p q : Truth) → (same_truth p q ≡ true) ↔ (p ≡ q)
