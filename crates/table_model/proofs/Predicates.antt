-- The laws of predicates: a negated predicate is its negation by definition, and IN goes down its list.
use Rattle.std.specs.Prelude.{◌≡◌, Bool, true, false, ◌&&◌, ◌||◌, List, [], ◌∷◌, Option, Some, None, ℤ, int_le}
use Rattle.std.specs.List.{list_any}
use Rattle.std.specs.Ordering.{int_eq}
use Rattle.std.proofs.Common.{refl, ap, ◌∙◌}
use Rattle.table_model.specs.Answer.{whole}
use Rattle.table_model.specs.Condition.{PredicateLaws, field_comparison, is_among}
use Rattle.table_model.specs.Truth.{is_true, truth_of, and_of, or_of, comparison}
use Rattle.table_model.specs.declared.answer.Field.TheVariants.{Null, Whole}
use Rattle.table_model.specs.declared.op.Op.{Op}
use Rattle.table_model.specs.declared.op.Op.TheVariants.{LessOrEqual}
use Rattle.table_model.specs.declared.truth.Truth.{Truth}
use Rattle.table_model.specs.declared.truth.Truth.TheVariants.{False, Unknown, True}

either_known : (a b : Bool) → or_of (truth_of a) (truth_of b) ≡ truth_of (a || b)
either_known false b = refl
either_known true b = refl

among : (z : ℤ) (literals : List ℤ) → is_among (Whole z) literals ≡ truth_of (list_any (int_eq z) literals)
among z [] = refl
among z (n ∷ ns) = ap (or_of (truth_of (int_eq z n))) (among z ns) ∙ either_known (int_eq z n) (list_any (int_eq z) ns)

null_among : (n : ℤ) (literals : List ℤ) → is_among Null (n ∷ literals) ≡ Unknown
null_among n [] = refl
null_among n (m ∷ ms) = ap (or_of Unknown) (null_among m ms)

never_both : (t : Truth) → is_true (and_of Unknown t) ≡ false
never_both False = refl
never_both Unknown = refl
never_both True = refl

pub both_known : (a b : Bool) → and_of (truth_of a) (truth_of b) ≡ truth_of (a && b)
both_known false b = refl
both_known true b = refl

pub cells_compared : (op : Op) (x y : Option ℤ) → field_comparison op (whole x) (whole y) ≡ comparison op x y
cells_compared op None y = refl
cells_compared op (Some x) None = refl
cells_compared op (Some x) (Some y) = refl

pub predicates : PredicateLaws
predicates = record {
  not_between = λ value operand low high. refl;
  not_in = λ value operand literals. refl;
  whole_between = λ z low high. both_known (int_le low z) (int_le z high);
  whole_among = among;
  null_among = null_among;
  cells = cells_compared;
  null_between = λ low high. never_both (field_comparison LessOrEqual Null high);
}
