-- The truth of a condition, whatever its operands represent.
use Rattle.std.specs.Prelude.{◌≡◌, Bool, true, false, ◌&&◌, List, [], ◌∷◌, Option, ℤ, pos, ◌*ℤ◌, int_le, FitsSigned}
use Rattle.std.specs.Int.{w128}
use Rattle.std.specs.List.{list_any}
use Rattle.std.specs.Ordering.{int_eq}
use Rattle.table_model.specs.Answer.{whole}
use Rattle.table_model.specs.Formula.{Formula, says, in_parentheses, is_truth, negation, no_factor, both, no_term, either}
use Rattle.table_model.specs.Truth.{is_true, truth_of, and_of, or_of, not_of, same_truth, compared, comparison}
use Rattle.table_model.specs.declared.answer.Field.{Field}
use Rattle.table_model.specs.declared.answer.Field.TheVariants.{Null, Whole, Millionths}
use Rattle.table_model.specs.declared.op.Op.{Op}
use Rattle.table_model.specs.declared.op.Op.TheVariants.{Equal, LessOrEqual, GreaterOrEqual}
use Rattle.table_model.specs.declared.query.IsTruth.{IsTruth}
use Rattle.table_model.specs.declared.query.Operand.{Operand}
use Rattle.table_model.specs.declared.query.Predicate.{Predicate}
use Rattle.table_model.specs.declared.query.Predicate.TheVariants.{Compare, Between, In, IsNull}
use Rattle.table_model.specs.declared.truth.Truth.{Truth}
use Rattle.table_model.specs.declared.truth.Truth.TheVariants.{False, Unknown, True}

-- a single comparison: of whole numbers as they are, in millionths where one side is a mean, and unknown with a null
abbrev pub field_comparison : Op → Field → Field → Truth
field_comparison op Null b = Unknown
field_comparison op (Whole x) Null = Unknown
field_comparison op (Whole x) (Whole y) = truth_of (compared op x y)
field_comparison op (Whole x) (Millionths y) = truth_of (compared op (x *ℤ pos 1000000) y)
field_comparison op (Millionths x) Null = Unknown
field_comparison op (Millionths x) (Whole y) = truth_of (compared op x (y *ℤ pos 1000000))
field_comparison op (Millionths x) (Millionths y) = truth_of (compared op x y)

-- a whole number can be compared in millionths within 128 bits
abbrev pub FitsMillionths : Field → Type 0
FitsMillionths Null = Unit {0}
FitsMillionths (Whole z) = FitsSigned w128 (z *ℤ pos 1000000)
FitsMillionths (Millionths z) = Unit {0}

-- whether a field is null
abbrev pub is_null : Field → Bool
is_null Null = true
is_null (Whole x) = false
is_null (Millionths x) = false

-- under NOT, or not
abbrev pub not_if : Bool → Truth → Truth
not_if true t = not_of t
not_if false t = t

-- x BETWEEN low AND high: x >= low AND x <= high
abbrev pub between : Field → Field → Field → Truth
between x low high = and_of (field_comparison GreaterOrEqual x low) (field_comparison LessOrEqual x high)

-- x IN (n, ..): the OR of the equalities x = n
abbrev pub is_among : Field → List ℤ → Truth
is_among x [] = False
is_among x (n ∷ ns) = or_of (field_comparison Equal x (Whole n)) (is_among x ns)

-- a condition is asked for a truth value, or for its absence: true or false
abbrev pub asked : IsTruth → Truth → Truth
asked is t = not_if is.negated (truth_of (same_truth t is.truth))

-- the truth of a predicate where its operands have these values; NOT BETWEEN, NOT IN and IS NOT NULL negate the whole
abbrev pub predicate_truth : (Operand → Field) → Predicate → Truth
predicate_truth value (Compare left op right) = field_comparison op (value left) (value right)
predicate_truth value (Between operand negated low high) = not_if negated (between (value operand) (value low) (value high))
predicate_truth value (In operand negated literals) = not_if negated (is_among (value operand) literals)
predicate_truth value (IsNull operand negated) = not_if negated (truth_of (is_null (value operand)))

-- the truth of a condition where its operands have these values; the AND of no factors is true, and the OR of no terms false
abbrev pub condition_truth : (Operand → Field) → Formula → Truth
condition_truth value (says predicate) = predicate_truth value predicate
condition_truth value (in_parentheses f) = condition_truth value f
condition_truth value (is_truth f is) = asked is (condition_truth value f)
condition_truth value (negation f) = not_of (condition_truth value f)
condition_truth value no_factor = True
condition_truth value (both f g) = and_of (condition_truth value f) (condition_truth value g)
condition_truth value no_term = False
condition_truth value (either f g) = or_of (condition_truth value f) (condition_truth value g)

-- NOT BETWEEN and NOT IN are the negations of BETWEEN and IN; a whole number is between two where it isn't below the first nor above the second, and in a list where it is there; a null is in no list, and between no two; cells are compared as the numbers and nulls that they are
pub record PredicateLaws : Type 0 where
  pub not_between : (value : Operand → Field) (operand low high : Operand) → predicate_truth value (Between operand true low high) ≡ not_of (predicate_truth value (Between operand false low high))
  pub not_in : (value : Operand → Field) (operand : Operand) (literals : List ℤ) → predicate_truth value (In operand true literals) ≡ not_of (predicate_truth value (In operand false literals))
  pub whole_between : (z low high : ℤ) → between (Whole z) (Whole low) (Whole high) ≡ truth_of (int_le low z && int_le z high)
  pub whole_among : (z : ℤ) (literals : List ℤ) → is_among (Whole z) literals ≡ truth_of (list_any (int_eq z) literals)
  pub null_among : (n : ℤ) (literals : List ℤ) → is_among Null (n ∷ literals) ≡ Unknown
  pub cells : (op : Op) (x y : Option ℤ) → field_comparison op (whole x) (whole y) ≡ comparison op x y
  pub null_between : (low high : Field) → is_true (between Null low high) ≡ false
