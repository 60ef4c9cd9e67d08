-- How proofs store the parts of queries: by numbers, texts, pairs and sums of these.
use Rattle.std.specs.Prelude.{◌≡◌, ℕ, zero, suc, ℤ, Bool, Option, List, ◌⊎◌, refl}
use Rattle.std.proofs.Common.{inl, inr, ap}
use Rattle.std.specs.Coded.{Coded, code_by, coded×, coded⊎, coded_ℕ, coded_ℤ, coded_bool, coded_list, coded_option}
use Rattle.table_model.specs.declared.op.Op.{Op}
use Rattle.table_model.specs.declared.op.Op.TheVariants.{Equal, NotEqual, Less, LessOrEqual, Greater, GreaterOrEqual}
use Rattle.table_model.specs.declared.truth.Truth.{Truth}
use Rattle.table_model.specs.declared.truth.Truth.TheVariants.{False, Unknown, True}
use Rattle.table_model.specs.declared.query.ColumnMention.{ColumnMention}
use Rattle.table_model.specs.declared.query.Fold.{Fold}
use Rattle.table_model.specs.declared.query.Fold.TheVariants.{Count, Sum, Avg, Min, Max}
use Rattle.table_model.specs.declared.query.IsTruth.{IsTruth}
use Rattle.table_model.specs.declared.query.Item.{Item}
use Rattle.table_model.specs.declared.query.ItemValue.{ItemValue}
use Rattle.table_model.specs.declared.query.ItemValue.TheVariants.{Grouped, Computed}
use Rattle.table_model.specs.declared.query.Operand.{Operand}
use Rattle.table_model.specs.declared.query.Operand.TheVariants.{Column, Literal, Function}
use Rattle.table_model.specs.declared.query.Predicate.{Predicate}
use Rattle.table_model.specs.declared.query.Predicate.TheVariants.{Compare, Between, In, IsNull}
use Rattle.table_model.specs.declared.query.SetFunction.{SetFunction}
use Rattle.table_model.specs.declared.query.SetFunction.TheVariants.{CountRows, Of}

-- the number of a comparison
abbrev pub op_number : Op → ℕ
op_number Equal = 0
op_number NotEqual = 1
op_number Less = 2
op_number LessOrEqual = 3
op_number Greater = 4
op_number GreaterOrEqual = 5

-- the comparison of a number
abbrev pub op_of : ℕ → Op
op_of zero = Equal
op_of (suc zero) = NotEqual
op_of (suc (suc zero)) = Less
op_of (suc (suc (suc zero))) = LessOrEqual
op_of (suc (suc (suc (suc zero)))) = Greater
op_of (suc (suc (suc (suc (suc n))))) = GreaterOrEqual

pub op_of-op_number : (op : Op) → op_of (op_number op) ≡ op
op_of-op_number Equal = refl
op_of-op_number NotEqual = refl
op_of-op_number Less = refl
op_of-op_number LessOrEqual = refl
op_of-op_number Greater = refl
op_of-op_number GreaterOrEqual = refl

-- a comparison by its number
abbrev pub coded_op : Coded Op
coded_op = code_by ℕ coded_ℕ op_number op_of op_of-op_number

-- the number of a truth value
abbrev pub truth_number : Truth → ℕ
truth_number False = 0
truth_number Unknown = 1
truth_number True = 2

-- the truth value of a number
abbrev pub truth_value_of : ℕ → Truth
truth_value_of zero = False
truth_value_of (suc zero) = Unknown
truth_value_of (suc (suc n)) = True

pub truth_value_of-truth_number : (truth : Truth) → truth_value_of (truth_number truth) ≡ truth
truth_value_of-truth_number False = refl
truth_value_of-truth_number Unknown = refl
truth_value_of-truth_number True = refl

pub is_truth-again : (is : IsTruth) → record { negated = is.negated; truth = truth_value_of (truth_number is.truth) } ≡ is
is_truth-again is = ap (λ (truth : Truth). let made : IsTruth = record { negated = is.negated; truth = truth } in made) (truth_value_of-truth_number is.truth)

-- a question for a truth value by its parts
abbrev pub coded_is_truth : Coded IsTruth
coded_is_truth = code_by (Bool × ℕ) (coded× coded_bool coded_ℕ) (λ is. (is.negated, truth_number is.truth)) (λ p. record { negated = p.0; truth = truth_value_of p.1 }) is_truth-again

-- the number of a fold
abbrev pub fold_number : Fold → ℕ
fold_number Count = 0
fold_number Sum = 1
fold_number Avg = 2
fold_number Min = 3
fold_number Max = 4

-- the fold of a number
abbrev pub fold_of : ℕ → Fold
fold_of zero = Count
fold_of (suc zero) = Sum
fold_of (suc (suc zero)) = Avg
fold_of (suc (suc (suc zero))) = Min
fold_of (suc (suc (suc (suc n)))) = Max

pub fold_of-fold_number : (f : Fold) → fold_of (fold_number f) ≡ f
fold_of-fold_number Count = refl
fold_of-fold_number Sum = refl
fold_of-fold_number Avg = refl
fold_of-fold_number Min = refl
fold_of-fold_number Max = refl

-- a fold by its number
abbrev pub coded_fold : Coded Fold
coded_fold = code_by ℕ coded_ℕ fold_number fold_of fold_of-fold_number

-- a column's mention by its name and place
abbrev pub coded_mention : Coded ColumnMention
coded_mention = code_by (List ℕ × ℕ) (coded× (coded_list coded_ℕ) coded_ℕ) (λ c. (c.name, c.at)) (λ p. record { name = p.0; at = p.1 }) (λ _. refl)

-- the parts of a set function
abbrev pub FunctionParts : Type 0
FunctionParts = ℕ ⊎ (Fold × (Bool × ColumnMention))

-- the parts of a set function
abbrev pub function_parts : SetFunction → FunctionParts
function_parts CountRows = inl 0
function_parts (Of f distinct column) = inr (f, (distinct, column))

-- the set function of its parts
abbrev pub function_of : FunctionParts → SetFunction
function_of (inl n) = CountRows
function_of (inr p) = Of p.0 p.1.0 p.1.1

pub function_of-function_parts : (f : SetFunction) → function_of (function_parts f) ≡ f
function_of-function_parts CountRows = refl
function_of-function_parts (Of f distinct column) = refl

-- a set function by its parts
abbrev pub coded_function : Coded SetFunction
coded_function = code_by FunctionParts (coded⊎ coded_ℕ (coded× coded_fold (coded× coded_bool coded_mention))) function_parts function_of function_of-function_parts

-- the parts of an operand
abbrev pub OperandParts : Type 0
OperandParts = ColumnMention ⊎ (ℤ ⊎ SetFunction)

-- the parts of an operand
abbrev pub operand_parts : Operand → OperandParts
operand_parts (Column column) = inl column
operand_parts (Literal z) = inr (inl z)
operand_parts (Function f) = inr (inr f)

-- the operand of its parts
abbrev pub operand_of : OperandParts → Operand
operand_of (inl column) = Column column
operand_of (inr (inl z)) = Literal z
operand_of (inr (inr f)) = Function f

pub operand_of-operand_parts : (x : Operand) → operand_of (operand_parts x) ≡ x
operand_of-operand_parts (Column column) = refl
operand_of-operand_parts (Literal z) = refl
operand_of-operand_parts (Function f) = refl

-- an operand by its parts
abbrev pub coded_operand : Coded Operand
coded_operand = code_by OperandParts (coded⊎ coded_mention (coded⊎ coded_ℤ coded_function)) operand_parts operand_of operand_of-operand_parts

-- the parts of a comparison
abbrev pub Compared : Type 0
Compared = Operand × (Op × Operand)

-- the parts of BETWEEN
abbrev pub Bounded : Type 0
Bounded = Operand × (Bool × (Operand × Operand))

-- the parts of IN
abbrev pub Listed : Type 0
Listed = Operand × (Bool × List ℤ)

-- the parts of a predicate
abbrev pub PredicateParts : Type 0
PredicateParts = Compared ⊎ (Bounded ⊎ (Listed ⊎ (Operand × Bool)))

-- what parts a predicate has
abbrev pub predicate_parts : Predicate → PredicateParts
predicate_parts (Compare left op right) = inl (left, (op, right))
predicate_parts (Between operand negated low high) = inr (inl (operand, (negated, (low, high))))
predicate_parts (In operand negated literals) = inr (inr (inl (operand, (negated, literals))))
predicate_parts (IsNull operand negated) = inr (inr (inr (operand, negated)))

-- the predicate of its parts
abbrev pub predicate_of : PredicateParts → Predicate
predicate_of (inl p) = Compare p.0 p.1.0 p.1.1
predicate_of (inr (inl p)) = Between p.0 p.1.0 p.1.1.0 p.1.1.1
predicate_of (inr (inr (inl p))) = In p.0 p.1.0 p.1.1
predicate_of (inr (inr (inr p))) = IsNull p.0 p.1

pub predicate_of-predicate_parts : (p : Predicate) → predicate_of (predicate_parts p) ≡ p
predicate_of-predicate_parts (Compare left op right) = refl
predicate_of-predicate_parts (Between operand negated low high) = refl
predicate_of-predicate_parts (In operand negated literals) = refl
predicate_of-predicate_parts (IsNull operand negated) = refl

-- a predicate by its parts
abbrev pub coded_predicate : Coded Predicate
coded_predicate =
    code_by PredicateParts
    (coded⊎ (coded× coded_operand (coded× coded_op coded_operand))
    (coded⊎ (coded× coded_operand (coded× coded_bool (coded× coded_operand coded_operand)))
    (coded⊎ (coded× coded_operand (coded× coded_bool (coded_list coded_ℤ)))
    (coded× coded_operand coded_bool))))
    predicate_parts predicate_of predicate_of-predicate_parts

-- the parts of what a select item asks for
abbrev pub value_parts : ItemValue → ColumnMention ⊎ SetFunction
value_parts (Grouped column) = inl column
value_parts (Computed f) = inr f

-- what a select item asks for, of its parts
abbrev pub value_of : ColumnMention ⊎ SetFunction → ItemValue
value_of (inl column) = Grouped column
value_of (inr f) = Computed f

pub value_of-value_parts : (v : ItemValue) → value_of (value_parts v) ≡ v
value_of-value_parts (Grouped column) = refl
value_of-value_parts (Computed f) = refl

pub item-again : (item : Item) → record { value = value_of (value_parts item.value); alias = item.alias } ≡ item
item-again item = ap (λ (v : ItemValue). let made : Item = record { value = v; alias = item.alias } in made) (value_of-value_parts item.value)

-- a select item by its parts
abbrev pub coded_item : Coded Item
coded_item =
    code_by ((ColumnMention ⊎ SetFunction) × Option (List ℕ)) (coded× (coded⊎ coded_mention coded_function) (coded_option (coded_list coded_ℕ)))
    (λ item. (value_parts item.value, item.alias)) (λ p. record { value = value_of p.0; alias = p.1 }) item-again
