-- The grammar: which tokens are a query. Each rule says of what is from some tokens on, up to what is left behind it.
use Rattle.std.specs.Prelude.{◌≡◌, ◌⊎◌, ◌≤◌, ℕ, ℤ, Bool, true, false, Option, Some, None, List, [], ◌∷◌, ◌++◌}
use Rattle.table_model.specs.Formula.{Formula, says, in_parentheses, is_truth, negation, no_factor, both, no_term, either}
use Rattle.table_model.specs.Query.{QueryShape}
use Rattle.table_model.specs.declared.op.Op.{Op}
use Rattle.table_model.specs.declared.op.Op.TheVariants as op
use Rattle.table_model.specs.declared.truth.Truth.{Truth}
use Rattle.table_model.specs.declared.truth.Truth.TheVariants as truth
use Rattle.table_model.specs.declared.query.ColumnMention.{ColumnMention}
use Rattle.table_model.specs.declared.query.Fold.{Fold}
use Rattle.table_model.specs.declared.query.Fold.TheVariants as folds
use Rattle.table_model.specs.declared.query.IsTruth.{IsTruth}
use Rattle.table_model.specs.declared.query.Item.{Item}
use Rattle.table_model.specs.declared.query.ItemValue.{ItemValue}
use Rattle.table_model.specs.declared.query.ItemValue.TheVariants.{Grouped, Computed}
use Rattle.table_model.specs.declared.query.Operand.{Operand}
use Rattle.table_model.specs.declared.query.Operand.TheVariants.{Column, Literal, Function}
use Rattle.table_model.specs.declared.query.Predicate.{Predicate}
use Rattle.table_model.specs.declared.query.Predicate.TheVariants.{Compare, Between, In, IsNull}
use Rattle.table_model.specs.declared.query.SetFunction.{SetFunction}
use Rattle.table_model.specs.declared.query.SetFunction.TheVariants.{CountRows, Of}
use Rattle.query_parser.specs.Token.{taken, mentioned, spelled_digits, signed, value_of, significant}
use Rattle.query_parser.specs.declared.predicate.Clause.{Clause}
use Rattle.query_parser.specs.declared.predicate.Clause.TheVariants.{Where, Having}
use Rattle.query_parser.specs.declared.token.Sign.{Sign}
use Rattle.query_parser.specs.declared.token.Sign.TheVariants as sign
use Rattle.query_parser.specs.declared.token.Token.{Token}

-- a sign
abbrev pub IsSign : Sign → List Token → List Token → Type 0
IsSign s from to = taken s from ≡ Some to

-- an identifier, folded to upper case, with its place
abbrev pub IsName : ColumnMention → List Token → List Token → Type 0
IsName m from to = mentioned from ≡ Some (m, to)

-- one or more parts with a sign between two
pub data Listed {V : Type 0} (R : V → List Token → List Token → Type 0) (s : Sign) (from : List Token) : List V → List Token → Type 0 where
  only : (v : V) (to : List Token) → R v from to → Listed R s from (v ∷ []) to
  more : (vs : List V) (v : V) (mid next to : List Token) → Listed R s from vs mid → IsSign s mid next → R v next to → Listed R s from (vs ++ v ∷ []) to

-- a plus, a minus or neither
abbrev pub IsPlusOrMinus : Bool → List Token → List Token → Type 0
IsPlusOrMinus true from to = IsSign sign.Minus from to
IsPlusOrMinus false from to = (from ≡ to) ⊎ IsSign sign.Plus from to

-- literal = ["+" | "-"] digits
abbrev pub IsLiteral : ℤ → List Token → List Token → Type 0
IsLiteral z from to =
    (negative : Bool) × ((digits : List ℕ) × ((mid : List Token)
    × (IsPlusOrMinus negative from mid × ((spelled_digits mid ≡ Some (digits, to)) × (z ≡ signed negative (value_of (significant digits)))))))

-- the keyword of a set function
abbrev pub word_of : Fold → Sign
word_of folds.Count = sign.Count
word_of folds.Sum = sign.Sum
word_of folds.Avg = sign.Avg
word_of folds.Min = sign.Min
word_of folds.Max = sign.Max

-- [ALL | DISTINCT]
abbrev pub IsQuantifier : Bool → List Token → List Token → Type 0
IsQuantifier true from to = IsSign sign.Distinct from to
IsQuantifier false from to = (from ≡ to) ⊎ IsSign sign.All from to

-- "*", or [ALL | DISTINCT] identifier
abbrev pub IsArgument : SetFunction → List Token → List Token → Type 0
IsArgument CountRows from to = IsSign sign.Asterisk from to
IsArgument (Of f distinct column) from to = (mid : List Token) × (IsQuantifier distinct from mid × IsName column mid to)

-- the keyword that a set function has
abbrev pub fold_of : SetFunction → Fold
fold_of CountRows = folds.Count
fold_of (Of f distinct column) = f

-- setf = COUNT "(" "*" ")" | (COUNT | SUM | AVG | MIN | MAX) "(" [ALL | DISTINCT] identifier ")"
abbrev pub IsFunction : SetFunction → List Token → List Token → Type 0
IsFunction f from to =
    (word : List Token) × ((inner : List Token) × ((last : List Token)
    × (IsSign (word_of (fold_of f)) from word × (IsSign sign.OpenParen word inner × (IsArgument f inner last × IsSign sign.CloseParen last to)))))

-- whether set functions may be in a clause's condition
abbrev pub takes_functions : Clause → Bool
takes_functions Where = false
takes_functions Having = true

-- operand = identifier | literal | setf, the last in HAVING alone
abbrev pub IsOperand : Clause → Operand → List Token → List Token → Type 0
IsOperand c (Column m) from to = IsName m from to
IsOperand c (Literal z) from to = IsLiteral z from to
IsOperand c (Function f) from to = (takes_functions c ≡ true) × IsFunction f from to

-- op = "=" | "<>" | "<" | "<=" | ">" | ">="
abbrev pub sign_of : Op → Sign
sign_of op.Equal = sign.Equal
sign_of op.NotEqual = sign.NotEqual
sign_of op.Less = sign.Less
sign_of op.LessOrEqual = sign.LessOrEqual
sign_of op.Greater = sign.Greater
sign_of op.GreaterOrEqual = sign.GreaterOrEqual

-- [NOT]
abbrev pub IsNegation : Bool → List Token → List Token → Type 0
IsNegation true from to = IsSign sign.Not from to
IsNegation false from to = from ≡ to

-- predicate = operand op operand | operand [NOT] BETWEEN operand AND operand | operand [NOT] IN "(" literal {"," literal} ")" | operand IS [NOT] NULL
abbrev pub IsPredicate : Clause → Predicate → List Token → List Token → Type 0
IsPredicate c (Compare left o right) from to =
    (a : List Token) × ((b : List Token) × (IsOperand c left from a × (IsSign (sign_of o) a b × IsOperand c right b to)))
IsPredicate c (Between x negated low high) from to =
    (a : List Token) × ((b : List Token) × ((d : List Token) × ((e : List Token) × ((f : List Token)
    × (IsOperand c x from a × (IsNegation negated a b × (IsSign sign.Between b d × (IsOperand c low d e × (IsSign sign.And e f × IsOperand c high f to)))))))))
IsPredicate c (In x negated literals) from to =
    (a : List Token) × ((b : List Token) × ((d : List Token) × ((e : List Token) × ((f : List Token)
    × (IsOperand c x from a × (IsNegation negated a b × (IsSign sign.In b d × (IsSign sign.OpenParen d e × (Listed IsLiteral sign.Comma e literals f × IsSign sign.CloseParen f to)))))))))
IsPredicate c (IsNull x negated) from to =
    (a : List Token) × ((b : List Token) × ((d : List Token) × (IsOperand c x from a × (IsSign sign.Is a b × (IsNegation negated b d × IsSign sign.Null d to)))))

-- the keyword of a truth value
abbrev pub word_of_truth : Truth → Sign
word_of_truth truth.True = sign.True
word_of_truth truth.False = sign.False
word_of_truth truth.Unknown = sign.Unknown

-- IS [NOT] (TRUE | FALSE | UNKNOWN)
abbrev pub IsAsked : IsTruth → List Token → List Token → Type 0
IsAsked is from to =
    (a : List Token) × ((b : List Token) × (IsSign sign.Is from a × (IsNegation is.negated a b × IsSign (word_of_truth is.truth) b to)))

-- which rule a formula is of: 0 primary, 1 test, 2 factor, 3 term, 4 cond; 5 is none
abbrev pub rank : Formula → ℕ
rank (says p) = 0
rank (in_parentheses f) = 0
rank (is_truth f is) = 1
rank (negation f) = 2
rank no_factor = 5
rank (both f g) = 3
rank no_term = 5
rank (either f g) = 4

-- The tokens of a formula: a cond is terms with OR between two, a term is factors with AND between two, a factor is a test or
-- NOT and a test, a test is a primary with IS or without, a primary is a predicate or a cond in parentheses.
abbrev pub IsFormula : Clause → Formula → List Token → List Token → Type 0
IsFormula c (says p) from to = IsPredicate c p from to
IsFormula c (in_parentheses f) from to =
    (rank f ≡ 4) × ((a : List Token) × ((b : List Token) × (IsSign sign.OpenParen from a × (IsFormula c f a b × IsSign sign.CloseParen b to))))
IsFormula c (is_truth f is) from to = (rank f ≡ 0) × ((a : List Token) × (IsFormula c f from a × IsAsked is a to))
IsFormula c (negation f) from to = (rank f ≤ 1) × ((a : List Token) × (IsSign sign.Not from a × IsFormula c f a to))
IsFormula c no_factor from to = from ≡ to
IsFormula c (both f g) from to =
    (rank g ≤ 2) × ((a : List Token) × ((b : List Token)
    × (IsFormula c f from a × ((((f ≡ no_factor) × (a ≡ b)) ⊎ ((rank f ≡ 3) × IsSign sign.And a b)) × IsFormula c g b to))))
IsFormula c no_term from to = from ≡ to
IsFormula c (either f g) from to =
    (rank g ≡ 3) × ((a : List Token) × ((b : List Token)
    × (IsFormula c f from a × ((((f ≡ no_term) × (a ≡ b)) ⊎ ((rank f ≡ 4) × IsSign sign.Or a b)) × IsFormula c g b to))))

-- cond
abbrev pub IsCondition : Clause → Formula → List Token → List Token → Type 0
IsCondition c f from to = (rank f ≡ 4) × IsFormula c f from to

-- [WHERE cond], or [HAVING cond]
abbrev pub IsClause : Sign → Clause → Option Formula → List Token → List Token → Type 0
IsClause s c None from to = from ≡ to
IsClause s c (Some f) from to = (a : List Token) × (IsSign s from a × IsCondition c f a to)

-- [GROUP BY identifier {"," identifier}]: no columns where it is absent
abbrev pub IsGrouping : List ColumnMention → List Token → List Token → Type 0
IsGrouping columns from to =
    ((columns ≡ []) × (from ≡ to))
    ⊎ ((a : List Token) × ((b : List Token) × (IsSign sign.Group from a × (IsSign sign.By a b × Listed IsName sign.Comma b columns to))))

-- identifier | setf
abbrev pub IsItemValue : ItemValue → List Token → List Token → Type 0
IsItemValue (Grouped column) from to = IsName column from to
IsItemValue (Computed f) from to = IsFunction f from to

-- [[AS] identifier]
abbrev pub IsAlias : Option (List ℕ) → List Token → List Token → Type 0
IsAlias None from to = from ≡ to
IsAlias (Some name) from to =
    (a : List Token) × ((at : ℕ) × (((from ≡ a) ⊎ IsSign sign.As from a) × IsName (record { name = name; at = at }) a to))

-- item = (identifier | setf) [[AS] identifier]
abbrev pub IsItem : Item → List Token → List Token → Type 0
IsItem item from to = (a : List Token) × (IsItemValue item.value from a × IsAlias item.alias a to)

-- query = SELECT item {"," item} FROM identifier [WHERE cond] [GROUP BY identifier {"," identifier}] [HAVING cond]
pub record IsQuery (q : QueryShape) (from to : List Token) : Type 0 where
  pub behind_select : List Token
  pub behind_items : List Token
  pub behind_from : List Token
  pub behind_table : List Token
  pub behind_filter : List Token
  pub behind_grouping : List Token
  pub place : ℕ
  pub select : IsSign sign.Select from behind_select
  pub items : Listed IsItem sign.Comma behind_select q.items behind_items
  pub of : IsSign sign.From behind_items behind_from
  pub table : IsName (record { name = q.table; at = place }) behind_from behind_table
  pub filter : IsClause sign.Where Where q.filter behind_table behind_filter
  pub grouping : IsGrouping q.grouping behind_filter behind_grouping
  pub having : IsClause sign.Having Having q.having behind_grouping to
