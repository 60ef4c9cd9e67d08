-- The grammar as a stack of the symbols still to come, read with one token of lookahead, and the first fault by it.
use Rattle.std.specs.Prelude.{◌≡◌, ◌⊎◌, Result, Ok, Err, length, ℕ, ◌+◌, Bool, true, false, ◌&&◌, nat_lt, if◌then◌else◌, Option, Some, None, List, [], ◌∷◌, ◌++◌}
use Rattle.std.specs.List.{list_all}
use Rattle.table_model.specs.declared.query.Fold.{Fold}
use Rattle.table_model.specs.declared.query.Fold.TheVariants as folds
use Rattle.table_model.specs.declared.refusal.Refusal.{Refusal}
use Rattle.table_model.specs.declared.refusal.Refusal.TheVariants.{Memory, Syntax, NumberTooLarge, TooDeep}
use Rattle.query_parser.specs.Limits.{depth_limit}
use Rattle.query_parser.specs.Token.{same_sign, tokens_of, choose, taken, mentioned, spelled_digits, is_large}
use Rattle.query_parser.specs.Grammar.{takes_functions}
use Rattle.query_parser.specs.declared.predicate.Clause.{Clause}
use Rattle.query_parser.specs.declared.predicate.Clause.TheVariants.{Where, Having}
use Rattle.query_parser.specs.declared.token.Kind.{Kind}
use Rattle.query_parser.specs.declared.token.Kind.TheVariants.{Identifier, Digits, Bad}
use Rattle.query_parser.specs.declared.token.Kind.TheVariants as kind
use Rattle.query_parser.specs.declared.token.Sign.{Sign}
use Rattle.query_parser.specs.declared.token.Sign.TheVariants as sign
use Rattle.query_parser.specs.declared.token.Token.{Token}

-- what may still have to come
pub data Symbol : Type 0 where
  a_sign : Sign → Symbol
  a_name : Symbol
  some_digits : Symbol
  a_query : Symbol
  some_items : Symbol
  more_items : Symbol
  an_item : Symbol
  an_item_value : Symbol
  an_alias : Symbol
  an_argument : Fold → Symbol
  a_quantified : Symbol
  a_filter : Symbol
  a_grouping : Symbol
  a_having : Symbol
  some_columns : Symbol
  more_columns : Symbol
  a_condition : Clause → Symbol
  or_terms : Clause → Symbol
  a_term : Clause → Symbol
  and_factors : Clause → Symbol
  a_factor : Clause → Symbol
  a_test : Clause → Symbol
  an_is_truth : Symbol
  an_asked : Symbol
  a_truth_word : Symbol
  a_primary : Clause → Symbol
  a_closing : Symbol
  a_predicate : Clause → Symbol
  an_after_operand : Clause → Symbol
  a_range_or_list : Clause → Symbol
  an_is_null : Symbol
  an_operand : Clause → Symbol
  a_literal : Symbol
  some_literals : Symbol
  more_literals : Symbol

-- what comes after this sign, where the tokens begin with it, or else what another rule says
abbrev pub on : Sign → List Token → List Symbol → Option (List Symbol) → Option (List Symbol)
on s ts next other = choose (taken s ts) (λ _. Some next) other

-- the same of an identifier
abbrev pub on_name : List Token → List Symbol → Option (List Symbol) → Option (List Symbol)
on_name ts next other = choose (mentioned ts) (λ _. Some next) other

-- the same of digits
abbrev pub on_digits : List Token → List Symbol → Option (List Symbol)
on_digits ts next = choose (spelled_digits ts) (λ _. Some next) None

-- a rule that goes on after another one
abbrev pub and_then : Option (List Symbol) → List Symbol → Option (List Symbol)
and_then begun tail = choose begun (λ next. Some (next ++ tail)) None

-- the argument of a set function, in parentheses
abbrev pub an_argument_of : Fold → List Symbol
an_argument_of f = a_sign sign.OpenParen ∷ an_argument f ∷ a_sign sign.CloseParen ∷ []

-- what comes after a set function's keyword
abbrev pub on_function : List Token → Option (List Symbol) → Option (List Symbol)
on_function ts other =
    on sign.Count ts (an_argument_of folds.Count) (on sign.Sum ts (an_argument_of folds.Sum) (on sign.Avg ts (an_argument_of folds.Avg)
    (on sign.Min ts (an_argument_of folds.Min) (on sign.Max ts (an_argument_of folds.Max) other))))

-- the same, where set functions may be
abbrev pub on_allowed_function : Bool → List Token → Option (List Symbol) → Option (List Symbol)
on_allowed_function true ts other = on_function ts other
on_allowed_function false ts other = other

-- how a literal begins
abbrev pub begin_literal : List Token → Option (List Symbol)
begin_literal ts = on sign.Plus ts (some_digits ∷ []) (on sign.Minus ts (some_digits ∷ []) (on_digits ts []))

-- how an operand begins
abbrev pub begin_operand : Clause → List Token → Option (List Symbol)
begin_operand c ts = on_name ts [] (on_allowed_function (takes_functions c) ts (begin_literal ts))

-- how a predicate begins: by its first operand
abbrev pub begin_predicate : Clause → List Token → Option (List Symbol)
begin_predicate c ts = and_then (begin_operand c ts) (an_after_operand c ∷ [])

-- how a primary begins: by a parenthesis round a condition, or as a predicate
abbrev pub begin_primary : Clause → List Token → Option (List Symbol)
begin_primary c ts = on sign.OpenParen ts (a_condition c ∷ a_closing ∷ []) (begin_predicate c ts)

-- how a test begins
abbrev pub begin_test : Clause → List Token → Option (List Symbol)
begin_test c ts = and_then (begin_primary c ts) (an_is_truth ∷ [])

-- how a factor begins: by NOT, or as a test
abbrev pub begin_factor : Clause → List Token → Option (List Symbol)
begin_factor c ts = on sign.Not ts (a_test c ∷ []) (begin_test c ts)

-- how a term begins: by its first factor
abbrev pub begin_term : Clause → List Token → Option (List Symbol)
begin_term c ts = and_then (begin_factor c ts) (and_factors c ∷ [])

-- how what follows an operand begins: by BETWEEN or by IN
abbrev pub begin_range_or_list : Clause → List Token → Option (List Symbol)
begin_range_or_list c ts =
    on sign.Between ts (an_operand c ∷ a_sign sign.And ∷ an_operand c ∷ [])
    (on sign.In ts (a_sign sign.OpenParen ∷ some_literals ∷ a_sign sign.CloseParen ∷ []) None)

-- how a truth value begins
abbrev pub begin_truth_word : List Token → Option (List Symbol)
begin_truth_word ts = on sign.True ts [] (on sign.False ts [] (on sign.Unknown ts [] None))

-- how a select item's value begins: by a name or a set function
abbrev pub begin_item_value : List Token → Option (List Symbol)
begin_item_value ts = on_name ts [] (on_function ts None)

-- how a select item begins
abbrev pub begin_item : List Token → Option (List Symbol)
begin_item ts = and_then (begin_item_value ts) (an_alias ∷ [])

-- how a set function's argument begins: by DISTINCT, ALL or a name
abbrev pub begin_quantified : List Token → Option (List Symbol)
begin_quantified ts = on sign.Distinct ts (a_name ∷ []) (on sign.All ts (a_name ∷ []) (on_name ts [] None))

-- how a set function's argument begins; COUNT has the asterisk besides
abbrev pub begin_argument : Fold → List Token → Option (List Symbol)
begin_argument folds.Count ts = on sign.Asterisk ts [] (begin_quantified ts)
begin_argument folds.Sum ts = begin_quantified ts
begin_argument folds.Avg ts = begin_quantified ts
begin_argument folds.Min ts = begin_quantified ts
begin_argument folds.Max ts = begin_quantified ts

-- What is still to come of a symbol after the first of the tokens, where that can begin it: the rules of the grammar.
abbrev pub begin : Symbol → List Token → Option (List Symbol)
begin (a_sign s) ts = on s ts [] None
begin a_name ts = on_name ts [] None
begin some_digits ts = on_digits ts []
begin a_query ts = on sign.Select ts (some_items ∷ a_sign sign.From ∷ a_name ∷ a_filter ∷ a_grouping ∷ a_having ∷ []) None
begin some_items ts = and_then (begin_item ts) (more_items ∷ [])
begin more_items ts = on sign.Comma ts (some_items ∷ []) None
begin an_item ts = begin_item ts
begin an_item_value ts = begin_item_value ts
begin an_alias ts = on sign.As ts (a_name ∷ []) (on_name ts [] None)
begin (an_argument f) ts = begin_argument f ts
begin a_quantified ts = begin_quantified ts
begin a_filter ts = on sign.Where ts (a_condition Where ∷ []) None
begin a_grouping ts = on sign.Group ts (a_sign sign.By ∷ some_columns ∷ []) None
begin a_having ts = on sign.Having ts (a_condition Having ∷ []) None
begin some_columns ts = and_then (on_name ts [] None) (more_columns ∷ [])
begin more_columns ts = on sign.Comma ts (some_columns ∷ []) None
begin (a_condition c) ts = and_then (begin_term c ts) (or_terms c ∷ [])
begin (or_terms c) ts = on sign.Or ts (a_condition c ∷ []) None
begin (a_term c) ts = begin_term c ts
begin (and_factors c) ts = on sign.And ts (a_term c ∷ []) None
begin (a_factor c) ts = begin_factor c ts
begin (a_test c) ts = begin_test c ts
begin an_is_truth ts = on sign.Is ts (an_asked ∷ []) None
begin an_asked ts = on sign.Not ts (a_truth_word ∷ []) (begin_truth_word ts)
begin a_truth_word ts = begin_truth_word ts
begin (a_primary c) ts = begin_primary c ts
begin a_closing ts = on sign.CloseParen ts [] None
begin (a_predicate c) ts = begin_predicate c ts
begin (an_after_operand c) ts =
    on sign.Equal ts (an_operand c ∷ []) (on sign.NotEqual ts (an_operand c ∷ []) (on sign.Less ts (an_operand c ∷ [])
    (on sign.LessOrEqual ts (an_operand c ∷ []) (on sign.Greater ts (an_operand c ∷ []) (on sign.GreaterOrEqual ts (an_operand c ∷ [])
    (on sign.Is ts (an_is_null ∷ []) (on sign.Not ts (a_range_or_list c ∷ []) (begin_range_or_list c ts))))))))
begin (a_range_or_list c) ts = begin_range_or_list c ts
begin an_is_null ts = on sign.Not ts (a_sign sign.Null ∷ []) (on sign.Null ts [] None)
begin (an_operand c) ts = begin_operand c ts
begin a_literal ts = begin_literal ts
begin some_literals ts = and_then (begin_literal ts) (more_literals ∷ [])
begin more_literals ts = on sign.Comma ts (some_literals ∷ []) None

-- whether a symbol may be left out: it is optional or repeated
abbrev pub may_be_empty : Symbol → Bool
may_be_empty more_items = true
may_be_empty an_alias = true
may_be_empty a_filter = true
may_be_empty a_grouping = true
may_be_empty a_having = true
may_be_empty more_columns = true
may_be_empty (or_terms c) = true
may_be_empty (and_factors c) = true
may_be_empty an_is_truth = true
may_be_empty more_literals = true
may_be_empty s = false

-- how many parentheses are open round conditions
abbrev pub open_count : List Symbol → ℕ
open_count [] = 0
open_count (a_closing ∷ ss) = open_count ss + 1
open_count (s ∷ ss) = open_count ss

-- the symbols still to come after the first of the tokens, where the stack takes it
unfoldable pub after : List Symbol → List Token → Option (List Symbol)
after [] ts = None
after (s ∷ ss) ts = choose (begin s ts) (λ next. Some (next ++ ss)) (if may_be_empty s then after ss ts else None)

-- the fault of a token that the stack takes: one parenthesis more than depth_limit open at once, or a literal that is too large
abbrev pub fault_of : List Symbol → Kind → ℕ → Option Refusal
fault_of next (kind.Sign s) at = if same_sign s sign.OpenParen && nat_lt depth_limit (open_count next) then Some TooDeep else None
fault_of next (Identifier word) at = None
fault_of next (Digits digits) at = if is_large digits then Some (NumberTooLarge at) else None
fault_of next Bad at = None

-- The first fault of tokens, given the symbols still to come and the text's length. At one token Syntax comes before the others.
unfoldable pub first_fault : ℕ → List Symbol → List Token → Option Refusal
first_fault end ss [] = if list_all may_be_empty ss then None else Some (Syntax end)
first_fault end ss (t ∷ ts) =
    choose (after ss (t ∷ ts)) (λ next. choose (fault_of next t.kind t.at) (λ fault. Some fault) (first_fault end next ts)) (Some (Syntax t.at))

-- An answer is the first fault, or Memory in its place: reading grows as it goes. A query is answered only where there is no fault.
abbrev pub Finds : {X : Type 0} → Result X Refusal → Option Refusal → Type 0
Finds (Ok x) fault = fault ≡ None
Finds (Err e) fault = (fault ≡ Some e) ⊎ (e ≡ Memory)

-- the first fault of a text, as a whole query
unfoldable pub text_fault : List ℕ → Option Refusal
text_fault text = first_fault (length text) (a_query ∷ []) (tokens_of text)

-- the first fault of a text that is to be a condition of WHERE, if it has one
unfoldable pub condition_fault : List ℕ → Option Refusal
condition_fault text = first_fault (length text) (a_condition Where ∷ []) (tokens_of text)
