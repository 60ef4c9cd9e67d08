-- The grammar read by descent: what each function of the parser answers. That this is the grammar's query, and the first fault
-- by the stack of symbols, is proved of it.
use Rattle.std.specs.Prelude.{ℕ, zero, suc, ℤ, Bool, true, false, ◌==◌, if◌then◌else◌, Option, Some, None, is_some, Result, Ok, Err, List, [], ◌∷◌, ◌++◌, length}
use Rattle.table_model.specs.Formula.{Formula, says, in_parentheses, is_truth, negation, no_factor, both, no_term, either}
use Rattle.table_model.specs.Query.{QueryShape}
use Rattle.table_model.specs.Reading.{◌>>=◌}
use Rattle.table_model.specs.declared.op.Op.{Op}
use Rattle.table_model.specs.declared.op.Op.TheVariants as op
use Rattle.table_model.specs.declared.truth.Truth.TheVariants as truth
use Rattle.table_model.specs.declared.query.ColumnMention.{ColumnMention}
use Rattle.table_model.specs.declared.query.Fold.{Fold}
use Rattle.table_model.specs.declared.query.Fold.TheVariants as folds
use Rattle.table_model.specs.declared.query.IsTruth.{IsTruth}
use Rattle.table_model.specs.declared.query.Item.{Item}
use Rattle.table_model.specs.declared.query.ItemValue.{ItemValue}
use Rattle.table_model.specs.declared.query.ItemValue.TheVariants.{Grouped, Computed}
use Rattle.table_model.specs.declared.query.Operand.{Operand}
use Rattle.table_model.specs.declared.query.Operand.TheVariants.{Column, Literal, Function}
use Rattle.table_model.specs.declared.query.Predicate.{Predicate}
use Rattle.table_model.specs.declared.query.Predicate.TheVariants as predicates
use Rattle.table_model.specs.declared.query.SetFunction.{SetFunction}
use Rattle.table_model.specs.declared.query.SetFunction.TheVariants.{CountRows, Of}
use Rattle.table_model.specs.declared.refusal.Refusal.{Refusal}
use Rattle.table_model.specs.declared.refusal.Refusal.TheVariants.{Syntax, NumberTooLarge, TooDeep}
use Rattle.query_parser.specs.Grammar.{takes_functions}
use Rattle.query_parser.specs.Limits.{depth_limit}
use Rattle.query_parser.specs.Token.{choose, taken, mentioned, spelled_digits, significant, is_large, value_of, signed, place_of, tokens_of}
use Rattle.query_parser.specs.declared.predicate.Clause.{Clause}
use Rattle.query_parser.specs.declared.predicate.Clause.TheVariants.{Where, Having}
use Rattle.query_parser.specs.declared.token.Sign.{Sign}
use Rattle.query_parser.specs.declared.token.Sign.TheVariants as sign
use Rattle.query_parser.specs.declared.token.Token.{Token}

-- whether the first token is an identifier
abbrev pub begins_with_name : List Token → Bool
begins_with_name ts = is_some (mentioned ts)

-- what is read of tokens, and the tokens behind it
abbrev pub Reader : Type 0 → Type 0
Reader V = List Token → Result (V × List Token) Refusal

-- no token that may be here
abbrev pub syntax : {V : Type 0} → ℕ → List Token → Result V Refusal
syntax end ts = Err (Syntax (place_of end ts))

-- a sign that has to come
unfoldable pub read_sign : Sign → ℕ → List Token → Result (List Token) Refusal
read_sign s end ts = choose (taken s ts) (λ rest. Ok rest) (syntax end ts)

-- an identifier that has to come
unfoldable pub read_name : ℕ → Reader ColumnMention
read_name end ts = choose (mentioned ts) (λ r. Ok r) (syntax end ts)

-- digits that have to come
unfoldable pub read_digits : Bool → ℕ → Reader ℤ
read_digits negative end ts =
    choose (spelled_digits ts)
    (λ r. if is_large r.0 then Err (NumberTooLarge (place_of end ts)) else Ok (signed negative (value_of (significant r.0)), r.1))
    (syntax end ts)

-- a literal
unfoldable pub read_literal : ℕ → Reader ℤ
read_literal end ts =
    choose (taken sign.Plus ts) (read_digits false end)
    (choose (taken sign.Minus ts) (read_digits true end)
    (read_digits false end ts))

-- The parts behind a front, at most a given number: each behind a sign, read in the same way and joined to the front.
unfoldable pub read_more : {V A : Type 0} → Reader V → Sign → (A → V → A) → ℕ → A → Reader A
read_more read s join zero front ts = Ok (front, ts)
read_more read s join (suc n) front ts =
    choose (taken s ts) (λ next. read next >>= λ r. read_more read s join n (join front r.0) r.1) (Ok (front, ts))

-- Parts with a sign between two, each read in the same way and joined to a front. There are no more of them than tokens.
unfoldable pub read_many : {V A : Type 0} → Reader V → Sign → (A → V → A) → A → Reader A
read_many read s join front ts = read ts >>= λ r. read_more read s join (length r.1) (join front r.0) r.1

-- a list with one more at its end
abbrev pub one_more : {V : Type 0} → List V → V → List V
one_more xs x = xs ++ x ∷ []

-- a set function's keyword
unfoldable pub function_word : List Token → Option (Fold × List Token)
function_word ts =
    choose (taken sign.Count ts) (λ rest. Some (folds.Count, rest))
    (choose (taken sign.Sum ts) (λ rest. Some (folds.Sum, rest))
    (choose (taken sign.Avg ts) (λ rest. Some (folds.Avg, rest))
    (choose (taken sign.Min ts) (λ rest. Some (folds.Min, rest))
    (choose (taken sign.Max ts) (λ rest. Some (folds.Max, rest)) None))))

-- a column as a set function's argument
unfoldable pub read_column_argument : Fold → Bool → ℕ → Reader SetFunction
read_column_argument f distinct end ts = read_name end ts >>= λ r. Ok (Of f distinct r.0, r.1)

-- a column as a set function's argument, after ALL or DISTINCT or without
unfoldable pub read_quantified : Fold → ℕ → Reader SetFunction
read_quantified f end ts =
    choose (taken sign.Distinct ts) (read_column_argument f true end)
    (choose (taken sign.All ts) (read_column_argument f false end)
    (read_column_argument f false end ts))

-- a set function's argument: COUNT alone takes an asterisk
unfoldable pub read_argument : Fold → ℕ → Reader SetFunction
read_argument folds.Count end ts = choose (taken sign.Asterisk ts) (λ rest. Ok (CountRows, rest)) (read_quantified folds.Count end ts)
read_argument folds.Sum end ts = read_quantified folds.Sum end ts
read_argument folds.Avg end ts = read_quantified folds.Avg end ts
read_argument folds.Min end ts = read_quantified folds.Min end ts
read_argument folds.Max end ts = read_quantified folds.Max end ts

-- what follows a set function's keyword
unfoldable pub read_function : Fold → ℕ → Reader SetFunction
read_function f end ts =
    read_sign sign.OpenParen end ts >>= λ inner.
    read_argument f end inner >>= λ r.
    read_sign sign.CloseParen end r.1 >>= λ rest.
    Ok (r.0, rest)

-- what a select item asks for
unfoldable pub read_item_value : ℕ → Reader ItemValue
read_item_value end ts =
    if begins_with_name ts then (read_name end ts >>= λ r. Ok (Grouped r.0, r.1))
    else (choose (function_word ts) (λ w. read_function w.0 end w.1 >>= λ r. Ok (Computed r.0, r.1))
    (syntax end ts))

-- an alias, or none
unfoldable pub read_alias : ℕ → Reader (Option (List ℕ))
read_alias end ts =
    choose (taken sign.As ts) (λ rest. read_name end rest >>= λ r. Ok (Some r.0.name, r.1))
    (if begins_with_name ts then (read_name end ts >>= λ r. Ok (Some r.0.name, r.1)) else Ok (None, ts))

-- a select item
unfoldable pub read_item : ℕ → Reader Item
read_item end ts =
    read_item_value end ts >>= λ v.
    read_alias end v.1 >>= λ r.
    Ok (record { value = v.0; alias = r.0 }, r.1)

-- select items
unfoldable pub read_items : ℕ → Reader (List Item)
read_items end ts = read_many (read_item end) sign.Comma one_more [] ts

-- a set function's keyword, where one may be
abbrev pub allowed_function : Bool → List Token → Option (Fold × List Token)
allowed_function true ts = function_word ts
allowed_function false ts = None

-- an operand
unfoldable pub read_operand : Clause → ℕ → Reader Operand
read_operand clause end ts =
    if begins_with_name ts then (read_name end ts >>= λ r. Ok (Column r.0, r.1))
    else (choose (allowed_function (takes_functions clause) ts) (λ w. read_function w.0 end w.1 >>= λ r. Ok (Function r.0, r.1))
    (read_literal end ts >>= λ r. Ok (Literal r.0, r.1)))

-- a comparison
unfoldable pub comparison_word : List Token → Option (Op × List Token)
comparison_word ts =
    choose (taken sign.Equal ts) (λ rest. Some (op.Equal, rest))
    (choose (taken sign.NotEqual ts) (λ rest. Some (op.NotEqual, rest))
    (choose (taken sign.Less ts) (λ rest. Some (op.Less, rest))
    (choose (taken sign.LessOrEqual ts) (λ rest. Some (op.LessOrEqual, rest))
    (choose (taken sign.Greater ts) (λ rest. Some (op.Greater, rest))
    (choose (taken sign.GreaterOrEqual ts) (λ rest. Some (op.GreaterOrEqual, rest)) None)))))

-- the literals of an IN
unfoldable pub read_literals : ℕ → Reader (List ℤ)
read_literals end ts = read_many (read_literal end) sign.Comma one_more [] ts

-- what follows IN
unfoldable pub read_list : Operand → Bool → ℕ → Reader Predicate
read_list x negated end ts =
    read_sign sign.OpenParen end ts >>= λ inner.
    read_literals end inner >>= λ r.
    read_sign sign.CloseParen end r.1 >>= λ rest.
    Ok (predicates.In x negated r.0, rest)

-- what follows BETWEEN
unfoldable pub read_range : Clause → Operand → Bool → ℕ → Reader Predicate
read_range clause x negated end ts =
    read_operand clause end ts >>= λ low.
    read_sign sign.And end low.1 >>= λ rest.
    read_operand clause end rest >>= λ high.
    Ok (predicates.Between x negated low.0 high.0, high.1)

-- BETWEEN or IN
unfoldable pub read_range_or_list : Clause → Operand → Bool → ℕ → Reader Predicate
read_range_or_list clause x negated end ts =
    choose (taken sign.Between ts) (read_range clause x negated end)
    (choose (taken sign.In ts) (read_list x negated end)
    (syntax end ts))

-- what follows a predicate's IS
unfoldable pub read_is_null : Operand → ℕ → Reader Predicate
read_is_null x end ts =
    choose (taken sign.Not ts) (λ rest. read_sign sign.Null end rest >>= λ after. Ok (predicates.IsNull x true, after))
    (read_sign sign.Null end ts >>= λ after. Ok (predicates.IsNull x false, after))

-- what follows a predicate's first operand
unfoldable pub read_after_operand : Clause → Operand → ℕ → Reader Predicate
read_after_operand clause x end ts =
    choose (comparison_word ts) (λ w. read_operand clause end w.1 >>= λ r. Ok (predicates.Compare x w.0 r.0, r.1))
    (choose (taken sign.Is ts) (read_is_null x end)
    (choose (taken sign.Not ts) (read_range_or_list clause x true end)
    (read_range_or_list clause x false end ts)))

-- a predicate
unfoldable pub read_predicate : Clause → ℕ → Reader Predicate
read_predicate clause end ts = read_operand clause end ts >>= λ r. read_after_operand clause r.0 end r.1

-- a truth value behind IS
unfoldable pub read_truth_word : Bool → ℕ → Reader IsTruth
read_truth_word negated end ts =
    choose (taken sign.True ts) (λ rest. Ok (record { negated = negated; truth = truth.True }, rest))
    (choose (taken sign.False ts) (λ rest. Ok (record { negated = negated; truth = truth.False }, rest))
    (choose (taken sign.Unknown ts) (λ rest. Ok (record { negated = negated; truth = truth.Unknown }, rest))
    (syntax end ts)))

-- what follows the IS behind a primary
unfoldable pub read_asked : ℕ → Reader IsTruth
read_asked end ts = choose (taken sign.Not ts) (read_truth_word true end) (read_truth_word false end ts)

-- a primary, given what is read between parentheses
unfoldable pub read_primary : Clause → Reader Formula → ℕ → Reader Formula
read_primary clause inner end ts =
    choose (taken sign.OpenParen ts)
    (λ rest. inner rest >>= λ r. read_sign sign.CloseParen end r.1 >>= λ after. Ok (in_parentheses r.0, after))
    (read_predicate clause end ts >>= λ r. Ok (says r.0, r.1))

-- a test whose primary was read: with IS and a truth value behind it, or without
abbrev pub read_is : Formula → ℕ → Reader Formula
read_is primary end ts = choose (taken sign.Is ts) (λ rest. read_asked end rest >>= λ r. Ok (is_truth primary r.0, r.1)) (Ok (primary, ts))

-- a test
unfoldable pub read_test : Clause → Reader Formula → ℕ → Reader Formula
read_test clause inner end ts =
    read_primary clause inner end ts >>= λ p. read_is p.0 end p.1

-- a factor
unfoldable pub read_factor : Clause → Reader Formula → ℕ → Reader Formula
read_factor clause inner end ts =
    choose (taken sign.Not ts) (λ rest. read_test clause inner end rest >>= λ r. Ok (negation r.0, r.1))
    (read_test clause inner end ts)

-- a term
unfoldable pub read_term : Clause → Reader Formula → ℕ → Reader Formula
read_term clause inner end ts = read_many (read_factor clause inner end) sign.And both no_factor ts

-- terms joined by OR
unfoldable pub read_terms : Clause → Reader Formula → ℕ → Reader Formula
read_terms clause inner end ts = read_many (read_term clause inner end) sign.Or either no_term ts

-- what is read behind one more open parenthesis, of which a number may still open
unfoldable pub nested : Clause → ℕ → ℕ → Reader Formula
nested clause zero end = λ ts. Err TooDeep
nested clause (suc levels) end = read_terms clause (nested clause levels end) end

-- a condition, in which a number of levels of parentheses may open
unfoldable pub read_condition : Clause → ℕ → ℕ → Reader Formula
read_condition clause levels end = read_terms clause (nested clause levels end) end

-- a condition behind its keyword, in which a number of levels of parentheses may open, or none
abbrev pub read_clause : Sign → Clause → ℕ → ℕ → Reader (Option Formula)
read_clause s clause levels end ts =
    choose (taken s ts) (λ rest. read_condition clause levels end rest >>= λ r. Ok (Some r.0, r.1)) (Ok (None, ts))

-- WHERE and its condition, if the text goes on so
unfoldable pub read_filter : ℕ → ℕ → Reader (Option Formula)
read_filter levels end ts = read_clause sign.Where Where levels end ts

-- HAVING and its condition, if the text goes on so
unfoldable pub read_having : ℕ → ℕ → Reader (Option Formula)
read_having levels end ts = read_clause sign.Having Having levels end ts

-- identifiers
unfoldable pub read_columns : ℕ → Reader (List ColumnMention)
read_columns end ts = read_many (read_name end) sign.Comma one_more [] ts

-- the columns of GROUP BY, or none
unfoldable pub read_grouping : ℕ → Reader (List ColumnMention)
read_grouping end ts = choose (taken sign.Group ts) (λ rest. read_sign sign.By end rest >>= read_columns end) (Ok ([], ts))

-- the clauses of a query with these items and this table, in whose conditions a number of levels of parentheses may open
abbrev pub read_clauses : List Item → List ℕ → ℕ → ℕ → Reader QueryShape
read_clauses items table levels end ts =
    read_filter levels end ts >>= λ filter.
    read_grouping end filter.1 >>= λ grouping.
    read_having levels end grouping.1 >>= λ having.
    Ok (record { items = items; table = table; filter = filter.0; grouping = grouping.0; having = having.0 }, having.1)

-- the table's name and the clauses of a query with these items
abbrev pub read_table : List Item → ℕ → ℕ → Reader QueryShape
read_table items levels end ts =
    read_sign sign.From end ts >>= λ name.
    read_name end name >>= λ table.
    read_clauses items table.0.name levels end table.1

-- a query, in whose conditions a number of levels of parentheses may open
unfoldable pub read_query : ℕ → ℕ → Reader QueryShape
read_query levels end ts =
    read_sign sign.Select end ts >>= λ list.
    read_items end list >>= λ items.
    read_table items.0 levels end items.1

-- a query behind which no token is left
abbrev pub whole : {V : Type 0} → ℕ → V × List Token → Result V Refusal
whole end r = if length r.1 == 0 then Ok r.0 else syntax end r.1

-- the query that tokens are, or their first fault
unfoldable pub read_whole : ℕ → List Token → Result QueryShape Refusal
read_whole end ts = read_query depth_limit end ts >>= whole end

-- the query that a text is, or its first fault
unfoldable pub query_of : List ℕ → Result QueryShape Refusal
query_of text = read_whole (length text) (tokens_of text)

-- the condition of WHERE that tokens are, or their first fault
unfoldable pub read_whole_condition : ℕ → List Token → Result Formula Refusal
read_whole_condition end ts = read_condition Where depth_limit end ts >>= whole end

-- the condition of WHERE that a text is, or its first fault
unfoldable pub condition_of : List ℕ → Result Formula Refusal
condition_of text = read_whole_condition (length text) (tokens_of text)
