-- What each reader reads is in the grammar.
use Rattle.std.proofs.Common.{◌≡◌, ℕ, zero, suc, ◌≤◌, Bool, true, false, cond, Option, Some, None, Result, Ok, Err, IfOk, List, [], ◌∷◌, length, refl, ◌∙◌, ap, inl, inr, ◌==◌, arith}
use Rattle.std.proofs.lemmas.Bool.Decides.{nat_tests}
use Rattle.table_model.specs.Formula.{Formula, no_factor, both, no_term, either}
use Rattle.table_model.specs.Query.{QueryShape}
use Rattle.table_model.specs.declared.op.Op.{Op}
use Rattle.table_model.specs.declared.op.Op.TheVariants as op
use Rattle.table_model.specs.declared.query.ColumnMention.{ColumnMention}
use Rattle.table_model.specs.declared.query.Fold.{Fold}
use Rattle.table_model.specs.declared.query.Fold.TheVariants as folds
use Rattle.table_model.specs.declared.query.Operand.{Operand}
use Rattle.table_model.specs.declared.query.Predicate.{Predicate}
use Rattle.table_model.specs.declared.refusal.Refusal.{Refusal}
use Rattle.table_model.specs.Reading.{Reads, ◌>>=◌}
use Rattle.query_parser.specs.Descent.{Reader, read_sign, read_name, read_digits, read_literal, read_more, read_many, one_more, function_word, read_column_argument, read_quantified, read_argument, read_function, read_item_value, read_alias, read_item, read_items, read_operand, begins_with_name, comparison_word, read_literals, read_list, read_range, read_range_or_list, read_is_null, read_after_operand, read_predicate, read_truth_word, read_asked, read_primary, read_test, read_factor, read_term, read_terms, nested, read_condition, read_filter, read_having, read_columns, read_grouping, read_query, read_whole, whole, syntax}
use Rattle.query_parser.specs.Token.{choose, taken, mentioned, spelled_digits, is_large}
use Rattle.query_parser.specs.Limits.{depth_limit}
use Rattle.query_parser.specs.Grammar.{IsSign, IsName, Listed, only, more, IsPlusOrMinus, IsLiteral, word_of, IsQuantifier, IsArgument, fold_of, IsFunction, IsOperand, sign_of, IsNegation, IsPredicate, IsAsked, rank, IsFormula, IsCondition, IsClause, IsGrouping, IsItemValue, IsAlias, IsItem, IsQuery}
use Rattle.query_parser.specs.declared.predicate.Clause.{Clause}
use Rattle.query_parser.specs.declared.predicate.Clause.TheVariants.{Where, Having}
use Rattle.query_parser.specs.declared.token.Sign.{Sign}
use Rattle.query_parser.specs.declared.token.Sign.TheVariants as sign
use Rattle.query_parser.specs.declared.token.Token.{Token}

-- what was read has a property, with the tokens behind it
abbrev pub Sound : {V : Type 0} → (V → List Token → Type 0) → Result (V × List Token) Refusal → Type 0
Sound P (Ok r) = P r.0 r.1
Sound P (Err e) = Unit {0}

pub bind_sound : {V W : Type 0} (Q : V → List Token → Type 0) (P : W → List Token → Type 0) (r : Result (V × List Token) Refusal) (next : V × List Token → Result (W × List Token) Refusal)
    → Sound Q r → ((x : V × List Token) → Q x.0 x.1 → Sound P (next x)) → Sound P (r >>= next)
bind_sound Q P (Ok x) next f g = g x f
bind_sound Q P (Err e) next f g = tt

pub choose_sound : {X V : Type 0} (P : V → List Token → Type 0) (o : Option X) (there : X → Result (V × List Token) Refusal) (absent : Result (V × List Token) Refusal)
    → ((x : X) → o ≡ Some x → Sound P (there x)) → Sound P absent → Sound P (choose o there absent)
choose_sound P None there absent f g = g
choose_sound P (Some x) there absent f g = f x refl

pub word_sound : {X W V : Type 0} (P : V → List Token → Type 0) (o : Option X) (word : X → W) (words : Option W) (there : W → Result (V × List Token) Refusal) (absent : Result (V × List Token) Refusal)
    → ((x : X) → o ≡ Some x → Sound P (there (word x))) → Sound P (choose words there absent) → Sound P (choose (choose o (λ x. Some (word x)) words) there absent)
word_sound P None word words there absent f g = g
word_sound P (Some x) word words there absent f g = f x refl

pub sign_sound : {V : Type 0} (P : V → List Token → Type 0) (s : Sign) (end : ℕ) (ts : List Token) (next : List Token → Result (V × List Token) Refusal)
    → ((rest : List Token) → taken s ts ≡ Some rest → Sound P (next rest)) → Sound P (read_sign s end ts >>= next)
unfolding read_sign
sign_sound P s end ts next f = by_taken (taken s ts) refl
  where
    by_taken : (o : Option (List Token)) → taken s ts ≡ o → Sound P (choose o (λ rest. Ok rest) (syntax end ts) >>= next)
    by_taken None e = tt
    by_taken (Some rest) e = f rest e

pub name_sound : (end : ℕ) (ts : List Token) → Sound (λ m to. IsName m ts to) (read_name end ts)
unfolding read_name
name_sound end ts = choose_sound _ (mentioned ts) _ _ (λ r e. e) tt

cond_sound : {V : Type 0} (P : V → List Token → Type 0) (b : Bool) (x y : Result (V × List Token) Refusal) → Sound P x → Sound P y → Sound P (cond b x y)
cond_sound P true x y f g = f
cond_sound P false x y f g = g

-- digits behind a sign or none
pub digits_sound : (negative : Bool) (end : ℕ) (from ts : List Token) → IsPlusOrMinus negative from ts → Sound (λ z to. IsLiteral z from to) (read_digits negative end ts)
unfolding read_digits
digits_sound negative end from ts h =
    choose_sound _ (spelled_digits ts) _ _ (λ r e. cond_sound _ (is_large r.0) _ _ tt (negative, (r.0, (ts, (h, (e, refl)))))) tt

pub literal_sound : (end : ℕ) (ts : List Token) → Sound (λ z to. IsLiteral z ts to) (read_literal end ts)
unfolding read_literal
literal_sound end ts =
    choose_sound _ (taken sign.Plus ts) _ _ (λ rest e. digits_sound false end ts rest (inr e))
    (choose_sound _ (taken sign.Minus ts) _ _ (λ rest e. digits_sound true end ts rest e) (digits_sound false end ts ts (inl refl)))

-- parts one after another keep what holds of a front
pub more_sound : {V A : Type 0} (R : V → List Token → List Token → Type 0) (J : A → List Token → Type 0) (read : Reader V) (s : Sign) (join : A → V → A)
    → ((ts : List Token) → Sound (λ v to. R v ts to) (read ts))
    → ((front : A) (v : V) (ts next to : List Token) → J front ts → IsSign s ts next → R v next to → J (join front v) to)
    → (n : ℕ) (front : A) (ts : List Token) → J front ts → Sound J (read_more read s join n front ts)
unfolding read_more
more_sound R J read s join f g zero front ts h = h
more_sound R J read s join f g (suc n) front ts h =
    choose_sound J (taken s ts) _ _
    (λ next e. bind_sound (λ v to. R v next to) J (read next) _ (f next) (λ r k. more_sound R J read s join f g n (join front r.0) r.1 (g front r.0 ts next r.1 h e k)))
    h

pub many_sound : {V A : Type 0} (R : V → List Token → List Token → Type 0) (J : A → List Token → Type 0) (read : Reader V) (s : Sign) (join : A → V → A)
    → ((ts : List Token) → Sound (λ v to. R v ts to) (read ts))
    → ((front : A) (v : V) (ts next to : List Token) → J front ts → IsSign s ts next → R v next to → J (join front v) to)
    → (front : A) (ts : List Token) → ((v : V) (to : List Token) → R v ts to → J (join front v) to) → Sound J (read_many read s join front ts)
unfolding read_many
many_sound R J read s join f g front ts h =
    bind_sound (λ v to. R v ts to) J (read ts) _ (f ts) (λ r k. more_sound R J read s join f g (length r.1) (join front r.0) r.1 (h r.0 r.1 k))

pub listed_sound : {V : Type 0} (R : V → List Token → List Token → Type 0) (read : Reader V) (s : Sign) → ((ts : List Token) → Sound (λ v to. R v ts to) (read ts))
    → (ts : List Token) → Sound (λ vs to. Listed R s ts vs to) (read_many read s one_more [] ts)
listed_sound R read s f ts =
    many_sound R (λ vs to. Listed R s ts vs to) read s one_more f (λ vs v mid next to l e r. more vs v mid next to l e r) [] ts (λ v to r. only v to r)

pub column_argument_sound : (f : Fold) (distinct : Bool) (end : ℕ) (from ts : List Token) → IsQuantifier distinct from ts
    → Sound (λ g to. (fold_of g ≡ f) × IsArgument g from to) (read_column_argument f distinct end ts)
unfolding read_column_argument
column_argument_sound f distinct end from ts h = bind_sound _ _ (read_name end ts) _ (name_sound end ts) (λ r e. (refl, (ts, (h, e))))

pub quantified_sound : (f : Fold) (end : ℕ) (ts : List Token) → Sound (λ g to. (fold_of g ≡ f) × IsArgument g ts to) (read_quantified f end ts)
unfolding read_quantified
quantified_sound f end ts =
    choose_sound _ (taken sign.Distinct ts) _ _ (λ rest e. column_argument_sound f true end ts rest e)
    (choose_sound _ (taken sign.All ts) _ _ (λ rest e. column_argument_sound f false end ts rest (inr e)) (column_argument_sound f false end ts ts (inl refl)))

pub argument_sound : (f : Fold) (end : ℕ) (ts : List Token) → Sound (λ g to. (fold_of g ≡ f) × IsArgument g ts to) (read_argument f end ts)
unfolding read_argument
argument_sound folds.Count end ts = choose_sound _ (taken sign.Asterisk ts) _ _ (λ rest e. (refl, e)) (quantified_sound folds.Count end ts)
argument_sound folds.Sum end ts = quantified_sound folds.Sum end ts
argument_sound folds.Avg end ts = quantified_sound folds.Avg end ts
argument_sound folds.Min end ts = quantified_sound folds.Min end ts
argument_sound folds.Max end ts = quantified_sound folds.Max end ts

pub function_sound : (f : Fold) (end : ℕ) (from ts : List Token) → IsSign (word_of f) from ts → Sound (λ g to. IsFunction g from to) (read_function f end ts)
unfolding read_function
function_sound f end from ts w =
    sign_sound _ sign.OpenParen end ts _
    (λ inner o. bind_sound _ _ (read_argument f end inner) _ (argument_sound f end inner)
    (λ r a. sign_sound _ sign.CloseParen end r.1 _ (λ rest cl. (ts, (inner, (r.1, (ap (λ g. taken (word_of g) from) a.0 ∙ w, (o, (a.1, cl)))))))))

-- a set function's keyword, and what follows from it
pub function_word_sound : {V : Type 0} (P : V → List Token → Type 0) (ts : List Token) (there : Fold × List Token → Result (V × List Token) Refusal) (absent : Result (V × List Token) Refusal)
    → ((f : Fold) (rest : List Token) → IsSign (word_of f) ts rest → Sound P (there (f, rest))) → Sound P absent → Sound P (choose (function_word ts) there absent)
unfolding function_word
function_word_sound P ts there absent f g =
    word_sound P (taken sign.Count ts) (λ rest. (folds.Count, rest)) _ there absent (λ rest e. f folds.Count rest e)
    (word_sound P (taken sign.Sum ts) (λ rest. (folds.Sum, rest)) _ there absent (λ rest e. f folds.Sum rest e)
    (word_sound P (taken sign.Avg ts) (λ rest. (folds.Avg, rest)) _ there absent (λ rest e. f folds.Avg rest e)
    (word_sound P (taken sign.Min ts) (λ rest. (folds.Min, rest)) _ there absent (λ rest e. f folds.Min rest e)
    (word_sound P (taken sign.Max ts) (λ rest. (folds.Max, rest)) None there absent (λ rest e. f folds.Max rest e) g))))

pub operand_sound : (c : Clause) (end : ℕ) (ts : List Token) → Sound (λ x to. IsOperand c x ts to) (read_operand c end ts)
unfolding read_operand
operand_sound Where end ts =
    cond_sound _ (begins_with_name ts) _ _ (bind_sound _ _ (read_name end ts) _ (name_sound end ts) (λ r e. e))
    (bind_sound _ _ (read_literal end ts) _ (literal_sound end ts) (λ r e. e))
operand_sound Having end ts =
    cond_sound _ (begins_with_name ts) _ _ (bind_sound _ _ (read_name end ts) _ (name_sound end ts) (λ r e. e))
    (function_word_sound _ ts _ _ (λ f rest w. bind_sound _ _ (read_function f end rest) _ (function_sound f end ts rest w) (λ r e. (refl, e)))
    (bind_sound _ _ (read_literal end ts) _ (literal_sound end ts) (λ r e. e)))

pub list_sound : (c : Clause) (x : Operand) (negated : Bool) (end : ℕ) (from a b ts : List Token) → IsOperand c x from a → IsNegation negated a b → IsSign sign.In b ts
    → Sound (λ p to. IsPredicate c p from to) (read_list x negated end ts)
unfolding read_list read_literals
list_sound c x negated end from a b ts h n w =
    sign_sound _ sign.OpenParen end ts _
    (λ inner o. bind_sound _ _ (read_literals end inner) _ (listed_sound IsLiteral (read_literal end) sign.Comma (literal_sound end) inner)
    (λ r l. sign_sound _ sign.CloseParen end r.1 _ (λ rest cl. (a, (b, (ts, (inner, (r.1, (h, (n, (w, (o, (l, cl)))))))))))))

pub range_sound : (c : Clause) (x : Operand) (negated : Bool) (end : ℕ) (from a b ts : List Token) → IsOperand c x from a → IsNegation negated a b → IsSign sign.Between b ts
    → Sound (λ p to. IsPredicate c p from to) (read_range c x negated end ts)
unfolding read_range
range_sound c x negated end from a b ts h n w =
    bind_sound _ _ (read_operand c end ts) _ (operand_sound c end ts)
    (λ low l. sign_sound _ sign.And end low.1 _
    (λ rest k. bind_sound _ _ (read_operand c end rest) _ (operand_sound c end rest) (λ high m. (a, (b, (ts, (low.1, (rest, (h, (n, (w, (l, (k, m)))))))))))))

pub range_or_list_sound : (c : Clause) (x : Operand) (negated : Bool) (end : ℕ) (from a ts : List Token) → IsOperand c x from a → IsNegation negated a ts
    → Sound (λ p to. IsPredicate c p from to) (read_range_or_list c x negated end ts)
unfolding read_range_or_list
range_or_list_sound c x negated end from a ts h n =
    choose_sound _ (taken sign.Between ts) _ _ (λ rest e. range_sound c x negated end from a ts rest h n e)
    (choose_sound _ (taken sign.In ts) _ _ (λ rest e. list_sound c x negated end from a ts rest h n e) tt)

pub is_null_sound : (c : Clause) (x : Operand) (end : ℕ) (from a ts : List Token) → IsOperand c x from a → IsSign sign.Is a ts → Sound (λ p to. IsPredicate c p from to) (read_is_null x end ts)
unfolding read_is_null
is_null_sound c x end from a ts h w =
    choose_sound _ (taken sign.Not ts) _ _ (λ rest e. sign_sound _ sign.Null end rest _ (λ after k. (a, (ts, (rest, (h, (w, (e, k))))))))
    (sign_sound _ sign.Null end ts _ (λ after k. (a, (ts, (ts, (h, (w, (refl, k))))))))

pub after_operand_sound : (c : Clause) (x : Operand) (end : ℕ) (from ts : List Token) → IsOperand c x from ts → Sound (λ p to. IsPredicate c p from to) (read_after_operand c x end ts)
unfolding read_after_operand comparison_word
after_operand_sound c x end from ts h =
    word_sound _ (taken sign.Equal ts) (λ rest. (op.Equal, rest)) _ _ _ (λ rest e. compared op.Equal rest e)
    (word_sound _ (taken sign.NotEqual ts) (λ rest. (op.NotEqual, rest)) _ _ _ (λ rest e. compared op.NotEqual rest e)
    (word_sound _ (taken sign.Less ts) (λ rest. (op.Less, rest)) _ _ _ (λ rest e. compared op.Less rest e)
    (word_sound _ (taken sign.LessOrEqual ts) (λ rest. (op.LessOrEqual, rest)) _ _ _ (λ rest e. compared op.LessOrEqual rest e)
    (word_sound _ (taken sign.Greater ts) (λ rest. (op.Greater, rest)) _ _ _ (λ rest e. compared op.Greater rest e)
    (word_sound _ (taken sign.GreaterOrEqual ts) (λ rest. (op.GreaterOrEqual, rest)) None _ _ (λ rest e. compared op.GreaterOrEqual rest e)
    (choose_sound _ (taken sign.Is ts) _ _ (λ rest e. is_null_sound c x end from ts rest h e)
    (choose_sound _ (taken sign.Not ts) _ _ (λ rest e. range_or_list_sound c x true end from ts rest h e) (range_or_list_sound c x false end from ts ts h refl))))))))
  where
    compared : (o : Op) (rest : List Token) → IsSign (sign_of o) ts rest
        → Sound (λ p to. IsPredicate c p from to) (read_operand c end rest >>= λ r. Ok (Rattle.table_model.specs.declared.query.Predicate.TheVariants.Compare x o r.0, r.1))
    compared o rest e = bind_sound _ _ (read_operand c end rest) _ (operand_sound c end rest) (λ r k. (ts, (rest, (h, (e, k)))))

pub predicate_sound : (c : Clause) (end : ℕ) (ts : List Token) → Sound (λ p to. IsPredicate c p ts to) (read_predicate c end ts)
unfolding read_predicate
predicate_sound c end ts = bind_sound _ _ (read_operand c end ts) _ (operand_sound c end ts) (λ r h. after_operand_sound c r.0 end ts r.1 h)

pub truth_word_sound : (negated : Bool) (end : ℕ) (from a ts : List Token) → IsSign sign.Is from a → IsNegation negated a ts → Sound (λ is to. IsAsked is from to) (read_truth_word negated end ts)
unfolding read_truth_word
truth_word_sound negated end from a ts w n =
    choose_sound _ (taken sign.True ts) _ _ (λ rest e. (a, (ts, (w, (n, e)))))
    (choose_sound _ (taken sign.False ts) _ _ (λ rest e. (a, (ts, (w, (n, e)))))
    (choose_sound _ (taken sign.Unknown ts) _ _ (λ rest e. (a, (ts, (w, (n, e))))) tt))

pub asked_sound : (end : ℕ) (from ts : List Token) → IsSign sign.Is from ts → Sound (λ is to. IsAsked is from to) (read_asked end ts)
unfolding read_asked
asked_sound end from ts w = choose_sound _ (taken sign.Not ts) _ _ (λ rest e. truth_word_sound true end from ts rest w e) (truth_word_sound false end from ts ts w refl)

-- a reader of conditions
abbrev pub ReadsConditions : Clause → Reader Formula → Type 0
ReadsConditions c read = (ts : List Token) → Sound (λ f to. IsCondition c f ts to) (read ts)

pub primary_sound : (c : Clause) (inner : Reader Formula) (end : ℕ) → ReadsConditions c inner → (ts : List Token) → Sound (λ f to. (rank f ≡ 0) × IsFormula c f ts to) (read_primary c inner end ts)
unfolding read_primary
primary_sound c inner end h ts =
    choose_sound _ (taken sign.OpenParen ts) _ _
    (λ rest e. bind_sound _ _ (inner rest) _ (h rest) (λ r k. sign_sound _ sign.CloseParen end r.1 _ (λ after l. (refl, (k.0, (rest, (r.1, (e, (k.1, l)))))))))
    (bind_sound _ _ (read_predicate c end ts) _ (predicate_sound c end ts) (λ r k. (refl, k)))

pub test_sound : (c : Clause) (inner : Reader Formula) (end : ℕ) → ReadsConditions c inner → (ts : List Token) → Sound (λ f to. (rank f ≤ 1) × IsFormula c f ts to) (read_test c inner end ts)
unfolding read_test
test_sound c inner end h ts =
    bind_sound _ _ (read_primary c inner end ts) _ (primary_sound c inner end h ts)
    (λ p k. choose_sound _ (taken sign.Is p.1) _ _
    (λ rest e. bind_sound _ _ (read_asked end rest) _ (asked_sound end p.1 rest e) (λ r l. (omega arith, (k.0, (p.1, (k.1, l))))))
    (omega (arith, k.0), k.1))

pub factor_sound : (c : Clause) (inner : Reader Formula) (end : ℕ) → ReadsConditions c inner → (ts : List Token) → Sound (λ f to. (rank f ≤ 2) × IsFormula c f ts to) (read_factor c inner end ts)
unfolding read_factor
factor_sound c inner end h ts =
    choose_sound _ (taken sign.Not ts) _ _
    (λ rest e. bind_sound _ _ (read_test c inner end rest) _ (test_sound c inner end h rest) (λ r k. (omega arith, (k.0, (rest, (e, k.1))))))
    (weaker (read_test c inner end ts) (test_sound c inner end h ts))
  where
    weaker : (r : Result (Formula × List Token) Refusal) → Sound (λ f to. (rank f ≤ 1) × IsFormula c f ts to) r → Sound (λ f to. (rank f ≤ 2) × IsFormula c f ts to) r
    weaker (Ok r) k = (omega (arith, k.0), k.1)
    weaker (Err e) k = tt

pub term_sound : (c : Clause) (inner : Reader Formula) (end : ℕ) → ReadsConditions c inner → (ts : List Token) → Sound (λ f to. (rank f ≡ 3) × IsFormula c f ts to) (read_term c inner end ts)
unfolding read_term
term_sound c inner end h ts =
    many_sound (λ f from to. (rank f ≤ 2) × IsFormula c f from to) (λ f to. (rank f ≡ 3) × IsFormula c f ts to) (read_factor c inner end) sign.And both (factor_sound c inner end h)
    (λ front v mid next to j e k. (refl, (k.0, (mid, (next, (j.1, (inr (j.0, e), k.1)))))))
    no_factor ts
    (λ v to k. (refl, (k.0, (ts, (ts, (refl, (inl (refl, refl), k.1)))))))

pub terms_sound : (c : Clause) (inner : Reader Formula) (end : ℕ) → ReadsConditions c inner → ReadsConditions c (read_terms c inner end)
unfolding read_terms
terms_sound c inner end h ts =
    many_sound (λ f from to. (rank f ≡ 3) × IsFormula c f from to) (λ f to. IsCondition c f ts to) (read_term c inner end) sign.Or either (term_sound c inner end h)
    (λ front v mid next to j e k. (refl, (k.0, (mid, (next, (j.1, (inr (j.0, e), k.1)))))))
    no_term ts
    (λ v to k. (refl, (k.0, (ts, (ts, (refl, (inl (refl, refl), k.1)))))))

pub nested_sound : (c : Clause) (levels end : ℕ) → ReadsConditions c (nested c levels end)
unfolding nested
nested_sound c zero end ts = tt
nested_sound c (suc levels) end ts = terms_sound c (nested c levels end) end (nested_sound c levels end) ts

pub condition_sound : (c : Clause) (levels end : ℕ) → ReadsConditions c (read_condition c levels end)
unfolding read_condition
condition_sound c levels end ts = terms_sound c (nested c levels end) end (nested_sound c levels end) ts

pub filter_sound : (levels end : ℕ) (ts : List Token) → Sound (λ f to. IsClause sign.Where Where f ts to) (read_filter levels end ts)
unfolding read_filter
filter_sound levels end ts =
    choose_sound _ (taken sign.Where ts) _ _ (λ rest e. bind_sound _ _ (read_condition Where levels end rest) _ (condition_sound Where levels end rest) (λ r k. (rest, (e, k)))) refl

pub having_sound : (levels end : ℕ) (ts : List Token) → Sound (λ f to. IsClause sign.Having Having f ts to) (read_having levels end ts)
unfolding read_having
having_sound levels end ts =
    choose_sound _ (taken sign.Having ts) _ _ (λ rest e. bind_sound _ _ (read_condition Having levels end rest) _ (condition_sound Having levels end rest) (λ r k. (rest, (e, k)))) refl

pub grouping_sound : (end : ℕ) (ts : List Token) → Sound (λ columns to. IsGrouping columns ts to) (read_grouping end ts)
unfolding read_grouping read_columns
grouping_sound end ts =
    choose_sound _ (taken sign.Group ts) _ _
    (λ rest e. sign_sound _ sign.By end rest _ (λ after k. found rest after e k (read_columns end after) (listed_sound IsName (read_name end) sign.Comma (name_sound end) after)))
    (inl (refl, refl))
  where
    found : (rest after : List Token) → IsSign sign.Group ts rest → IsSign sign.By rest after → (r : Result (List ColumnMention × List Token) Refusal) → Sound (λ vs to. Listed IsName sign.Comma after vs to) r → Sound (λ columns to. IsGrouping columns ts to) r
    found rest after e k (Ok r) l = inr (rest, (after, (e, (k, l))))
    found rest after e k (Err f) l = tt

pub item_value_sound : (end : ℕ) (ts : List Token) → Sound (λ v to. IsItemValue v ts to) (read_item_value end ts)
unfolding read_item_value
item_value_sound end ts =
    cond_sound _ (begins_with_name ts) _ _ (bind_sound _ _ (read_name end ts) _ (name_sound end ts) (λ r e. e))
    (function_word_sound _ ts _ _ (λ f rest w. bind_sound _ _ (read_function f end rest) _ (function_sound f end ts rest w) (λ r e. e)) tt)

pub alias_sound : (end : ℕ) (ts : List Token) → Sound (λ alias to. IsAlias alias ts to) (read_alias end ts)
unfolding read_alias
alias_sound end ts =
    choose_sound _ (taken sign.As ts) _ _ (λ rest e. bind_sound _ _ (read_name end rest) _ (name_sound end rest) (λ r k. (rest, (r.0.at, (inr e, k)))))
    (cond_sound _ (begins_with_name ts) _ _ (bind_sound _ _ (read_name end ts) _ (name_sound end ts) (λ r k. (ts, (r.0.at, (inl refl, k))))) refl)

pub item_sound : (end : ℕ) (ts : List Token) → Sound (λ item to. IsItem item ts to) (read_item end ts)
unfolding read_item
item_sound end ts =
    bind_sound _ _ (read_item_value end ts) _ (item_value_sound end ts)
    (λ v h. bind_sound _ _ (read_alias end v.1) _ (alias_sound end v.1) (λ r k. (v.1, (h, k))))

pub query_sound : (levels end : ℕ) (ts : List Token) → Sound (λ q to. IsQuery q ts to) (read_query levels end ts)
unfolding read_query read_items
query_sound levels end ts =
    sign_sound _ sign.Select end ts _
    (λ list a. bind_sound _ _ (read_items end list) _ (listed_sound IsItem (read_item end) sign.Comma (item_sound end) list)
    (λ items b. sign_sound _ sign.From end items.1 _
    (λ name d. bind_sound _ _ (read_name end name) _ (name_sound end name)
    (λ table e. bind_sound _ _ (read_filter levels end table.1) _ (filter_sound levels end table.1)
    (λ filter f. bind_sound _ _ (read_grouping end filter.1) _ (grouping_sound end filter.1)
    (λ grouping g. bind_sound _ _ (read_having levels end grouping.1) _ (having_sound levels end grouping.1)
    (λ having h. record {
      behind_select = list;
      behind_items = items.1;
      behind_from = name;
      behind_table = table.1;
      behind_filter = filter.1;
      behind_grouping = grouping.1;
      place = table.0.at;
      select = a;
      items = b;
      of = d;
      table = e;
      filter = f;
      grouping = g;
      having = h;
    })))))))

-- a query behind which no token is left is the whole of the tokens
pub whole_sound : (end : ℕ) (ts : List Token) (q : QueryShape) → read_whole end ts ≡ Ok q → IsQuery q ts []
unfolding read_whole
whole_sound end ts q h = by_result (read_query depth_limit end ts) (query_sound depth_limit end ts) h
  where
    by_rest : (x : QueryShape) (rest : List Token) → IsQuery x ts rest → whole end (x, rest) ≡ Ok q → IsQuery q ts []
    by_rest x [] s e = let same : x ≡ q = cc in rw (← same) s
    by_rest x (t ∷ rest) s e =
        let some : (length (t ∷ rest) == 0) ≡ false = grind (arith, nat_tests) in
        let wrong = rw some at e in
        absurd (cc)

    by_result : (r : Result (QueryShape × List Token) Refusal) → Sound (λ x to. IsQuery x ts to) r → (r >>= whole end) ≡ Ok q → IsQuery q ts []
    by_result (Ok r) s e = by_rest r.0 r.1 s e
    by_result (Err f) s e = absurd (cc)

-- what was answered is in the grammar
pub answers : (end : ℕ) (ts : List Token) (result : Result QueryShape Refusal) → Reads (λ q. q) result (read_whole end ts) → IfOk result (λ q. IsQuery q ts [])
answers end ts (Ok q) h = whole_sound end ts q h
answers end ts (Err e) h = tt
