-- No reader leaves more tokens than it was given.
use Rattle.std.proofs.Common.{◌≡◌, ℕ, zero, suc, ◌≤◌, Bool, true, false, cond, Option, Some, None, Result, Ok, Err, List, [], ◌∷◌, length, refl, arith}
use Rattle.table_model.specs.Formula.{Formula}
use Rattle.table_model.specs.declared.query.ColumnMention.{ColumnMention}
use Rattle.table_model.specs.declared.query.Fold.{Fold}
use Rattle.table_model.specs.declared.query.Fold.TheVariants as folds
use Rattle.table_model.specs.declared.query.Operand.{Operand}
use Rattle.table_model.specs.declared.refusal.Refusal.{Refusal}
use Rattle.query_parser.proofs.Many.{length-taken}
use Rattle.table_model.specs.Reading.{◌>>=◌}
use Rattle.query_parser.specs.Descent.{Reader, read_sign, read_name, read_digits, read_literal, read_more, read_many, one_more, function_word, read_column_argument, read_quantified, read_argument, read_function, read_item_value, read_alias, read_item, read_operand, allowed_function, begins_with_name, comparison_word, read_literals, read_list, read_range, read_range_or_list, read_is_null, read_after_operand, read_predicate, read_truth_word, read_asked, read_primary, read_test, read_factor, read_term, read_terms, nested, syntax}
use Rattle.query_parser.specs.Grammar.{takes_functions}
use Rattle.query_parser.specs.Token.{choose, taken, mentioned, mention_of, spelled_digits, digits_of, is_large}
use Rattle.query_parser.specs.declared.predicate.Clause.{Clause}
use Rattle.query_parser.specs.declared.token.Sign.{Sign}
use Rattle.query_parser.specs.declared.token.Sign.TheVariants as sign
use Rattle.query_parser.specs.declared.token.Token.{Token}

-- at most so many tokens are left
abbrev pub AtMost : {V : Type 0} → ℕ → Result (V × List Token) Refusal → Type 0
AtMost n (Ok r) = length r.1 ≤ n
AtMost n (Err e) = Unit {0}

-- the same of tokens that may be left
abbrev pub Within : {X : Type 0} → ℕ → Option (X × List Token) → Type 0
Within n None = Unit {0}
Within n (Some r) = length r.1 ≤ n

-- a reader that leaves no more than it was given
abbrev pub Shrinks : {V : Type 0} → Reader V → Type 0
Shrinks read = (ts : List Token) → AtMost (length ts) (read ts)

pub bind_short : {V W : Type 0} (n m : ℕ) (r : Result (V × List Token) Refusal) (next : V × List Token → Result (W × List Token) Refusal)
    → AtMost m r → ((x : V × List Token) → length x.1 ≤ m → AtMost n (next x)) → AtMost n (r >>= next)
bind_short n m (Ok x) next f g = g x f
bind_short n m (Err e) next f g = tt

pub taken_short : {V : Type 0} (n : ℕ) (s : Sign) (ts : List Token) (there : List Token → Result (V × List Token) Refusal) (absent : Result (V × List Token) Refusal)
    → ((rest : List Token) → length rest ≤ length ts → AtMost n (there rest)) → AtMost n absent → AtMost n (choose (taken s ts) there absent)
taken_short n s ts there absent f g = by_taken (taken s ts) refl
  where
    by_taken : (o : Option (List Token)) → taken s ts ≡ o → AtMost n (choose o there absent)
    by_taken None e = g
    by_taken (Some rest) e = f rest (omega (arith, length-taken s ts rest e))

pub word_short : {X V : Type 0} (n m : ℕ) (o : Option (X × List Token)) (there : X × List Token → Result (V × List Token) Refusal) (absent : Result (V × List Token) Refusal)
    → Within m o → ((x : X × List Token) → length x.1 ≤ m → AtMost n (there x)) → AtMost n absent → AtMost n (choose o there absent)
word_short n m None there absent w f g = g
word_short n m (Some x) there absent w f g = f x w

pub taken_within : {X : Type 0} (s : Sign) (ts : List Token) (word : List Token → X × List Token) (other : Option (X × List Token))
    → ((rest : List Token) → length rest ≤ length ts → length ((word rest).1) ≤ length ts) → Within (length ts) other → Within (length ts) (choose (taken s ts) (λ rest. Some (word rest)) other)
taken_within s ts word other f g = by_taken (taken s ts) refl
  where
    by_taken : (o : Option (List Token)) → taken s ts ≡ o → Within (length ts) (choose o (λ rest. Some (word rest)) other)
    by_taken None e = g
    by_taken (Some rest) e = f rest (omega (arith, length-taken s ts rest e))

pub sign_short : {V : Type 0} (n : ℕ) (s : Sign) (end : ℕ) (ts : List Token) (next : List Token → Result (V × List Token) Refusal)
    → ((rest : List Token) → length rest ≤ length ts → AtMost n (next rest)) → AtMost n (read_sign s end ts >>= next)
unfolding read_sign
sign_short n s end ts next f = by_taken (taken s ts) refl
  where
    by_taken : (o : Option (List Token)) → taken s ts ≡ o → AtMost n (choose o (λ rest. Ok rest) (syntax end ts) >>= next)
    by_taken None e = tt
    by_taken (Some rest) e = f rest (omega (arith, length-taken s ts rest e))

-- fewer at first are fewer at last
pub longer : {V : Type 0} (n m : ℕ) (r : Result (V × List Token) Refusal) → AtMost n r → n ≤ m → AtMost m r
longer n m (Ok r) h le = omega arith
longer n m (Err e) h le = tt

pub cond_short : {V : Type 0} (n : ℕ) (b : Bool) (x y : Result (V × List Token) Refusal) → AtMost n x → AtMost n y → AtMost n (cond b x y)
cond_short n true x y f g = f
cond_short n false x y f g = g

pub mentioned_within : (ts : List Token) → Within (length ts) (mentioned ts)
unfolding mentioned
mentioned_within [] = tt
mentioned_within (t ∷ ts) = by_mention (mention_of t.kind t.at)
  where
    by_mention : (o : Option ColumnMention) → Within (length (t ∷ ts)) (choose o (λ m. Some (m, ts)) None)
    by_mention None = tt
    by_mention (Some m) = omega arith

pub digits_within : (ts : List Token) → Within (length ts) (spelled_digits ts)
unfolding spelled_digits
digits_within [] = tt
digits_within (t ∷ ts) = by_digits (digits_of t.kind)
  where
    by_digits : (o : Option (List ℕ)) → Within (length (t ∷ ts)) (choose o (λ digits. Some (digits, ts)) None)
    by_digits None = tt
    by_digits (Some digits) = omega arith

pub name_short : (end : ℕ) → Shrinks (read_name end)
unfolding read_name
name_short end ts = word_short (length ts) (length ts) (mentioned ts) _ _ (mentioned_within ts) (λ x h. h) tt

pub digits_short : (negative : Bool) (end : ℕ) → Shrinks (read_digits negative end)
unfolding read_digits
digits_short negative end ts = word_short (length ts) (length ts) (spelled_digits ts) _ _ (digits_within ts) (λ x h. cond_short (length ts) (is_large x.0) _ _ tt h) tt

pub literal_short : (end : ℕ) → Shrinks (read_literal end)
unfolding read_literal
literal_short end ts =
    taken_short (length ts) sign.Plus ts _ _ (λ rest h. longer _ _ _ (digits_short false end rest) h)
    (taken_short (length ts) sign.Minus ts _ _ (λ rest h. longer _ _ _ (digits_short true end rest) h) (digits_short false end ts))

pub more_short : {V A : Type 0} (read : Reader V) (s : Sign) (join : A → V → A) → Shrinks read → (n : ℕ) (front : A) → Shrinks (read_more read s join n front)
unfolding read_more
more_short read s join f zero front ts = omega arith
more_short read s join f (suc n) front ts =
    taken_short (length ts) s ts _ _
    (λ next h. bind_short (length ts) (length next) (read next) _ (f next) (λ r k. longer _ _ _ (more_short read s join f n (join front r.0) r.1) (omega arith)))
    (omega arith)

pub many_short : {V A : Type 0} (read : Reader V) (s : Sign) (join : A → V → A) (front : A) → Shrinks read → Shrinks (read_many read s join front)
unfolding read_many
many_short read s join front f ts = bind_short (length ts) (length ts) (read ts) _ (f ts) (λ r h. longer _ _ _ (more_short read s join f (length r.1) (join front r.0) r.1) h)

pub column_argument_short : (f : Fold) (distinct : Bool) (end : ℕ) → Shrinks (read_column_argument f distinct end)
unfolding read_column_argument
column_argument_short f distinct end ts = bind_short (length ts) (length ts) (read_name end ts) _ (name_short end ts) (λ x h. h)

pub quantified_short : (f : Fold) (end : ℕ) → Shrinks (read_quantified f end)
unfolding read_quantified
quantified_short f end ts =
    taken_short (length ts) sign.Distinct ts _ _ (λ rest h. longer _ _ _ (column_argument_short f true end rest) h)
    (taken_short (length ts) sign.All ts _ _ (λ rest h. longer _ _ _ (column_argument_short f false end rest) h) (column_argument_short f false end ts))

pub argument_short : (f : Fold) (end : ℕ) → Shrinks (read_argument f end)
unfolding read_argument
argument_short folds.Count end ts = taken_short (length ts) sign.Asterisk ts _ _ (λ rest h. h) (quantified_short folds.Count end ts)
argument_short folds.Sum end ts = quantified_short folds.Sum end ts
argument_short folds.Avg end ts = quantified_short folds.Avg end ts
argument_short folds.Min end ts = quantified_short folds.Min end ts
argument_short folds.Max end ts = quantified_short folds.Max end ts

pub function_short : (f : Fold) (end : ℕ) → Shrinks (read_function f end)
unfolding read_function
function_short f end ts =
    sign_short (length ts) sign.OpenParen end ts _
    (λ inner h. bind_short (length ts) (length inner) (read_argument f end inner) _ (argument_short f end inner)
    (λ r k. sign_short (length ts) sign.CloseParen end r.1 _ (λ rest l. omega arith)))

pub function_within : (ts : List Token) → Within (length ts) (function_word ts)
unfolding function_word
function_within ts =
    taken_within sign.Count ts _ _ (λ rest h. h) (taken_within sign.Sum ts _ _ (λ rest h. h) (taken_within sign.Avg ts _ _ (λ rest h. h)
    (taken_within sign.Min ts _ _ (λ rest h. h) (taken_within sign.Max ts _ _ (λ rest h. h) tt))))

pub item_value_short : (end : ℕ) → Shrinks (read_item_value end)
unfolding read_item_value
item_value_short end ts =
    cond_short (length ts) (begins_with_name ts) _ _
    (bind_short (length ts) (length ts) (read_name end ts) _ (name_short end ts) (λ x h. h))
    (word_short (length ts) (length ts) (function_word ts) _ _ (function_within ts)
    (λ w h. bind_short (length ts) (length w.1) (read_function w.0 end w.1) _ (function_short w.0 end w.1) (λ x k. omega arith)) tt)

pub alias_short : (end : ℕ) → Shrinks (read_alias end)
unfolding read_alias
alias_short end ts =
    taken_short (length ts) sign.As ts _ _ (λ rest h. bind_short (length ts) (length rest) (read_name end rest) _ (name_short end rest) (λ x k. omega arith))
    (cond_short (length ts) (begins_with_name ts) _ _ (bind_short (length ts) (length ts) (read_name end ts) _ (name_short end ts) (λ x h. h)) (omega arith))

pub item_short : (end : ℕ) → Shrinks (read_item end)
unfolding read_item
item_short end ts =
    bind_short (length ts) (length ts) (read_item_value end ts) _ (item_value_short end ts)
    (λ v h. bind_short (length ts) (length v.1) (read_alias end v.1) _ (alias_short end v.1) (λ x k. omega arith))

allowed_within : (b : Bool) (ts : List Token) → Within (length ts) (allowed_function b ts)
allowed_within true ts = function_within ts
allowed_within false ts = tt

pub operand_short : (c : Clause) (end : ℕ) → Shrinks (read_operand c end)
unfolding read_operand
operand_short c end ts =
    cond_short (length ts) (begins_with_name ts) _ _
    (bind_short (length ts) (length ts) (read_name end ts) _ (name_short end ts) (λ x h. h))
    (word_short (length ts) (length ts) (allowed_function (takes_functions c) ts) _ _ (allowed_within (takes_functions c) ts)
    (λ w h. bind_short (length ts) (length w.1) (read_function w.0 end w.1) _ (function_short w.0 end w.1) (λ x k. omega arith))
    (bind_short (length ts) (length ts) (read_literal end ts) _ (literal_short end ts) (λ x h. h)))

pub comparison_within : (ts : List Token) → Within (length ts) (comparison_word ts)
unfolding comparison_word
comparison_within ts =
    taken_within sign.Equal ts _ _ (λ rest h. h) (taken_within sign.NotEqual ts _ _ (λ rest h. h) (taken_within sign.Less ts _ _ (λ rest h. h)
    (taken_within sign.LessOrEqual ts _ _ (λ rest h. h) (taken_within sign.Greater ts _ _ (λ rest h. h) (taken_within sign.GreaterOrEqual ts _ _ (λ rest h. h) tt)))))

pub list_short : (x : Operand) (negated : Bool) (end : ℕ) → Shrinks (read_list x negated end)
unfolding read_list read_literals
list_short x negated end ts =
    sign_short (length ts) sign.OpenParen end ts _
    (λ inner h. bind_short (length ts) (length inner) (read_literals end inner) _ (many_short (read_literal end) sign.Comma one_more [] (literal_short end) inner)
    (λ r k. sign_short (length ts) sign.CloseParen end r.1 _ (λ rest l. omega arith)))

pub range_short : (c : Clause) (x : Operand) (negated : Bool) (end : ℕ) → Shrinks (read_range c x negated end)
unfolding read_range
range_short c x negated end ts =
    bind_short (length ts) (length ts) (read_operand c end ts) _ (operand_short c end ts)
    (λ low h. sign_short (length ts) sign.And end low.1 _
    (λ rest k. bind_short (length ts) (length rest) (read_operand c end rest) _ (operand_short c end rest) (λ high l. omega arith)))

pub range_or_list_short : (c : Clause) (x : Operand) (negated : Bool) (end : ℕ) → Shrinks (read_range_or_list c x negated end)
unfolding read_range_or_list
range_or_list_short c x negated end ts =
    taken_short (length ts) sign.Between ts _ _ (λ rest h. longer _ _ _ (range_short c x negated end rest) h)
    (taken_short (length ts) sign.In ts _ _ (λ rest h. longer _ _ _ (list_short x negated end rest) h) tt)

pub is_null_short : (x : Operand) (end : ℕ) → Shrinks (read_is_null x end)
unfolding read_is_null
is_null_short x end ts =
    taken_short (length ts) sign.Not ts _ _ (λ rest h. sign_short (length ts) sign.Null end rest _ (λ after k. omega arith))
    (sign_short (length ts) sign.Null end ts _ (λ after k. k))

pub after_operand_short : (c : Clause) (x : Operand) (end : ℕ) → Shrinks (read_after_operand c x end)
unfolding read_after_operand
after_operand_short c x end ts =
    word_short (length ts) (length ts) (comparison_word ts) _ _ (comparison_within ts)
    (λ w h. bind_short (length ts) (length w.1) (read_operand c end w.1) _ (operand_short c end w.1) (λ y k. omega arith))
    (taken_short (length ts) sign.Is ts _ _ (λ rest h. longer _ _ _ (is_null_short x end rest) h)
    (taken_short (length ts) sign.Not ts _ _ (λ rest h. longer _ _ _ (range_or_list_short c x true end rest) h) (range_or_list_short c x false end ts)))

pub predicate_short : (c : Clause) (end : ℕ) → Shrinks (read_predicate c end)
unfolding read_predicate
predicate_short c end ts =
    bind_short (length ts) (length ts) (read_operand c end ts) _ (operand_short c end ts) (λ r h. longer _ _ _ (after_operand_short c r.0 end r.1) h)

pub truth_word_short : (negated : Bool) (end : ℕ) → Shrinks (read_truth_word negated end)
unfolding read_truth_word
truth_word_short negated end ts =
    taken_short (length ts) sign.True ts _ _ (λ rest h. h) (taken_short (length ts) sign.False ts _ _ (λ rest h. h) (taken_short (length ts) sign.Unknown ts _ _ (λ rest h. h) tt))

pub asked_short : (end : ℕ) → Shrinks (read_asked end)
unfolding read_asked
asked_short end ts = taken_short (length ts) sign.Not ts _ _ (λ rest h. longer _ _ _ (truth_word_short true end rest) h) (truth_word_short false end ts)

pub primary_short : (c : Clause) (inner : Reader Formula) (end : ℕ) → Shrinks inner → Shrinks (read_primary c inner end)
unfolding read_primary
primary_short c inner end f ts =
    taken_short (length ts) sign.OpenParen ts _ _
    (λ rest h. bind_short (length ts) (length rest) (inner rest) _ (f rest) (λ r k. sign_short (length ts) sign.CloseParen end r.1 _ (λ after l. omega arith)))
    (bind_short (length ts) (length ts) (read_predicate c end ts) _ (predicate_short c end ts) (λ r h. h))

pub test_short : (c : Clause) (inner : Reader Formula) (end : ℕ) → Shrinks inner → Shrinks (read_test c inner end)
unfolding read_test
test_short c inner end f ts =
    bind_short (length ts) (length ts) (read_primary c inner end ts) _ (primary_short c inner end f ts)
    (λ p h. taken_short (length ts) sign.Is p.1 _ _ (λ rest k. bind_short (length ts) (length rest) (read_asked end rest) _ (asked_short end rest) (λ r l. omega arith)) h)

pub factor_short : (c : Clause) (inner : Reader Formula) (end : ℕ) → Shrinks inner → Shrinks (read_factor c inner end)
unfolding read_factor
factor_short c inner end f ts =
    taken_short (length ts) sign.Not ts _ _ (λ rest h. bind_short (length ts) (length rest) (read_test c inner end rest) _ (test_short c inner end f rest) (λ r k. omega arith))
    (test_short c inner end f ts)

pub term_short : (c : Clause) (inner : Reader Formula) (end : ℕ) → Shrinks inner → Shrinks (read_term c inner end)
unfolding read_term
term_short c inner end f ts = many_short (read_factor c inner end) sign.And _ _ (factor_short c inner end f) ts

pub terms_short : (c : Clause) (inner : Reader Formula) (end : ℕ) → Shrinks inner → Shrinks (read_terms c inner end)
unfolding read_terms
terms_short c inner end f ts = many_short (read_term c inner end) sign.Or _ _ (term_short c inner end f) ts

pub nested_short : (c : Clause) (levels end : ℕ) → Shrinks (nested c levels end)
unfolding nested
nested_short c zero end ts = tt
nested_short c (suc levels) end ts = terms_short c (nested c levels end) end (nested_short c levels end) ts
