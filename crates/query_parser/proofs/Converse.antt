-- What the grammar has of literals, set functions, items and predicates is read, unless the text exceeds a limit.
use Rattle.std.proofs.Common.{◌≡◌, ℕ, ℤ, Bool, true, false, cond, Option, Some, None, Ok, Err, List, refl, inl, inr}
use Rattle.table_model.specs.declared.query.ColumnMention.{ColumnMention}
use Rattle.table_model.specs.declared.query.Fold.{Fold}
use Rattle.table_model.specs.declared.query.Fold.TheVariants as folds
use Rattle.table_model.specs.declared.query.Item.{Item}
use Rattle.table_model.specs.declared.query.ItemValue.{ItemValue}
use Rattle.table_model.specs.declared.query.ItemValue.TheVariants.{Grouped, Computed}
use Rattle.table_model.specs.declared.query.Operand.{Operand}
use Rattle.table_model.specs.declared.query.Operand.TheVariants.{Column, Literal, Function}
use Rattle.table_model.specs.declared.query.SetFunction.{SetFunction}
use Rattle.table_model.specs.declared.query.SetFunction.TheVariants.{CountRows, Of}
use Rattle.table_model.specs.declared.refusal.Refusal.TheVariants.{NumberTooLarge}
use Rattle.query_parser.proofs.Beginnings.{apart, name_apart, digits_apart, sign_no_name, digits_no_name, function_reads, no_function}
use Rattle.query_parser.proofs.Taking.{Fits, Agrees, reads, stops, then_agrees, chosen, passed_over, sign_agrees, fits-taken, fits-mentioned, fits-digits}
use Rattle.table_model.specs.Reading.{◌>>=◌}
use Rattle.query_parser.specs.Descent.{read_name, read_digits, read_literal, function_word, read_column_argument, read_quantified, read_argument, read_function, read_item_value, read_alias, read_item, allowed_function, read_operand}
use Rattle.query_parser.specs.Grammar.{IsSign, IsName, IsLiteral, word_of, IsQuantifier, IsArgument, fold_of, takes_functions, IsOperand, IsItemValue, IsAlias, IsItem}
use Rattle.query_parser.specs.Token.{same_sign, choose, taken, mentioned, spelled_digits, is_large, signed, value_of, significant, place_of}
use Rattle.query_parser.specs.declared.predicate.Clause.{Clause}
use Rattle.query_parser.specs.declared.predicate.Clause.TheVariants.{Where, Having}
use Rattle.query_parser.specs.declared.token.Sign.{Sign}
use Rattle.query_parser.specs.declared.token.Sign.TheVariants as sign
use Rattle.query_parser.specs.declared.token.Token.{Token}

pub name_agrees : (E : Type 0) (end : ℕ) (m : ColumnMention) (from to : List Token) → IsName m from to → Fits E from → Agrees E (read_name end from) m to
unfolding read_name
name_agrees E end m from to e d = chosen E (mentioned from) _ _ (m, to) m to e (reads refl (fits-mentioned E from (m, to) e d))

digits_agree : (E : Type 0) (negative : Bool) (end : ℕ) (digits : List ℕ) (from to : List Token) → spelled_digits from ≡ Some (digits, to) → Fits E from
    → Agrees E (read_digits negative end from) (signed negative (value_of (significant digits))) to
unfolding read_digits
digits_agree E negative end digits from to e d =
    chosen E (spelled_digits from) _ _ (digits, to) (signed negative (value_of (significant digits))) to e (by_size (is_large digits) (fits-digits E from (digits, to) e d).0)
  where
    by_size : (b : Bool) → (b ≡ true → E)
        → Agrees E (cond b (Err (NumberTooLarge (place_of end from))) (Ok (signed negative (value_of (significant digits)), to))) (signed negative (value_of (significant digits))) to
    by_size true f = stops (f refl) (NumberTooLarge (place_of end from)) refl (inr (place_of end from, refl))
    by_size false f = reads refl (fits-digits E from (digits, to) e d).1

pub literal_agrees : (E : Type 0) (end : ℕ) (z : ℤ) (from to : List Token) → IsLiteral z from to → Fits E from → Agrees E (read_literal end from) z to
unfolding read_literal
literal_agrees E end z from to (true, (digits, (mid, (s, (e, q))))) d =
    rw q
    (passed_over E (taken sign.Plus from) _ _ _ to (apart sign.Minus sign.Plus from mid refl s)
    (chosen E (taken sign.Minus from) _ _ mid _ to s (digits_agree E true end digits mid to e (fits-taken E sign.Minus from mid s d))))
literal_agrees E end z from to (false, (digits, (mid, (inl p, (e, q))))) d =
    let spelled : spelled_digits from ≡ Some (digits, to) = rw p e in
    rw q
    (passed_over E (taken sign.Plus from) _ _ _ to (digits_apart sign.Plus from (digits, to) spelled)
    (passed_over E (taken sign.Minus from) _ _ _ to (digits_apart sign.Minus from (digits, to) spelled) (digits_agree E false end digits from to spelled d)))
literal_agrees E end z from to (false, (digits, (mid, (inr s, (e, q))))) d =
    rw q (chosen E (taken sign.Plus from) _ _ mid _ to s (digits_agree E false end digits mid to e (fits-taken E sign.Plus from mid s d)))

column_agrees : (E : Type 0) (f : Fold) (distinct : Bool) (end : ℕ) (m : ColumnMention) (from to : List Token) → IsName m from to → Fits E from
    → Agrees E (read_column_argument f distinct end from) (Of f distinct m) to
unfolding read_column_argument
column_agrees E f distinct end m from to e d = then_agrees E (read_name end from) _ m to _ to (name_agrees E end m from to e d) (λ c. reads refl c)

quantified_agrees : (E : Type 0) (f : Fold) (distinct : Bool) (end : ℕ) (m : ColumnMention) (from mid to : List Token) → IsQuantifier distinct from mid → IsName m mid to → Fits E from
    → Agrees E (read_quantified f end from) (Of f distinct m) to
unfolding read_quantified
quantified_agrees E f true end m from mid to s e d = chosen E (taken sign.Distinct from) _ _ mid _ to s (column_agrees E f true end m mid to e (fits-taken E sign.Distinct from mid s d))
quantified_agrees E f false end m from mid to (inl p) e d =
    let named : IsName m from to = rw p e in
    passed_over E (taken sign.Distinct from) _ _ _ to (name_apart sign.Distinct from (m, to) named)
    (passed_over E (taken sign.All from) _ _ _ to (name_apart sign.All from (m, to) named) (column_agrees E f false end m from to named d))
quantified_agrees E f false end m from mid to (inr s) e d =
    passed_over E (taken sign.Distinct from) _ _ _ to (apart sign.All sign.Distinct from mid refl s)
    (chosen E (taken sign.All from) _ _ mid _ to s (column_agrees E f false end m mid to e (fits-taken E sign.All from mid s d)))

no_asterisk : (distinct : Bool) (m : ColumnMention) (from mid to : List Token) → IsQuantifier distinct from mid → IsName m mid to → taken sign.Asterisk from ≡ None
no_asterisk true m from mid to s e = apart sign.Distinct sign.Asterisk from mid refl s
no_asterisk false m from mid to (inl p) e = name_apart sign.Asterisk from (m, to) (rw p e)
no_asterisk false m from mid to (inr s) e = apart sign.All sign.Asterisk from mid refl s

argument_agrees : (E : Type 0) (f : SetFunction) (end : ℕ) (from to : List Token) → IsArgument f from to → Fits E from → Agrees E (read_argument (fold_of f) end from) f to
unfolding read_argument
argument_agrees E CountRows end from to s d = chosen E (taken sign.Asterisk from) _ _ to _ to s (reads refl (fits-taken E sign.Asterisk from to s d))
argument_agrees E (Of folds.Count distinct m) end from to (mid, (q, e)) d =
    passed_over E (taken sign.Asterisk from) _ _ _ to (no_asterisk distinct m from mid to q e) (quantified_agrees E folds.Count distinct end m from mid to q e d)
argument_agrees E (Of folds.Sum distinct m) end from to (mid, (q, e)) d = quantified_agrees E folds.Sum distinct end m from mid to q e d
argument_agrees E (Of folds.Avg distinct m) end from to (mid, (q, e)) d = quantified_agrees E folds.Avg distinct end m from mid to q e d
argument_agrees E (Of folds.Min distinct m) end from to (mid, (q, e)) d = quantified_agrees E folds.Min distinct end m from mid to q e d
argument_agrees E (Of folds.Max distinct m) end from to (mid, (q, e)) d = quantified_agrees E folds.Max distinct end m from mid to q e d

-- what stands behind a set function's keyword
function_agrees : (E : Type 0) (f : SetFunction) (end : ℕ) (word inner last to : List Token) → IsSign sign.OpenParen word inner → IsArgument f inner last → IsSign sign.CloseParen last to → Fits E word
    → Agrees E (read_function (fold_of f) end word) f to
unfolding read_function
function_agrees E f end word inner last to o a cl d =
    sign_agrees E sign.OpenParen end word inner _ f to o
    (then_agrees E (read_argument (fold_of f) end inner) _ f last f to (argument_agrees E f end inner last a (fits-taken E sign.OpenParen word inner o d))
    (λ c. sign_agrees E sign.CloseParen end last to _ f to cl (reads refl (fits-taken E sign.CloseParen last to cl c))))

-- an operand begins with an identifier, digits, a plus or minus, or a set function's keyword
pub operand_apart : (c : Clause) (x : Operand) (from to : List Token) (s : Sign) → same_sign sign.Plus s ≡ false → same_sign sign.Minus s ≡ false → ((f : Fold) → same_sign (word_of f) s ≡ false)
    → IsOperand c x from to → taken s from ≡ None
operand_apart c (Column m) from to s p n w e = name_apart s from (m, to) e
operand_apart c (Literal z) from to s p n w (true, (digits, (mid, (h, (e, q))))) = apart sign.Minus s from mid n h
operand_apart c (Literal z) from to s p n w (false, (digits, (mid, (inl h, (e, q))))) = digits_apart s from (digits, to) (rw h e)
operand_apart c (Literal z) from to s p n w (false, (digits, (mid, (inr h, (e, q))))) = apart sign.Plus s from mid p h
operand_apart c (Function f) from to s p n w (t, (word, (inner, (last, (h, rest))))) = apart (word_of (fold_of f)) s from word (w (fold_of f)) h

literal_begins : (z : ℤ) (from to : List Token) → IsLiteral z from to → (mentioned from ≡ None) × (function_word from ≡ None)
literal_begins z from to (true, (digits, (mid, (h, (e, q))))) =
    (sign_no_name sign.Minus from mid h, no_function from (λ f. apart sign.Minus (word_of f) from mid (no_word f) h))
  where
    no_word : (f : Fold) → same_sign sign.Minus (word_of f) ≡ false
    no_word folds.Count = refl
    no_word folds.Sum = refl
    no_word folds.Avg = refl
    no_word folds.Min = refl
    no_word folds.Max = refl
literal_begins z from to (false, (digits, (mid, (inl h, (e, q))))) =
    let spelled : spelled_digits from ≡ Some (digits, to) = rw h e in
    (digits_no_name from (digits, to) spelled, no_function from (λ f. digits_apart (word_of f) from (digits, to) spelled))
literal_begins z from to (false, (digits, (mid, (inr h, (e, q))))) =
    (sign_no_name sign.Plus from mid h, no_function from (λ f. apart sign.Plus (word_of f) from mid (no_word f) h))
  where
    no_word : (f : Fold) → same_sign sign.Plus (word_of f) ≡ false
    no_word folds.Count = refl
    no_word folds.Sum = refl
    no_word folds.Avg = refl
    no_word folds.Min = refl
    no_word folds.Max = refl

pub operand_agrees : (E : Type 0) (c : Clause) (end : ℕ) (x : Operand) (from to : List Token) → IsOperand c x from to → Fits E from → Agrees E (read_operand c end from) x to
unfolding read_operand
operand_agrees E c end (Column m) from to e d = rw e (then_agrees E (read_name end from) _ m to _ to (name_agrees E end m from to e d) (λ k. reads refl k))
operand_agrees E c end (Literal z) from to l d = rw (literal_begins z from to l).0 (by_clause c)
  where
    end_with : Agrees E (read_literal end from >>= λ r. Ok (Literal r.0, r.1)) (Literal z) to
    end_with = then_agrees E (read_literal end from) _ z to _ to (literal_agrees E end z from to l d) (λ k. reads refl k)

    by_clause : (c : Clause) → Agrees E (choose (allowed_function (takes_functions c) from) (λ w. read_function w.0 end w.1 >>= λ r. Ok (Function r.0, r.1)) (read_literal end from >>= λ r. Ok (Literal r.0, r.1))) (Literal z) to
    by_clause Where = end_with
    by_clause Having = passed_over E (function_word from) _ _ _ to (literal_begins z from to l).1 end_with
operand_agrees E Where end (Function f) from to (t, rest) d = absurd (cc)
operand_agrees E Having end (Function f) from to (t, (word, (inner, (last, (w, (o, (a, cl))))))) d =
    rw (sign_no_name (word_of (fold_of f)) from word w)
    (chosen E (function_word from) _ _ (fold_of f, word) _ to (function_reads (fold_of f) from word w)
    (then_agrees E (read_function (fold_of f) end word) _ f to _ to (function_agrees E f end word inner last to o a cl (fits-taken E (word_of (fold_of f)) from word w d)) (λ k. reads refl k)))

item_value_agrees : (E : Type 0) (end : ℕ) (v : ItemValue) (from to : List Token) → IsItemValue v from to → Fits E from → Agrees E (read_item_value end from) v to
unfolding read_item_value
item_value_agrees E end (Grouped m) from to e d = rw e (then_agrees E (read_name end from) _ m to _ to (name_agrees E end m from to e d) (λ k. reads refl k))
item_value_agrees E end (Computed f) from to (word, (inner, (last, (w, (o, (a, cl)))))) d =
    rw (sign_no_name (word_of (fold_of f)) from word w)
    (chosen E (function_word from) _ _ (fold_of f, word) _ to (function_reads (fold_of f) from word w)
    (then_agrees E (read_function (fold_of f) end word) _ f to _ to (function_agrees E f end word inner last to o a cl (fits-taken E (word_of (fold_of f)) from word w d)) (λ k. reads refl k)))

-- no alias begins here
abbrev pub NoAlias : List Token → Type 0
NoAlias ts = (taken sign.As ts ≡ None) × (mentioned ts ≡ None)

alias_agrees : (E : Type 0) (end : ℕ) (alias : Option (List ℕ)) (from to : List Token) → IsAlias alias from to → NoAlias to → Fits E from → Agrees E (read_alias end from) alias to
unfolding read_alias
alias_agrees E end None from to p n d = rw (p, n.0, n.1) (reads refl (rw p at d))
alias_agrees E end (Some name) from to (a, (at, (inl p, e))) n d =
    let named : IsName (record { name = name; at = at }) from to = rw p e in
    passed_over E (taken sign.As from) _ _ _ to (name_apart sign.As from (record { name = name; at = at }, to) named)
    (rw named (then_agrees E (read_name end from) _ (record { name = name; at = at }) to _ to (name_agrees E end (record { name = name; at = at }) from to named d) (λ k. reads refl k)))
alias_agrees E end (Some name) from to (a, (at, (inr s, e))) n d =
    chosen E (taken sign.As from) _ _ a _ to s
    (then_agrees E (read_name end a) _ (record { name = name; at = at }) to _ to (name_agrees E end (record { name = name; at = at }) a to e (fits-taken E sign.As from a s d)) (λ k. reads refl k))

pub item_agrees : (E : Type 0) (end : ℕ) (item : Item) (from to : List Token) → IsItem item from to → NoAlias to → Fits E from → Agrees E (read_item end from) item to
unfolding read_item
item_agrees E end item from to (a, (v, al)) n d =
    then_agrees E (read_item_value end from) _ item.value a item to (item_value_agrees E end item.value from a v d)
    (λ c. then_agrees E (read_alias end a) _ item.alias to item to (alias_agrees E end item.alias a to al n c) (λ k. reads refl k))
