-- The same tokens with each literal spelled by one digit of its whole value: they are the same query, and within each limit.
use Rattle.std.proofs.Common.{◌≡◌, ◌+◌, ◌==◌, nat_lt, ℕ, ℤ, Bool, true, false, cond, Option, Some, None, List, [], ◌∷◌, length, refl, sym, ◌∙◌, ap, ◌⊎◌, inl, inr, arith}
use Rattle.std.proofs.lemmas.Bool.Decides.{nat_tests}
use Rattle.table_model.specs.Formula.{Formula, says, in_parentheses, is_truth, negation, no_factor, both, no_term, either}
use Rattle.table_model.specs.Query.{QueryShape}
use Rattle.table_model.specs.declared.query.ColumnMention.{ColumnMention}
use Rattle.table_model.specs.declared.query.IsTruth.{IsTruth}
use Rattle.table_model.specs.declared.query.Item.{Item}
use Rattle.table_model.specs.declared.query.ItemValue.{ItemValue}
use Rattle.table_model.specs.declared.query.ItemValue.TheVariants.{Grouped, Computed}
use Rattle.table_model.specs.declared.query.Operand.{Operand}
use Rattle.table_model.specs.declared.query.Operand.TheVariants.{Column, Literal, Function}
use Rattle.table_model.specs.declared.query.Predicate.{Predicate}
use Rattle.table_model.specs.declared.query.Predicate.TheVariants.{Compare, Between, In, IsNull}
use Rattle.table_model.specs.declared.query.SetFunction.{SetFunction}
use Rattle.table_model.specs.declared.query.SetFunction.TheVariants.{CountRows, Of}
use Rattle.query_parser.proofs.Taking.{Fits}
use Rattle.query_parser.specs.Grammar.{IsSign, IsName, Listed, only, more, IsPlusOrMinus, IsLiteral, word_of, fold_of, IsQuantifier, IsArgument, IsFunction, IsOperand, sign_of, IsNegation, IsPredicate, word_of_truth, IsAsked, rank, IsFormula, IsClause, IsGrouping, IsItemValue, IsAlias, IsItem, IsQuery}
use Rattle.query_parser.specs.Limits.{is_large_number}
use Rattle.query_parser.specs.Token.{choose, is_sign, taken, mention_of, mentioned, digits_of, spelled_digits, significant, digit_limit, is_large, value_of, signed}
use Rattle.query_parser.specs.declared.predicate.Clause.{Clause}
use Rattle.query_parser.specs.declared.token.Kind.{Kind}
use Rattle.query_parser.specs.declared.token.Kind.TheVariants.{Identifier, Digits, Bad}
use Rattle.query_parser.specs.declared.token.Kind.TheVariants as kind
use Rattle.query_parser.specs.declared.token.Sign.{Sign}
use Rattle.query_parser.specs.declared.token.Sign.TheVariants as sign
use Rattle.query_parser.specs.declared.token.Token.{Token}

-- one digit of a value
abbrev digit : ℕ → List ℕ
digit n = (n + 48) ∷ []

value-digit : (n : ℕ) → value_of (significant (digit n)) ≡ n
value-digit n = by_zero (n + 48 == 48) refl
  where
    by_zero : (b : Bool) → (n + 48 == 48) ≡ b → value_of (cond b [] ((n + 48) ∷ [])) ≡ n
    by_zero true e = let none : n ≡ 0 = grind (arith, nat_tests) in sym none
    by_zero false e = omega arith

small-digit : (n : ℕ) → is_large (digit n) ≡ false
small-digit n = by_zero (n + 48 == 48)
  where
    by_zero : (b : Bool) → nat_lt digit_limit (length (cond b [] ((n + 48) ∷ []))) ≡ false
    by_zero true = refl
    by_zero false = refl

abbrev pub plain_kind : Kind → Kind
plain_kind (kind.Sign s) = kind.Sign s
plain_kind (Identifier word) = Identifier word
plain_kind (Digits digits) = Digits (digit (value_of (significant digits)))
plain_kind Bad = Bad

abbrev pub plain : List Token → List Token
plain [] = []
plain (t ∷ ts) = record { kind = plain_kind t.kind; at = t.at } ∷ plain ts

pub plain_fits : (ts : List Token) → Fits ⊥ (plain ts)
plain_fits [] = tt
plain_fits (t ∷ ts) = (by_kind t.kind, plain_fits ts)
  where
    by_kind : (k : Kind) → is_large_number (plain_kind k) ≡ true → ⊥
    by_kind (kind.Sign s) h = cc
    by_kind (Identifier word) h = cc
    by_kind (Digits digits) h = let small = small-digit (value_of (significant digits)) in cc
    by_kind Bad h = cc

plain_sign : (s : Sign) (from to : List Token) → IsSign s from to → IsSign s (plain from) (plain to)
unfolding taken
plain_sign s [] to e = absurd (cc)
plain_sign s (t ∷ ts) to e = by_kind t.kind e
  where
    by_kind : (k : Kind) → cond (is_sign k s) (Some ts) None ≡ Some to → cond (is_sign (plain_kind k) s) (Some (plain ts)) None ≡ Some (plain to)
    by_kind (kind.Sign a) h = by_test (is_sign (kind.Sign a) s) h
      where
        by_test : (b : Bool) → cond b (Some ts) None ≡ Some to → cond b (Some (plain ts)) None ≡ Some (plain to)
        by_test true h = let same : ts ≡ to = cc in ap (λ us. Some (plain us)) same
        by_test false h = absurd (cc)
    by_kind (Identifier word) h = absurd (cc)
    by_kind (Digits digits) h = absurd (cc)
    by_kind Bad h = absurd (cc)

abbrev named : List Token → Option (ColumnMention × List Token) → Option (ColumnMention × List Token)
named other None = None
named other (Some r) = Some (r.0, plain r.1)

plain_name : (m : ColumnMention) (from to : List Token) → IsName m from to → IsName m (plain from) (plain to)
unfolding mentioned
plain_name m [] to e = absurd (cc)
plain_name m (t ∷ ts) to e = by_kind t.kind e
  where
    by_kind : (k : Kind) → choose {Y = Option (ColumnMention × List Token)} (mention_of k t.at) (λ m. Some (m, ts)) None ≡ Some (m, to) → choose {Y = Option (ColumnMention × List Token)} (mention_of (plain_kind k) t.at) (λ m. Some (m, plain ts)) None ≡ Some (m, plain to)
    by_kind (kind.Sign a) h = absurd (cc)
    by_kind (Identifier word) h = ap (named []) h
    by_kind (Digits digits) h = absurd (cc)
    by_kind Bad h = absurd (cc)

abbrev spelled : Option (List ℕ × List Token) → Option (List ℕ × List Token)
spelled None = None
spelled (Some r) = Some (digit (value_of (significant r.0)), plain r.1)

plain_digits : (digits : List ℕ) (from to : List Token) → spelled_digits from ≡ Some (digits, to) → spelled_digits (plain from) ≡ Some (digit (value_of (significant digits)), plain to)
unfolding spelled_digits
plain_digits digits [] to e = absurd (cc)
plain_digits digits (t ∷ ts) to e = by_kind t.kind e
  where
    by_kind : (k : Kind) → choose {Y = Option (List ℕ × List Token)} (digits_of k) (λ ds. Some (ds, ts)) None ≡ Some (digits, to)
        → choose {Y = Option (List ℕ × List Token)} (digits_of (plain_kind k)) (λ ds. Some (ds, plain ts)) None ≡ Some (digit (value_of (significant digits)), plain to)
    by_kind (kind.Sign a) h = absurd (cc)
    by_kind (Identifier word) h = absurd (cc)
    by_kind (Digits ds) h = ap spelled h
    by_kind Bad h = absurd (cc)

plain_listed : {V : Type 0} (R : V → List Token → List Token → Type 0) (s : Sign) → ((v : V) (from to : List Token) → R v from to → R v (plain from) (plain to))
    → (from : List Token) (vs : List V) (to : List Token) → Listed R s from vs to → Listed R s (plain from) vs (plain to)
plain_listed R s f from vs to (only v u r) = only v (plain u) (f v from u r)
plain_listed R s f from vs to (more us v mid next u l e r) = more us v (plain mid) (plain next) (plain u) (plain_listed R s f from us mid l) (plain_sign s mid next e) (f v next u r)

plain_plus_or_minus : (negative : Bool) (from to : List Token) → IsPlusOrMinus negative from to → IsPlusOrMinus negative (plain from) (plain to)
plain_plus_or_minus true from to h = plain_sign sign.Minus from to h
plain_plus_or_minus false from to (inl h) = inl (ap plain h)
plain_plus_or_minus false from to (inr h) = inr (plain_sign sign.Plus from to h)

plain_literal : (z : ℤ) (from to : List Token) → IsLiteral z from to → IsLiteral z (plain from) (plain to)
plain_literal z from to (negative, (digits, (mid, (s, (e, q))))) =
    (negative, (digit (value_of (significant digits)), (plain mid, (plain_plus_or_minus negative from mid s, (plain_digits digits mid to e, q ∙ ap (signed negative) (sym (value-digit (value_of (significant digits)))))))))

plain_quantifier : (distinct : Bool) (from to : List Token) → IsQuantifier distinct from to → IsQuantifier distinct (plain from) (plain to)
plain_quantifier true from to h = plain_sign sign.Distinct from to h
plain_quantifier false from to (inl h) = inl (ap plain h)
plain_quantifier false from to (inr h) = inr (plain_sign sign.All from to h)

plain_argument : (f : SetFunction) (from to : List Token) → IsArgument f from to → IsArgument f (plain from) (plain to)
plain_argument CountRows from to h = plain_sign sign.Asterisk from to h
plain_argument (Of f distinct m) from to (mid, (q, e)) = (plain mid, (plain_quantifier distinct from mid q, plain_name m mid to e))

plain_function : (f : SetFunction) (from to : List Token) → IsFunction f from to → IsFunction f (plain from) (plain to)
plain_function f from to (word, (inner, (last, (w, (o, (a, cl)))))) =
    (plain word, (plain inner, (plain last, (plain_sign (word_of (fold_of f)) from word w, (plain_sign sign.OpenParen word inner o, (plain_argument f inner last a, plain_sign sign.CloseParen last to cl))))))

plain_operand : (c : Clause) (x : Operand) (from to : List Token) → IsOperand c x from to → IsOperand c x (plain from) (plain to)
plain_operand c (Column m) from to h = plain_name m from to h
plain_operand c (Literal z) from to h = plain_literal z from to h
plain_operand c (Function f) from to (t, h) = (t, plain_function f from to h)

plain_negation : (negated : Bool) (from to : List Token) → IsNegation negated from to → IsNegation negated (plain from) (plain to)
plain_negation true from to h = plain_sign sign.Not from to h
plain_negation false from to h = ap plain h

plain_predicate : (c : Clause) (p : Predicate) (from to : List Token) → IsPredicate c p from to → IsPredicate c p (plain from) (plain to)
plain_predicate c (Compare left o right) from to (a, (b, (l, (w, r)))) = (plain a, (plain b, (plain_operand c left from a l, (plain_sign (sign_of o) a b w, plain_operand c right b to r))))
plain_predicate c (Between x negated low high) from to (a, (b, (d, (e, (f, (l, (n, (w, (lo, (s, hi)))))))))) =
    (plain a, (plain b, (plain d, (plain e, (plain f, (plain_operand c x from a l, (plain_negation negated a b n, (plain_sign sign.Between b d w, (plain_operand c low d e lo, (plain_sign sign.And e f s, plain_operand c high f to hi))))))))))
plain_predicate c (In x negated literals) from to (a, (b, (d, (e, (f, (l, (n, (w, (o, (ls, cl)))))))))) =
    (plain a, (plain b, (plain d, (plain e, (plain f, (plain_operand c x from a l, (plain_negation negated a b n, (plain_sign sign.In b d w, (plain_sign sign.OpenParen d e o, (plain_listed IsLiteral sign.Comma plain_literal e literals f ls, plain_sign sign.CloseParen f to cl))))))))))
plain_predicate c (IsNull x negated) from to (a, (b, (d, (l, (w, (n, z)))))) =
    (plain a, (plain b, (plain d, (plain_operand c x from a l, (plain_sign sign.Is a b w, (plain_negation negated b d n, plain_sign sign.Null d to z))))))

plain_asked : (is : IsTruth) (from to : List Token) → IsAsked is from to → IsAsked is (plain from) (plain to)
plain_asked is from to (a, (b, (w, (n, t)))) = (plain a, (plain b, (plain_sign sign.Is from a w, (plain_negation is.negated a b n, plain_sign (word_of_truth is.truth) b to t))))

plain_link : (P Q : Type 0) (s : Sign) (a b : List Token) → ((P × (a ≡ b)) ⊎ (Q × IsSign s a b)) → ((P × (plain a ≡ plain b)) ⊎ (Q × IsSign s (plain a) (plain b)))
plain_link P Q s a b (inl h) = inl (h.0, ap plain h.1)
plain_link P Q s a b (inr h) = inr (h.0, plain_sign s a b h.1)

pub plain_formula : (c : Clause) (f : Formula) (from to : List Token) → IsFormula c f from to → IsFormula c f (plain from) (plain to)
plain_formula c (says p) from to h = plain_predicate c p from to h
plain_formula c (in_parentheses f) from to (r, (a, (b, (o, (h, cl))))) = (r, (plain a, (plain b, (plain_sign sign.OpenParen from a o, (plain_formula c f a b h, plain_sign sign.CloseParen b to cl)))))
plain_formula c (is_truth f is) from to (r, (a, (h, i))) = (r, (plain a, (plain_formula c f from a h, plain_asked is a to i)))
plain_formula c (negation f) from to (r, (a, (n, h))) = (r, (plain a, (plain_sign sign.Not from a n, plain_formula c f a to h)))
plain_formula c no_factor from to h = ap plain h
plain_formula c (both f g) from to (r, (a, (b, (h, (l, k))))) = (r, (plain a, (plain b, (plain_formula c f from a h, (plain_link (f ≡ no_factor) (rank f ≡ 3) sign.And a b l, plain_formula c g b to k)))))
plain_formula c no_term from to h = ap plain h
plain_formula c (either f g) from to (r, (a, (b, (h, (l, k))))) = (r, (plain a, (plain b, (plain_formula c f from a h, (plain_link (f ≡ no_term) (rank f ≡ 4) sign.Or a b l, plain_formula c g b to k)))))

plain_clause : (s : Sign) (c : Clause) (f : Option Formula) (from to : List Token) → IsClause s c f from to → IsClause s c f (plain from) (plain to)
plain_clause s c None from to h = ap plain h
plain_clause s c (Some f) from to (a, (w, h)) = (plain a, (plain_sign s from a w, (h.0, plain_formula c f a to h.1)))

plain_grouping : (columns : List ColumnMention) (from to : List Token) → IsGrouping columns from to → IsGrouping columns (plain from) (plain to)
plain_grouping columns from to (inl h) = inl (h.0, ap plain h.1)
plain_grouping columns from to (inr (a, (b, (g, (y, l))))) = inr (plain a, (plain b, (plain_sign sign.Group from a g, (plain_sign sign.By a b y, plain_listed IsName sign.Comma plain_name b columns to l))))

plain_item_value : (v : ItemValue) (from to : List Token) → IsItemValue v from to → IsItemValue v (plain from) (plain to)
plain_item_value (Grouped m) from to h = plain_name m from to h
plain_item_value (Computed f) from to h = plain_function f from to h

plain_alias : (alias : Option (List ℕ)) (from to : List Token) → IsAlias alias from to → IsAlias alias (plain from) (plain to)
plain_alias None from to h = ap plain h
plain_alias (Some name) from to (a, (at, (inl p, e))) = (plain a, (at, (inl (ap plain p), plain_name (record { name = name; at = at }) a to e)))
plain_alias (Some name) from to (a, (at, (inr s, e))) = (plain a, (at, (inr (plain_sign sign.As from a s), plain_name (record { name = name; at = at }) a to e)))

plain_item : (item : Item) (from to : List Token) → IsItem item from to → IsItem item (plain from) (plain to)
plain_item item from to (a, (v, h)) = (plain a, (plain_item_value item.value from a v, plain_alias item.alias a to h))

pub plain_query : (q : QueryShape) (from to : List Token) → IsQuery q from to → IsQuery q (plain from) (plain to)
plain_query q from to is =
    record {
      behind_select = plain is.behind_select;
      behind_items = plain is.behind_items;
      behind_from = plain is.behind_from;
      behind_table = plain is.behind_table;
      behind_filter = plain is.behind_filter;
      behind_grouping = plain is.behind_grouping;
      place = is.place;
      select = plain_sign sign.Select from is.behind_select is.select;
      items = plain_listed IsItem sign.Comma plain_item is.behind_select q.items is.behind_items is.items;
      of = plain_sign sign.From is.behind_items is.behind_from is.of;
      table = plain_name (record { name = q.table; at = is.place }) is.behind_from is.behind_table is.table;
      filter = plain_clause sign.Where Rattle.query_parser.specs.declared.predicate.Clause.TheVariants.Where q.filter is.behind_table is.behind_filter is.filter;
      grouping = plain_grouping q.grouping is.behind_filter is.behind_grouping is.grouping;
      having = plain_clause sign.Having Rattle.query_parser.specs.declared.predicate.Clause.TheVariants.Having q.having is.behind_grouping to is.having;
    }
