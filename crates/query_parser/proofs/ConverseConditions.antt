-- What the grammar has of conditions is read, unless the text exceeds a limit.
use Rattle.std.proofs.Common.{◌≡◌, ◌≤◌, ◌+◌, ℕ, zero, suc, max, false, None, Ok, List, refl, ◌∙◌, ◌⊎◌, inl, inr, arith}
use Rattle.std.proofs.Math.Nat.{le-max_left, le-max_right}
use Rattle.table_model.specs.Formula.{Formula, says, in_parentheses, is_truth, negation, no_factor, both, no_term, either}
use Rattle.table_model.specs.declared.query.Fold.{Fold}
use Rattle.table_model.specs.declared.query.Fold.TheVariants as folds
use Rattle.table_model.specs.declared.query.Predicate.{Predicate}
use Rattle.table_model.specs.declared.query.Predicate.TheVariants.{Compare, Between, In, IsNull}
use Rattle.table_model.specs.declared.refusal.Refusal.TheVariants.{TooDeep}
use Rattle.query_parser.proofs.Beginnings.{apart}
use Rattle.query_parser.proofs.Converse.{operand_apart}
use Rattle.query_parser.proofs.ConversePredicates.{predicate_agrees, asked_agrees}
use Rattle.query_parser.proofs.Lengths.{factor_short, term_short, nested_short}
use Rattle.query_parser.proofs.Taking.{Fits, Agrees, reads, stops, then_agrees, chosen, passed_over, sign_agrees, fits-taken, Gone, first_part, next_part, last_part}
use Rattle.table_model.specs.Reading.{◌>>=◌}
use Rattle.query_parser.specs.Descent.{read_predicate, read_asked, read_primary, read_test, read_factor, read_term, read_terms, nested, read_condition, read_many, read_sign}
use Rattle.query_parser.specs.Grammar.{IsSign, word_of, IsPredicate, rank, IsFormula, IsCondition}
use Rattle.query_parser.specs.Limits.{depth}
use Rattle.query_parser.specs.Token.{same_sign, taken}
use Rattle.query_parser.specs.declared.predicate.Clause.{Clause}
use Rattle.query_parser.specs.declared.token.Sign.{Sign}
use Rattle.query_parser.specs.declared.token.Sign.TheVariants as sign
use Rattle.query_parser.specs.declared.token.Token.{Token}

-- so many levels of parentheses are enough, or E holds
abbrev pub Room : Type 0 → ℕ → ℕ → Type 0
Room E levels n = (n ≤ levels) ⊎ E

room_left : (E : Type 0) (levels m n : ℕ) → Room E levels (max m n) → Room E levels m
room_left E levels m n (inl h) = inl (omega (arith, le-max_left m n, h))
room_left E levels m n (inr x) = inr x

room_right : (E : Type 0) (levels m n : ℕ) → Room E levels (max m n) → Room E levels n
room_right E levels m n (inl h) = inl (omega (arith, le-max_right m n, h))
room_right E levels m n (inr x) = inr x

-- a formula is read as a primary, as a test or as a factor, and goes on as factors of a term or as terms of a condition
abbrev AsPrimary : Type 0 → Clause → ℕ → Formula → Type 0
AsPrimary E c end f = (levels : ℕ) (from to : List Token) → IsFormula c f from to → Fits E from → Room E levels (depth f) → Agrees E (read_primary c (nested c levels end) end from) f to

abbrev AsTest : Type 0 → Clause → ℕ → Formula → Type 0
AsTest E c end f =
    (levels : ℕ) (from to : List Token) → IsFormula c f from to → Fits E from → Room E levels (depth f) → taken sign.Is to ≡ None → Agrees E (read_test c (nested c levels end) end from) f to

abbrev AsFactor : Type 0 → Clause → ℕ → Formula → Type 0
AsFactor E c end f =
    (levels : ℕ) (from to : List Token) → IsFormula c f from to → Fits E from → Room E levels (depth f) → taken sign.Is to ≡ None → Agrees E (read_factor c (nested c levels end) end from) f to

abbrev AsFactors : Type 0 → Clause → ℕ → Formula → Type 0
AsFactors E c end f =
    (levels : ℕ) (from to : List Token) → IsFormula c f from to → Fits E from → Room E levels (depth f) → taken sign.Is to ≡ None
    → Gone E (read_factor c (nested c levels end) end) sign.And both f to (read_many (read_factor c (nested c levels end) end) sign.And both no_factor from)

abbrev AsTerms : Type 0 → Clause → ℕ → Formula → Type 0
AsTerms E c end f =
    (levels : ℕ) (from to : List Token) → IsFormula c f from to → Fits E from → Room E levels (depth f) → taken sign.Is to ≡ None → taken sign.And to ≡ None
    → Gone E (read_term c (nested c levels end) end) sign.Or either f to (read_many (read_term c (nested c levels end) end) sign.Or either no_term from)

-- what is proved of a formula, by the rule that it is of
abbrev AsIs : Type 0 → Clause → ℕ → Formula → Type 0
AsIs E c end (says p) = AsPrimary E c end (says p)
AsIs E c end (in_parentheses f) = AsPrimary E c end (in_parentheses f)
AsIs E c end (is_truth f is) = AsTest E c end (is_truth f is)
AsIs E c end (negation f) = AsFactor E c end (negation f)
AsIs E c end no_factor = Unit {0}
AsIs E c end (both f g) = AsFactors E c end (both f g)
AsIs E c end no_term = Unit {0}
AsIs E c end (either f g) = AsTerms E c end (either f g)

primary_of : (E : Type 0) (c : Clause) (end : ℕ) (f : Formula) → rank f ≡ 0 → AsIs E c end f → AsPrimary E c end f
primary_of E c end (says p) r h = h
primary_of E c end (in_parentheses f) r h = h
primary_of E c end (is_truth f is) r h = absurd (omega (arith, r))
primary_of E c end (negation f) r h = absurd (omega (arith, r))
primary_of E c end no_factor r h = absurd (omega (arith, r))
primary_of E c end (both f g) r h = absurd (omega (arith, r))
primary_of E c end no_term r h = absurd (omega (arith, r))
primary_of E c end (either f g) r h = absurd (omega (arith, r))

test_of_primary : (E : Type 0) (c : Clause) (end : ℕ) (f : Formula) → AsPrimary E c end f → AsTest E c end f
unfolding read_test
test_of_primary E c end f h levels from to is d room n =
    then_agrees E (read_primary c (nested c levels end) end from) _ f to f to (h levels from to is d room) (λ k. passed_over E (taken sign.Is to) _ _ f to n (reads refl k))

test_of : (E : Type 0) (c : Clause) (end : ℕ) (f : Formula) → rank f ≤ 1 → AsIs E c end f → AsTest E c end f
test_of E c end (says p) r h = test_of_primary E c end (says p) h
test_of E c end (in_parentheses f) r h = test_of_primary E c end (in_parentheses f) h
test_of E c end (is_truth f is) r h = h
test_of E c end (negation f) r h = absurd (omega (arith, r))
test_of E c end no_factor r h = absurd (omega (arith, r))
test_of E c end (both f g) r h = absurd (omega (arith, r))
test_of E c end no_term r h = absurd (omega (arith, r))
test_of E c end (either f g) r h = absurd (omega (arith, r))

no_word_not : (f : Fold) → same_sign (word_of f) sign.Not ≡ false
no_word_not folds.Count = refl
no_word_not folds.Sum = refl
no_word_not folds.Avg = refl
no_word_not folds.Min = refl
no_word_not folds.Max = refl

no_word_open : (f : Fold) → same_sign (word_of f) sign.OpenParen ≡ false
no_word_open folds.Count = refl
no_word_open folds.Sum = refl
no_word_open folds.Avg = refl
no_word_open folds.Min = refl
no_word_open folds.Max = refl

-- a predicate begins with its first operand
predicate_apart : (c : Clause) (p : Predicate) (from to : List Token) (s : Sign) → same_sign sign.Plus s ≡ false → same_sign sign.Minus s ≡ false → ((f : Fold) → same_sign (word_of f) s ≡ false)
    → IsPredicate c p from to → taken s from ≡ None
predicate_apart c (Compare left o right) from to s p n w (a, (b, (l, rest))) = operand_apart c left from a s p n w l
predicate_apart c (Between x negated low high) from to s p n w (a, (b, (d, (e, (f, (l, rest)))))) = operand_apart c x from a s p n w l
predicate_apart c (In x negated literals) from to s p n w (a, (b, (d, (e, (f, (l, rest)))))) = operand_apart c x from a s p n w l
predicate_apart c (IsNull x negated) from to s p n w (a, (b, (d, (l, rest)))) = operand_apart c x from a s p n w l

-- a test doesn't begin with NOT
test_no_not : (c : Clause) (f : Formula) (from to : List Token) → rank f ≤ 1 → IsFormula c f from to → taken sign.Not from ≡ None
test_no_not c (says p) from to r h = predicate_apart c p from to sign.Not refl refl no_word_not h
test_no_not c (in_parentheses f) from to r (q, (a, (b, (o, rest)))) = apart sign.OpenParen sign.Not from a refl o
test_no_not c (is_truth f is) from to r (q, (a, (h, rest))) = test_no_not c f from a (omega (arith, q)) h
test_no_not c (negation f) from to r h = absurd (omega (arith, r))
test_no_not c no_factor from to r h = absurd (omega (arith, r))
test_no_not c (both f g) from to r h = absurd (omega (arith, r))
test_no_not c no_term from to r h = absurd (omega (arith, r))
test_no_not c (either f g) from to r h = absurd (omega (arith, r))

factor_of_test : (E : Type 0) (c : Clause) (end : ℕ) (f : Formula) → rank f ≤ 1 → AsTest E c end f → AsFactor E c end f
unfolding read_factor
factor_of_test E c end f r h levels from to is d room n = passed_over E (taken sign.Not from) _ _ f to (test_no_not c f from to r is) (h levels from to is d room n)

factor_of : (E : Type 0) (c : Clause) (end : ℕ) (f : Formula) → rank f ≤ 2 → AsIs E c end f → AsFactor E c end f
factor_of E c end (says p) r h = factor_of_test E c end (says p) (omega arith) (test_of_primary E c end (says p) h)
factor_of E c end (in_parentheses f) r h = factor_of_test E c end (in_parentheses f) (omega arith) (test_of_primary E c end (in_parentheses f) h)
factor_of E c end (is_truth f is) r h = factor_of_test E c end (is_truth f is) (omega arith) h
factor_of E c end (negation f) r h = h
factor_of E c end no_factor r h = absurd (omega (arith, r))
factor_of E c end (both f g) r h = absurd (omega (arith, r))
factor_of E c end no_term r h = absurd (omega (arith, r))
factor_of E c end (either f g) r h = absurd (omega (arith, r))

factors_of : (E : Type 0) (c : Clause) (end : ℕ) (f : Formula) → rank f ≡ 3 → AsIs E c end f → AsFactors E c end f
factors_of E c end (says p) r h = absurd (omega (arith, r))
factors_of E c end (in_parentheses f) r h = absurd (omega (arith, r))
factors_of E c end (is_truth f is) r h = absurd (omega (arith, r))
factors_of E c end (negation f) r h = absurd (omega (arith, r))
factors_of E c end no_factor r h = absurd (omega (arith, r))
factors_of E c end (both f g) r h = h
factors_of E c end no_term r h = absurd (omega (arith, r))
factors_of E c end (either f g) r h = absurd (omega (arith, r))

terms_of : (E : Type 0) (c : Clause) (end : ℕ) (f : Formula) → rank f ≡ 4 → AsIs E c end f → AsTerms E c end f
terms_of E c end (says p) r h = absurd (omega (arith, r))
terms_of E c end (in_parentheses f) r h = absurd (omega (arith, r))
terms_of E c end (is_truth f is) r h = absurd (omega (arith, r))
terms_of E c end (negation f) r h = absurd (omega (arith, r))
terms_of E c end no_factor r h = absurd (omega (arith, r))
terms_of E c end (both f g) r h = absurd (omega (arith, r))
terms_of E c end no_term r h = absurd (omega (arith, r))
terms_of E c end (either f g) r h = h

-- a term that stands where its factors have gone on so far
term_agrees : (E : Type 0) (c : Clause) (end : ℕ) (f : Formula) → AsFactors E c end f → (levels : ℕ) (from to : List Token) → IsFormula c f from to → Fits E from → Room E levels (depth f)
    → taken sign.Is to ≡ None → taken sign.And to ≡ None → Agrees E (read_term c (nested c levels end) end from) f to
unfolding read_term
term_agrees E c end f h levels from to is d room n a = last_part E (read_factor c (nested c levels end) end) sign.And both f to _ (h levels from to is d room n) a

terms_agree : (E : Type 0) (c : Clause) (end : ℕ) (f : Formula) → AsTerms E c end f → (levels : ℕ) (from to : List Token) → IsFormula c f from to → Fits E from → Room E levels (depth f)
    → taken sign.Is to ≡ None → taken sign.And to ≡ None → taken sign.Or to ≡ None → Agrees E (read_terms c (nested c levels end) end from) f to
unfolding read_terms
terms_agree E c end f h levels from to is d room n a o = last_part E (read_term c (nested c levels end) end) sign.Or either f to _ (h levels from to is d room n a) o

-- a condition in parentheses
parentheses_agree : (E : Type 0) (c : Clause) (end : ℕ) (f : Formula) → AsTerms E c end f → (levels : ℕ) (from a b to : List Token) → IsSign sign.OpenParen from a → IsFormula c f a b → IsSign sign.CloseParen b to
    → Fits E from → Room E levels (depth f + 1) → Agrees E (read_primary c (nested c levels end) end from) (in_parentheses f) to
unfolding read_primary nested
parentheses_agree E c end f h levels from a b to o is cl d room = chosen E (taken sign.OpenParen from) _ _ a _ to o (by_levels levels room)
  where
    by_levels : (levels : ℕ) → Room E levels (depth f + 1)
        → Agrees E (nested c levels end a >>= λ r. read_sign sign.CloseParen end r.1 >>= λ after. Ok (in_parentheses r.0, after)) (in_parentheses f) to
    by_levels zero (inl le) = absurd (omega (arith, le))
    by_levels zero (inr x) = stops x TooDeep refl (inl refl)
    by_levels (suc m) room =
        then_agrees E (nested c (suc m) end a) _ f b _ to
        (terms_agree E c end f h m a b is (fits-taken E sign.OpenParen from a o d) (fewer room) (apart sign.CloseParen sign.Is b to refl cl) (apart sign.CloseParen sign.And b to refl cl) (apart sign.CloseParen sign.Or b to refl cl))
        (λ k. sign_agrees E sign.CloseParen end b to _ _ to cl (reads refl (fits-taken E sign.CloseParen b to cl k)))
      where
        fewer : Room E (suc m) (depth f + 1) → Room E m (depth f)
        fewer (inl le) = inl (omega (arith, le))
        fewer (inr x) = inr x

-- each formula, by the formulas in it
agrees_as_is : (E : Type 0) (c : Clause) (end : ℕ) (f : Formula) → AsIs E c end f
unfolding read_primary read_test read_factor
agrees_as_is E c end (says p) = λ levels from to h d room.
    passed_over E (taken sign.OpenParen from) _ _ _ to (predicate_apart c p from to sign.OpenParen refl refl no_word_open h)
    (then_agrees E (read_predicate c end from) _ p to _ to (predicate_agrees E c end p from to h d) (λ k. reads refl k))
agrees_as_is E c end (in_parentheses f) = λ levels from to h d room.
    parentheses_agree E c end f (terms_of E c end f h.0 (agrees_as_is E c end f)) levels from h.1.0 h.1.1.0 to h.1.1.1.0 h.1.1.1.1.0 h.1.1.1.1.1 d room
agrees_as_is E c end (is_truth f is) = λ levels from to h d room n.
    then_agrees E (read_primary c (nested c levels end) end from) _ f h.1.0 _ to (primary_of E c end f h.0 (agrees_as_is E c end f) levels from h.1.0 h.1.1.0 d room)
    (λ k. let asked = h.1.1.1 in
    chosen E (taken sign.Is h.1.0) _ _ asked.0 _ to asked.1.1.0
    (then_agrees E (read_asked end asked.0) _ is to _ to (asked_agrees E end is.negated is.truth asked.0 asked.1.0 to asked.1.1.1.0 asked.1.1.1.1 (fits-taken E sign.Is h.1.0 asked.0 asked.1.1.0 k)) (λ k. reads refl k)))
agrees_as_is E c end (negation f) = λ levels from to h d room n.
    chosen E (taken sign.Not from) _ _ h.1.0 _ to h.1.1.0
    (then_agrees E _ _ f to _ to (test_of E c end f h.0 (agrees_as_is E c end f) levels h.1.0 to h.1.1.1 (fits-taken E sign.Not from h.1.0 h.1.1.0 d) room n) (λ k. reads refl k))
agrees_as_is E c end no_factor = tt
agrees_as_is E c end (both f g) = λ levels from to h d room n.
    by_front levels from to h.1.0 h.1.1.0 h.1.1.1.0 h.1.1.1.1.0 h.1.1.1.1.1 d room (agrees_as_is E c end f) (factor_of E c end g h.0 (agrees_as_is E c end g)) n
  where
    by_front : (levels : ℕ) (from to a b : List Token) → IsFormula c f from a → ((f ≡ no_factor) × (a ≡ b)) ⊎ ((rank f ≡ 3) × IsSign sign.And a b) → IsFormula c g b to → Fits E from → Room E levels (max (depth f) (depth g))
        → AsIs E c end f → AsFactor E c end g → taken sign.Is to ≡ None
        → Gone E (read_factor c (nested c levels end) end) sign.And both (both f g) to (read_many (read_factor c (nested c levels end) end) sign.And both no_factor from)
    by_front levels from to a b hf (inl p) hg d room before factor n =
        let begun : from ≡ b = rw p.0 at hf ∙ p.1 in
        rw p.0 (first_part E (read_factor c (nested c levels end) end) sign.And both no_factor g from to (factor levels from to (rw begun hg) d (room_right E levels (depth f) (depth g) room) n))
    by_front levels from to a b hf (inr p) hg d room before factor n =
        next_part E (read_factor c (nested c levels end) end) sign.And both f g a b to _ (factor_short c (nested c levels end) end (nested_short c levels end))
        (factors_of E c end f p.0 before levels from a hf d (room_left E levels (depth f) (depth g) room) (apart sign.And sign.Is a b refl p.1)) p.1
        (λ k. factor levels b to hg k (room_right E levels (depth f) (depth g) room) n)
agrees_as_is E c end no_term = tt
agrees_as_is E c end (either f g) = λ levels from to h d room n m.
    by_front levels from to h.1.0 h.1.1.0 h.1.1.1.0 h.1.1.1.1.0 h.1.1.1.1.1 d room (agrees_as_is E c end f) (term_agrees E c end g (factors_of E c end g h.0 (agrees_as_is E c end g))) n m
  where
    by_front : (levels : ℕ) (from to a b : List Token) → IsFormula c f from a → ((f ≡ no_term) × (a ≡ b)) ⊎ ((rank f ≡ 4) × IsSign sign.Or a b) → IsFormula c g b to → Fits E from → Room E levels (max (depth f) (depth g))
        → AsIs E c end f → ((levels : ℕ) (from to : List Token) → IsFormula c g from to → Fits E from → Room E levels (depth g) → taken sign.Is to ≡ None → taken sign.And to ≡ None → Agrees E (read_term c (nested c levels end) end from) g to)
        → taken sign.Is to ≡ None → taken sign.And to ≡ None
        → Gone E (read_term c (nested c levels end) end) sign.Or either (either f g) to (read_many (read_term c (nested c levels end) end) sign.Or either no_term from)
    by_front levels from to a b hf (inl p) hg d room before term n m =
        let begun : from ≡ b = rw p.0 at hf ∙ p.1 in
        rw p.0 (first_part E (read_term c (nested c levels end) end) sign.Or either no_term g from to (term levels from to (rw begun hg) d (room_right E levels (depth f) (depth g) room) n m))
    by_front levels from to a b hf (inr p) hg d room before term n m =
        next_part E (read_term c (nested c levels end) end) sign.Or either f g a b to _ (term_short c (nested c levels end) end (nested_short c levels end))
        (terms_of E c end f p.0 before levels from a hf d (room_left E levels (depth f) (depth g) room) (apart sign.Or sign.Is a b refl p.1) (apart sign.Or sign.And a b refl p.1)) p.1
        (λ k. term levels b to hg k (room_right E levels (depth f) (depth g) room) n m)

-- a condition is read, where neither IS, AND nor OR follows
pub condition_agrees : (E : Type 0) (c : Clause) (levels end : ℕ) (f : Formula) (from to : List Token) → IsCondition c f from to → Fits E from → Room E levels (depth f)
    → taken sign.Is to ≡ None → taken sign.And to ≡ None → taken sign.Or to ≡ None → Agrees E (read_condition c levels end from) f to
unfolding read_condition
condition_agrees E c levels end f from to h d room n a o = terms_agree E c end f (terms_of E c end f h.0 (agrees_as_is E c end f)) levels from to h.1 d room n a o
