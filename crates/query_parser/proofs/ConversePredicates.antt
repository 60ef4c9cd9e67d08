-- What the grammar has of predicates and of what stands behind IS is read, unless the text exceeds a limit.
use Rattle.std.proofs.Common.{◌≡◌, ℕ, ℤ, Bool, true, false, Some, List, refl}
use Rattle.table_model.specs.declared.op.Op.{Op}
use Rattle.table_model.specs.declared.op.Op.TheVariants as op
use Rattle.table_model.specs.declared.truth.Truth.{Truth}
use Rattle.table_model.specs.declared.truth.Truth.TheVariants as truth
use Rattle.table_model.specs.declared.query.Operand.{Operand}
use Rattle.table_model.specs.declared.query.Predicate.{Predicate}
use Rattle.table_model.specs.declared.query.Predicate.TheVariants.{Compare, Between, In, IsNull}
use Rattle.query_parser.proofs.Beginnings.{apart, comparison_reads, no_comparison}
use Rattle.query_parser.proofs.Converse.{literal_agrees, operand_agrees}
use Rattle.query_parser.proofs.Lengths.{literal_short}
use Rattle.query_parser.proofs.Taking.{Fits, Agrees, reads, then_agrees, chosen, passed_over, sign_agrees, fits-taken, listed_agrees}
use Rattle.query_parser.specs.Descent.{read_literal, read_operand, comparison_word, read_literals, read_list, read_range, read_range_or_list, read_is_null, read_after_operand, read_predicate, read_truth_word, read_asked}
use Rattle.query_parser.specs.Grammar.{IsSign, Listed, IsLiteral, IsOperand, sign_of, IsNegation, IsPredicate, word_of_truth}
use Rattle.query_parser.specs.Token.{same_sign, taken}
use Rattle.query_parser.specs.declared.predicate.Clause.{Clause}
use Rattle.query_parser.specs.declared.token.Sign.{Sign}
use Rattle.query_parser.specs.declared.token.Sign.TheVariants as sign
use Rattle.query_parser.specs.declared.token.Token.{Token}

-- these signs are no comparison
pub no_op_not : (o : Op) → same_sign sign.Not (sign_of o) ≡ false
no_op_not op.Equal = refl
no_op_not op.NotEqual = refl
no_op_not op.Less = refl
no_op_not op.LessOrEqual = refl
no_op_not op.Greater = refl
no_op_not op.GreaterOrEqual = refl

no_op_is : (o : Op) → same_sign sign.Is (sign_of o) ≡ false
no_op_is op.Equal = refl
no_op_is op.NotEqual = refl
no_op_is op.Less = refl
no_op_is op.LessOrEqual = refl
no_op_is op.Greater = refl
no_op_is op.GreaterOrEqual = refl

no_op_between : (o : Op) → same_sign sign.Between (sign_of o) ≡ false
no_op_between op.Equal = refl
no_op_between op.NotEqual = refl
no_op_between op.Less = refl
no_op_between op.LessOrEqual = refl
no_op_between op.Greater = refl
no_op_between op.GreaterOrEqual = refl

no_op_in : (o : Op) → same_sign sign.In (sign_of o) ≡ false
no_op_in op.Equal = refl
no_op_in op.NotEqual = refl
no_op_in op.Less = refl
no_op_in op.LessOrEqual = refl
no_op_in op.Greater = refl
no_op_in op.GreaterOrEqual = refl

-- BETWEEN or IN, behind NOT or at once
negated_agrees : (E : Type 0) (c : Clause) (end : ℕ) (x : Operand) (negated : Bool) (s : Sign) (p : Predicate) (a b d to : List Token)
    → ((o : Op) → same_sign s (sign_of o) ≡ false) → same_sign s sign.Is ≡ false → same_sign s sign.Not ≡ false → IsNegation negated a b → taken s b ≡ Some d
    → (Fits E b → Agrees E (read_range_or_list c x negated end b) p to) → Fits E a → Agrees E (read_after_operand c x end a) p to
unfolding read_after_operand
negated_agrees E c end x true s p a b d to q i n h w f k =
    passed_over E (comparison_word a) _ _ _ to (no_comparison sign.Not a b no_op_not h)
    (passed_over E (taken sign.Is a) _ _ _ to (apart sign.Not sign.Is a b refl h) (chosen E (taken sign.Not a) _ _ b _ to h (f (fits-taken E sign.Not a b h k))))
negated_agrees E c end x false s p a b d to q i n h w f k =
    rw h
    (passed_over E (comparison_word b) _ _ _ to (no_comparison s b d q w)
    (passed_over E (taken sign.Is b) _ _ _ to (apart s sign.Is b d i w) (passed_over E (taken sign.Not b) _ _ _ to (apart s sign.Not b d n w) (f (rw h at k)))))

range_agrees : (E : Type 0) (c : Clause) (end : ℕ) (x : Operand) (negated : Bool) (low high : Operand) (b d e f to : List Token)
    → IsSign sign.Between b d → IsOperand c low d e → IsSign sign.And e f → IsOperand c high f to → Fits E b → Agrees E (read_range_or_list c x negated end b) (Between x negated low high) to
unfolding read_range_or_list read_range
range_agrees E c end x negated low high b d e f to w l a h k =
    chosen E (taken sign.Between b) _ _ d _ to w
    (then_agrees E (read_operand c end d) _ low e _ to (operand_agrees E c end low d e l (fits-taken E sign.Between b d w k))
    (λ k. sign_agrees E sign.And end e f _ _ to a
    (then_agrees E (read_operand c end f) _ high to _ to (operand_agrees E c end high f to h (fits-taken E sign.And e f a k)) (λ k. reads refl k))))

list_agrees : (E : Type 0) (c : Clause) (end : ℕ) (x : Operand) (negated : Bool) (literals : List ℤ) (b d e f to : List Token)
    → IsSign sign.In b d → IsSign sign.OpenParen d e → Listed IsLiteral sign.Comma e literals f → IsSign sign.CloseParen f to → Fits E b
    → Agrees E (read_range_or_list c x negated end b) (In x negated literals) to
unfolding read_range_or_list read_list read_literals
list_agrees E c end x negated literals b d e f to w o l cl k =
    passed_over E (taken sign.Between b) _ _ _ to (apart sign.In sign.Between b d refl w)
    (chosen E (taken sign.In b) _ _ d _ to w
    (sign_agrees E sign.OpenParen end d e _ _ to o
    (then_agrees E (read_literals end e) _ literals f _ to
    (listed_agrees E (λ _. Unit {0}) IsLiteral (read_literal end) sign.Comma (λ z from to h n k. literal_agrees E end z from to h k) (λ mid next h. tt) (literal_short end) e literals f l tt (apart sign.CloseParen sign.Comma f to refl cl)
    (fits-taken E sign.OpenParen d e o (fits-taken E sign.In b d w k)))
    (λ k. sign_agrees E sign.CloseParen end f to _ _ to cl (reads refl (fits-taken E sign.CloseParen f to cl k))))))

is_null_agrees : (E : Type 0) (end : ℕ) (x : Operand) (negated : Bool) (b d to : List Token) → IsNegation negated b d → IsSign sign.Null d to → Fits E b
    → Agrees E (read_is_null x end b) (IsNull x negated) to
unfolding read_is_null
is_null_agrees E end x true b d to n w k =
    chosen E (taken sign.Not b) _ _ d _ to n (sign_agrees E sign.Null end d to _ _ to w (reads refl (fits-taken E sign.Null d to w (fits-taken E sign.Not b d n k))))
is_null_agrees E end x false b d to n w k =
    let null : IsSign sign.Null b to = rw n w in
    passed_over E (taken sign.Not b) _ _ _ to (apart sign.Null sign.Not b to refl null) (sign_agrees E sign.Null end b to _ _ to null (reads refl (fits-taken E sign.Null b to null k)))

pub predicate_agrees : (E : Type 0) (c : Clause) (end : ℕ) (p : Predicate) (from to : List Token) → IsPredicate c p from to → Fits E from → Agrees E (read_predicate c end from) p to
unfolding read_predicate read_after_operand
predicate_agrees E c end (Compare left o right) from to (a, (b, (l, (w, r)))) d =
    then_agrees E (read_operand c end from) _ left a _ to (operand_agrees E c end left from a l d)
    (λ k. chosen E (comparison_word a) _ _ (o, b) _ to (comparison_reads o a b w)
    (then_agrees E (read_operand c end b) _ right to _ to (operand_agrees E c end right b to r (fits-taken E (sign_of o) a b w k)) (λ k. reads refl k)))
predicate_agrees E c end (Between x negated low high) from to (a, (b, (d, (e, (f, (l, (n, (w, (lo, (s, hi)))))))))) k =
    then_agrees E (read_operand c end from) _ x a _ to (operand_agrees E c end x from a l k)
    (λ k. negated_agrees E c end x negated sign.Between _ a b d to no_op_between refl refl n w (range_agrees E c end x negated low high b d e f to w lo s hi) k)
predicate_agrees E c end (In x negated literals) from to (a, (b, (d, (e, (f, (l, (n, (w, (o, (ls, cl)))))))))) k =
    then_agrees E (read_operand c end from) _ x a _ to (operand_agrees E c end x from a l k)
    (λ k. negated_agrees E c end x negated sign.In _ a b d to no_op_in refl refl n w (list_agrees E c end x negated literals b d e f to w o ls cl) k)
predicate_agrees E c end (IsNull x negated) from to (a, (b, (d, (l, (w, (n, z)))))) k =
    then_agrees E (read_operand c end from) _ x a _ to (operand_agrees E c end x from a l k)
    (λ k. passed_over E (comparison_word a) _ _ _ to (no_comparison sign.Is a b no_op_is w)
    (chosen E (taken sign.Is a) _ _ b _ to w (is_null_agrees E end x negated b d to n z (fits-taken E sign.Is a b w k))))

truth_agrees : (E : Type 0) (end : ℕ) (negated : Bool) (t : Truth) (from to : List Token) → IsSign (word_of_truth t) from to → Fits E from
    → Agrees E (read_truth_word negated end from) (record { negated = negated; truth = t }) to
unfolding read_truth_word
truth_agrees E end negated truth.True from to w k = chosen E (taken sign.True from) _ _ to _ to w (reads refl (fits-taken E sign.True from to w k))
truth_agrees E end negated truth.False from to w k =
    passed_over E (taken sign.True from) _ _ _ to (apart sign.False sign.True from to refl w) (chosen E (taken sign.False from) _ _ to _ to w (reads refl (fits-taken E sign.False from to w k)))
truth_agrees E end negated truth.Unknown from to w k =
    passed_over E (taken sign.True from) _ _ _ to (apart sign.Unknown sign.True from to refl w)
    (passed_over E (taken sign.False from) _ _ _ to (apart sign.Unknown sign.False from to refl w)
    (chosen E (taken sign.Unknown from) _ _ to _ to w (reads refl (fits-taken E sign.Unknown from to w k))))

truth_no_not : (t : Truth) → same_sign (word_of_truth t) sign.Not ≡ false
truth_no_not truth.True = refl
truth_no_not truth.False = refl
truth_no_not truth.Unknown = refl

-- what stands behind the IS of a test
pub asked_agrees : (E : Type 0) (end : ℕ) (negated : Bool) (t : Truth) (a b to : List Token) → IsNegation negated a b → IsSign (word_of_truth t) b to → Fits E a
    → Agrees E (read_asked end a) (record { negated = negated; truth = t }) to
unfolding read_asked
asked_agrees E end true t a b to n w k = chosen E (taken sign.Not a) _ _ b _ to n (truth_agrees E end true t b to w (fits-taken E sign.Not a b n k))
asked_agrees E end false t a b to n w k =
    let word : IsSign (word_of_truth t) a to = rw n w in
    passed_over E (taken sign.Not a) _ _ _ to (apart (word_of_truth t) sign.Not a to (truth_no_not t) word) (truth_agrees E end false t a to word k)
