-- The stack of symbols takes what the readers of lists, conditions and whole queries read, and stops where they stop.
use Rattle.std.proofs.Common.{◌≡◌, ℕ, zero, suc, ◌+◌, ◌≤◌, ◌==◌, Bool, true, false, Option, Some, None, Result, Ok, Err, List, [], ◌∷◌, length, refl, ◌∙◌, ap, inl, inr, arith}
use Rattle.std.proofs.lemmas.Bool.Decides.{nat_tests}
use Rattle.table_model.specs.Formula.{both, either, no_factor, no_term}
use Rattle.table_model.specs.Query.{QueryShape}
use Rattle.table_model.specs.declared.op.Op.{Op}
use Rattle.table_model.specs.declared.op.Op.TheVariants as op
use Rattle.table_model.specs.declared.query.Operand.{Operand}
use Rattle.table_model.specs.declared.refusal.Refusal.{Refusal}
use Rattle.query_parser.proofs.Lengths.{AtMost, Shrinks, name_short, literal_short, item_short, factor_short, term_short, nested_short}
use Rattle.query_parser.proofs.Many.{length-taken}
use Rattle.query_parser.proofs.Simulation.{then_fault, choose_law, word_law, bind_law, stops, skips, expands, begins_alike, passes, opens, too_deep, sign_law, open_law}
use Rattle.query_parser.proofs.Productions.{IsShallow, Takes, name_law, literal_law, function_law, function_word_law, named_law, item_law}
use Rattle.table_model.specs.Reading.{Reads, ◌>>=◌}
use Rattle.query_parser.specs.Descent.{Reader, read_name, read_literal, read_more, read_many, one_more, read_function, read_item, read_items, read_operand, comparison_word, read_literals, read_list, read_range, read_range_or_list, read_is_null, read_after_operand, read_predicate, read_truth_word, read_asked, read_primary, read_test, read_factor, read_term, read_terms, nested, read_condition, read_filter, read_having, read_columns, read_grouping, read_query, read_whole, whole}
use Rattle.query_parser.specs.Limits.{depth_limit}
use Rattle.query_parser.specs.Stack.{Symbol, a_sign, a_name, a_query, some_items, more_items, an_item, a_filter, a_grouping, a_having, some_columns, more_columns, a_condition, or_terms, a_term, and_factors, a_factor, a_test, an_is_truth, an_asked, a_truth_word, a_primary, a_closing, a_predicate, an_after_operand, a_range_or_list, an_is_null, an_operand, a_literal, some_literals, more_literals, begin, may_be_empty, open_count, after, first_fault, and_then, on, Finds}
use Rattle.query_parser.specs.declared.predicate.Clause.{Clause}
use Rattle.query_parser.specs.declared.predicate.Clause.TheVariants.{Where, Having}
use Rattle.query_parser.specs.declared.token.Sign.{Sign}
use Rattle.query_parser.specs.declared.token.Sign.TheVariants as sign
use Rattle.query_parser.specs.Token.{same_sign, choose, taken}
use Rattle.query_parser.specs.declared.token.Token.{Token}

short_at : {V : Type 0} (n : ℕ) (r : Result (V × List Token) Refusal) (x : V × List Token) → AtMost n r → r ≡ Ok x → length x.1 ≤ n
short_at n (Ok y) x h e = let same : y ≡ x = cc in rw (← same) h
short_at n (Err f) x h e = absurd (cc)

-- symbols that stand for a list: its parts, with a sign between two
pub record IsList {V : Type 0} (P : List Symbol → Type 0) (end : ℕ) (part list more : Symbol) (s : Sign) (read : Reader V) : Type 0 where
  pub passes_on : (ss : List Symbol) → P ss → P (more ∷ ss)
  pub takes : (ts : List Token) (ss : List Symbol) → P ss → first_fault end (part ∷ ss) ts ≡ then_fault end ss (read ts)
  pub shrinks : Shrinks read
  pub quiet : same_sign s sign.OpenParen ≡ false
  pub list_must : may_be_empty list ≡ false
  pub part_must : may_be_empty part ≡ false
  pub more_may : may_be_empty more ≡ true
  pub list_begins : (ts : List Token) → begin list ts ≡ and_then (begin part ts) (more ∷ [])
  pub more_begins : (ts : List Token) → begin more ts ≡ on s ts (list ∷ []) None

pub more_law : {V A : Type 0} (P : List Symbol → Type 0) (end : ℕ) (part list more : Symbol) (s : Sign) (read : Reader V) (join : A → V → A) → IsList P end part list more s read
    → (n : ℕ) (front : A) (ts : List Token) (ss : List Symbol) → P ss → length ts ≤ n → first_fault end (more ∷ ss) ts ≡ then_fault end ss (read_more read s join n front ts)
unfolding read_more taken
more_law P end part list more s read join l zero front [] ss d h = skips end more ss [] l.more_may (l.more_begins [])
more_law P end part list more s read join l zero front (t ∷ ts) ss d h = absurd (omega arith)
more_law P end part list more s read join l (suc n) front ts ss d h =
    choose_law _ end ss (taken s ts) _ _
    (λ next e. passes end s more ss (list ∷ []) ts next e l.quiet (l.more_begins ts ∙ rw e refl)
    ∙ expands end list part (more ∷ []) ss next l.list_must l.part_must (l.list_begins next)
    ∙ bind_law _ end (more ∷ ss) ss (read next) _ (l.takes next (more ∷ ss) (l.passes_on ss d))
    (λ r f. more_law P end part list more s read join l n (join front r.0) r.1 ss d
    (omega (arith, short_at (length next) (read next) r (l.shrinks next) f, length-taken s ts next e))))
    (λ e. skips end more ss ts l.more_may (l.more_begins ts ∙ rw e refl))

pub many_law : {V A : Type 0} (P : List Symbol → Type 0) (end : ℕ) (part list more : Symbol) (s : Sign) (read : Reader V) (join : A → V → A) → IsList P end part list more s read
    → (front : A) (ts : List Token) (ss : List Symbol) → P ss → first_fault end (list ∷ ss) ts ≡ then_fault end ss (read_many read s join front ts)
unfolding read_many
many_law P end part list more s read join l front ts ss d =
    expands end list part (more ∷ []) ss ts l.list_must l.part_must (l.list_begins ts)
    ∙ bind_law _ end (more ∷ ss) ss (read ts) _ (l.takes ts (more ∷ ss) (l.passes_on ss d))
    (λ r e. more_law P end part list more s read join l (length r.1) (join front r.0) r.1 ss d (omega arith))

pub items_law : (end : ℕ) → Takes end some_items (read_items end)
unfolding read_items
items_law end ts ss d =
    many_law IsShallow end an_item some_items more_items sign.Comma (read_item end) one_more
    (record { passes_on = λ ss d. d; takes = item_law end; shrinks = item_short end; quiet = refl; list_must = refl; part_must = refl; more_may = refl; list_begins = λ ts. refl; more_begins = λ ts. refl })
    [] ts ss d

pub columns_law : (end : ℕ) → Takes end some_columns (read_columns end)
unfolding read_columns
columns_law end ts ss d =
    many_law IsShallow end a_name some_columns more_columns sign.Comma (read_name end) one_more
    (record { passes_on = λ ss d. d; takes = name_law end; shrinks = name_short end; quiet = refl; list_must = refl; part_must = refl; more_may = refl; list_begins = λ ts. refl; more_begins = λ ts. refl })
    [] ts ss d

pub literals_law : (end : ℕ) → Takes end some_literals (read_literals end)
unfolding read_literals
literals_law end ts ss d =
    many_law IsShallow end a_literal some_literals more_literals sign.Comma (read_literal end) one_more
    (record { passes_on = λ ss d. d; takes = literal_law end; shrinks = literal_short end; quiet = refl; list_must = refl; part_must = refl; more_may = refl; list_begins = λ ts. refl; more_begins = λ ts. refl })
    [] ts ss d

pub operand_law : (c : Clause) (end : ℕ) → Takes end (an_operand c) (read_operand c end)
unfolding read_operand
operand_law Where end ts ss d =
    named_law end (an_operand Where) ss ts _ _ _ refl
    (λ b. begins_alike end (an_operand Where) a_literal ss ts refl refl b ∙ bind_law _ end ss ss (read_literal end ts) _ (literal_law end ts ss d) (λ x e. refl))
operand_law Having end ts ss d =
    named_law end (an_operand Having) ss ts _ _ _ refl
    (λ b. function_word_law end (an_operand Having) ss ts _ _ _ b (λ f rest. bind_law _ end ss ss (read_function f end rest) _ (function_law f end rest ss d) (λ x e. refl))
    (λ n. begins_alike end (an_operand Having) a_literal ss ts refl refl n ∙ bind_law _ end ss ss (read_literal end ts) _ (literal_law end ts ss d) (λ x e. refl)))

pub list_law : (c : Clause) (x : Operand) (negated : Bool) (end : ℕ) (ts : List Token) (ss : List Symbol) → IsShallow ss
    → first_fault end (a_sign sign.OpenParen ∷ some_literals ∷ a_sign sign.CloseParen ∷ ss) ts ≡ then_fault end ss (read_list x negated end ts)
unfolding read_list
list_law c x negated end ts ss d =
    open_law end ss (some_literals ∷ a_sign sign.CloseParen ∷ ss) ts _ d
    (λ inner. bind_law _ end (a_sign sign.CloseParen ∷ ss) ss (read_literals end inner) _ (literals_law end inner (a_sign sign.CloseParen ∷ ss) d)
    (λ r e. sign_law end sign.CloseParen ss ss r.1 _ refl (λ rest. refl)))

pub range_law : (c : Clause) (x : Operand) (negated : Bool) (end : ℕ) (ts : List Token) (ss : List Symbol) → IsShallow ss
    → first_fault end (an_operand c ∷ a_sign sign.And ∷ an_operand c ∷ ss) ts ≡ then_fault end ss (read_range c x negated end ts)
unfolding read_range
range_law c x negated end ts ss d =
    bind_law _ end (a_sign sign.And ∷ an_operand c ∷ ss) ss (read_operand c end ts) _ (operand_law c end ts (a_sign sign.And ∷ an_operand c ∷ ss) d)
    (λ low e. sign_law end sign.And ss (an_operand c ∷ ss) low.1 _ refl
    (λ rest. bind_law _ end ss ss (read_operand c end rest) _ (operand_law c end rest ss d) (λ high f. refl)))

pub range_or_list_law : (c : Clause) (x : Operand) (negated : Bool) (end : ℕ) → Takes end (a_range_or_list c) (read_range_or_list c x negated end)
unfolding read_range_or_list
range_or_list_law c x negated end ts ss d =
    choose_law _ end ss (taken sign.Between ts) _ _
    (λ rest e. passes end sign.Between (a_range_or_list c) ss (an_operand c ∷ a_sign sign.And ∷ an_operand c ∷ []) ts rest e refl (rw e refl) ∙ range_law c x negated end rest ss d)
    (λ n. choose_law _ end ss (taken sign.In ts) _ _
    (λ rest e. passes end sign.In (a_range_or_list c) ss (a_sign sign.OpenParen ∷ some_literals ∷ a_sign sign.CloseParen ∷ []) ts rest e refl (rw (n, e) refl) ∙ list_law c x negated end rest ss d)
    (λ m. stops end (a_range_or_list c) ss ts refl (rw (n, m) refl)))

pub is_null_law : (x : Operand) (end : ℕ) → Takes end an_is_null (read_is_null x end)
unfolding read_is_null
is_null_law x end ts ss d =
    choose_law _ end ss (taken sign.Not ts) _ _
    (λ rest e. passes end sign.Not an_is_null ss (a_sign sign.Null ∷ []) ts rest e refl (rw e refl) ∙ sign_law end sign.Null ss ss rest _ refl (λ after. refl))
    (λ n. begins_alike end an_is_null (a_sign sign.Null) ss ts refl refl (rw n refl) ∙ sign_law end sign.Null ss ss ts _ refl (λ after. refl))

pub after_operand_law : (c : Clause) (x : Operand) (end : ℕ) → Takes end (an_after_operand c) (read_after_operand c x end)
unfolding read_after_operand comparison_word
after_operand_law c x end ts ss d =
    word_law _ end ss (taken sign.Equal ts) (λ rest. (op.Equal, rest)) _ _ _ (λ rest e. passes end sign.Equal (an_after_operand c) ss (an_operand c ∷ []) ts rest e refl (rw e refl) ∙ compared op.Equal rest)
    (λ n1. word_law _ end ss (taken sign.NotEqual ts) (λ rest. (op.NotEqual, rest)) _ _ _ (λ rest e. passes end sign.NotEqual (an_after_operand c) ss (an_operand c ∷ []) ts rest e refl (rw (n1, e) refl) ∙ compared op.NotEqual rest)
    (λ n2. word_law _ end ss (taken sign.Less ts) (λ rest. (op.Less, rest)) _ _ _ (λ rest e. passes end sign.Less (an_after_operand c) ss (an_operand c ∷ []) ts rest e refl (rw (n1, n2, e) refl) ∙ compared op.Less rest)
    (λ n3. word_law _ end ss (taken sign.LessOrEqual ts) (λ rest. (op.LessOrEqual, rest)) _ _ _ (λ rest e. passes end sign.LessOrEqual (an_after_operand c) ss (an_operand c ∷ []) ts rest e refl (rw (n1, n2, n3, e) refl) ∙ compared op.LessOrEqual rest)
    (λ n4. word_law _ end ss (taken sign.Greater ts) (λ rest. (op.Greater, rest)) _ _ _ (λ rest e. passes end sign.Greater (an_after_operand c) ss (an_operand c ∷ []) ts rest e refl (rw (n1, n2, n3, n4, e) refl) ∙ compared op.Greater rest)
    (λ n5. word_law _ end ss (taken sign.GreaterOrEqual ts) (λ rest. (op.GreaterOrEqual, rest)) None _ _ (λ rest e. passes end sign.GreaterOrEqual (an_after_operand c) ss (an_operand c ∷ []) ts rest e refl (rw (n1, n2, n3, n4, n5, e) refl) ∙ compared op.GreaterOrEqual rest)
    (λ n6. choose_law _ end ss (taken sign.Is ts) _ _ (λ rest e. passes end sign.Is (an_after_operand c) ss (an_is_null ∷ []) ts rest e refl (rw (n1, n2, n3, n4, n5, n6, e) refl) ∙ is_null_law x end rest ss d)
    (λ n7. choose_law _ end ss (taken sign.Not ts) _ _ (λ rest e. passes end sign.Not (an_after_operand c) ss (a_range_or_list c ∷ []) ts rest e refl (rw (n1, n2, n3, n4, n5, n6, n7, e) refl) ∙ range_or_list_law c x true end rest ss d)
    (λ n8. begins_alike end (an_after_operand c) (a_range_or_list c) ss ts refl refl (rw (n1, n2, n3, n4, n5, n6, n7, n8) refl) ∙ range_or_list_law c x false end ts ss d))))))))
  where
    compared : (o : Op) (rest : List Token) → first_fault end (an_operand c ∷ ss) rest ≡ then_fault end ss (read_operand c end rest >>= λ r. Ok (Rattle.table_model.specs.declared.query.Predicate.TheVariants.Compare x o r.0, r.1))
    compared o rest = bind_law _ end ss ss (read_operand c end rest) _ (operand_law c end rest ss d) (λ r e. refl)

pub predicate_law : (c : Clause) (end : ℕ) → Takes end (a_predicate c) (read_predicate c end)
unfolding read_predicate
predicate_law c end ts ss d =
    expands end (a_predicate c) (an_operand c) (an_after_operand c ∷ []) ss ts refl refl refl
    ∙ bind_law _ end (an_after_operand c ∷ ss) ss (read_operand c end ts) _ (operand_law c end ts (an_after_operand c ∷ ss) d) (λ r e. after_operand_law c r.0 end r.1 ss d)

pub truth_word_law : (negated : Bool) (end : ℕ) → Takes end a_truth_word (read_truth_word negated end)
unfolding read_truth_word
truth_word_law negated end ts ss d =
    choose_law _ end ss (taken sign.True ts) _ _ (λ rest e. passes end sign.True a_truth_word ss [] ts rest e refl (rw e refl))
    (λ n. choose_law _ end ss (taken sign.False ts) _ _ (λ rest e. passes end sign.False a_truth_word ss [] ts rest e refl (rw (n, e) refl))
    (λ m. choose_law _ end ss (taken sign.Unknown ts) _ _ (λ rest e. passes end sign.Unknown a_truth_word ss [] ts rest e refl (rw (n, m, e) refl))
    (λ o. stops end a_truth_word ss ts refl (rw (n, m, o) refl))))

pub asked_law : (end : ℕ) → Takes end an_asked (read_asked end)
unfolding read_asked
asked_law end ts ss d =
    choose_law _ end ss (taken sign.Not ts) _ _ (λ rest e. passes end sign.Not an_asked ss (a_truth_word ∷ []) ts rest e refl (rw e refl) ∙ truth_word_law true end rest ss d)
    (λ n. begins_alike end an_asked a_truth_word ss ts refl refl (rw n refl) ∙ truth_word_law false end ts ss d)

-- so many parentheses are open that just these levels are left
abbrev pub IsDeep : ℕ → List Symbol → Type 0
IsDeep levels ss = levels + open_count ss ≡ depth_limit

shallow : (levels : ℕ) (ss : List Symbol) → IsDeep levels ss → IsShallow ss
shallow levels ss d = grind (arith, nat_tests)

-- what is read behind an opening parenthesis round a condition
abbrev pub Inner : Clause → ℕ → ℕ → Type 0
Inner c levels end = (ts rest : List Token) (ss : List Symbol) → IsDeep levels ss → taken sign.OpenParen ts ≡ Some rest
    → first_fault end (a_primary c ∷ ss) ts ≡ then_fault end (a_closing ∷ ss) (nested c levels end rest)

pub primary_law : (c : Clause) (levels end : ℕ) → Inner c levels end → (ts : List Token) (ss : List Symbol) → IsDeep levels ss → first_fault end (a_primary c ∷ ss) ts ≡ then_fault end ss (read_primary c (nested c levels end) end ts)
unfolding read_primary
primary_law c levels end inner ts ss d =
    choose_law _ end ss (taken sign.OpenParen ts) _ _
    (λ rest e. bind_law _ end (a_closing ∷ ss) ss (nested c levels end rest) _ (inner ts rest ss d e)
    (λ r f. begins_alike end a_closing (a_sign sign.CloseParen) ss r.1 refl refl refl ∙ sign_law end sign.CloseParen ss ss r.1 _ refl (λ after. refl)))
    (λ n. begins_alike end (a_primary c) (a_predicate c) ss ts refl refl (rw n refl) ∙ bind_law _ end ss ss _ _ (predicate_law c end ts ss (shallow levels ss d)) (λ r e. refl))

pub test_law : (c : Clause) (levels end : ℕ) → Inner c levels end → (ts : List Token) (ss : List Symbol) → IsDeep levels ss → first_fault end (a_test c ∷ ss) ts ≡ then_fault end ss (read_test c (nested c levels end) end ts)
unfolding read_test
test_law c levels end inner ts ss d =
    expands end (a_test c) (a_primary c) (an_is_truth ∷ []) ss ts refl refl refl
    ∙ bind_law _ end (an_is_truth ∷ ss) ss (read_primary c (nested c levels end) end ts) _ (primary_law c levels end inner ts (an_is_truth ∷ ss) d)
    (λ p e. choose_law _ end ss (taken sign.Is p.1) _ _
    (λ rest f. passes end sign.Is an_is_truth ss (an_asked ∷ []) p.1 rest f refl (rw f refl) ∙ bind_law _ end ss ss (read_asked end rest) _ (asked_law end rest ss (shallow levels ss d)) (λ r g. refl))
    (λ n. skips end an_is_truth ss p.1 refl (rw n refl)))

pub factor_law : (c : Clause) (levels end : ℕ) → Inner c levels end → (ts : List Token) (ss : List Symbol) → IsDeep levels ss → first_fault end (a_factor c ∷ ss) ts ≡ then_fault end ss (read_factor c (nested c levels end) end ts)
unfolding read_factor
factor_law c levels end inner ts ss d =
    choose_law _ end ss (taken sign.Not ts) _ _
    (λ rest e. passes end sign.Not (a_factor c) ss (a_test c ∷ []) ts rest e refl (rw e refl)
    ∙ bind_law _ end ss ss (read_test c (nested c levels end) end rest) _ (test_law c levels end inner rest ss d) (λ r f. refl))
    (λ n. begins_alike end (a_factor c) (a_test c) ss ts refl refl (rw n refl) ∙ test_law c levels end inner ts ss d)

pub term_law : (c : Clause) (levels end : ℕ) → Inner c levels end → (ts : List Token) (ss : List Symbol) → IsDeep levels ss → first_fault end (a_term c ∷ ss) ts ≡ then_fault end ss (read_term c (nested c levels end) end ts)
unfolding read_term
term_law c levels end inner ts ss d =
    many_law (IsDeep levels) end (a_factor c) (a_term c) (and_factors c) sign.And (read_factor c (nested c levels end) end) both
    (record { passes_on = λ ss d. d; takes = factor_law c levels end inner; shrinks = factor_short c (nested c levels end) end (nested_short c levels end); quiet = refl; list_must = refl; part_must = refl; more_may = refl; list_begins = λ ts. refl; more_begins = λ ts. refl })
    no_factor ts ss d

pub terms_law : (c : Clause) (levels end : ℕ) → Inner c levels end → (ts : List Token) (ss : List Symbol) → IsDeep levels ss → first_fault end (a_condition c ∷ ss) ts ≡ then_fault end ss (read_terms c (nested c levels end) end ts)
unfolding read_terms
terms_law c levels end inner ts ss d =
    many_law (IsDeep levels) end (a_term c) (a_condition c) (or_terms c) sign.Or (read_term c (nested c levels end) end) either
    (record { passes_on = λ ss d. d; takes = term_law c levels end inner; shrinks = term_short c (nested c levels end) end (nested_short c levels end); quiet = refl; list_must = refl; part_must = refl; more_may = refl; list_begins = λ ts. refl; more_begins = λ ts. refl })
    no_term ts ss d

pub inner_law : (c : Clause) (levels end : ℕ) → Inner c levels end
unfolding nested
inner_law c zero end ts rest ss d e =
    too_deep end (a_primary c) ss (a_condition c ∷ a_closing ∷ []) ts rest e (grind (arith, nat_tests)) (rw e refl)
inner_law c (suc levels) end ts rest ss d e =
    opens end (a_primary c) ss (a_condition c ∷ a_closing ∷ []) ts rest e (grind (arith, nat_tests)) (rw e refl)
    ∙ terms_law c levels end (inner_law c levels end) rest (a_closing ∷ ss) (omega arith)

pub condition_law : (c : Clause) (levels end : ℕ) (ts : List Token) (ss : List Symbol) → IsDeep levels ss → first_fault end (a_condition c ∷ ss) ts ≡ then_fault end ss (read_condition c levels end ts)
unfolding read_condition
condition_law c levels end ts ss d = terms_law c levels end (inner_law c levels end) ts ss d

-- no parenthesis is open
abbrev IsOutside : List Symbol → Type 0
IsOutside ss = open_count ss ≡ 0

pub filter_law : (end : ℕ) (ts : List Token) (ss : List Symbol) → IsOutside ss → first_fault end (a_filter ∷ ss) ts ≡ then_fault end ss (read_filter depth_limit end ts)
unfolding read_filter
filter_law end ts ss d =
    choose_law _ end ss (taken sign.Where ts) _ _
    (λ rest e. passes end sign.Where a_filter ss (a_condition Where ∷ []) ts rest e refl (rw e refl)
    ∙ bind_law _ end ss ss (read_condition Where depth_limit end rest) _ (condition_law Where depth_limit end rest ss (omega arith)) (λ r f. refl))
    (λ n. skips end a_filter ss ts refl (rw n refl))

pub having_law : (end : ℕ) (ts : List Token) (ss : List Symbol) → IsOutside ss → first_fault end (a_having ∷ ss) ts ≡ then_fault end ss (read_having depth_limit end ts)
unfolding read_having
having_law end ts ss d =
    choose_law _ end ss (taken sign.Having ts) _ _
    (λ rest e. passes end sign.Having a_having ss (a_condition Having ∷ []) ts rest e refl (rw e refl)
    ∙ bind_law _ end ss ss (read_condition Having depth_limit end rest) _ (condition_law Having depth_limit end rest ss (omega arith)) (λ r f. refl))
    (λ n. skips end a_having ss ts refl (rw n refl))

pub grouping_law : (end : ℕ) → Takes end a_grouping (read_grouping end)
unfolding read_grouping
grouping_law end ts ss d =
    choose_law _ end ss (taken sign.Group ts) _ _
    (λ rest e. passes end sign.Group a_grouping ss (a_sign sign.By ∷ some_columns ∷ []) ts rest e refl (rw e refl)
    ∙ sign_law end sign.By ss (some_columns ∷ ss) rest _ refl (λ after. columns_law end after ss d))
    (λ n. skips end a_grouping ss ts refl (rw n refl))

-- the symbols behind SELECT
abbrev behind_select : List Symbol
behind_select = some_items ∷ a_sign sign.From ∷ a_name ∷ a_filter ∷ a_grouping ∷ a_having ∷ []

on_select : (ts : List Token) → begin a_query ts ≡ and_then (begin (a_sign sign.Select) ts) behind_select
on_select ts = by_taken (taken sign.Select ts)
  where
    by_taken : (o : Option (List Token)) → choose o (λ _. Some behind_select) None ≡ and_then (choose o (λ _. Some []) None) behind_select
    by_taken None = refl
    by_taken (Some rest) = refl

pub query_law : (end : ℕ) (ts : List Token) → first_fault end (a_query ∷ []) ts ≡ then_fault end [] (read_query depth_limit end ts)
unfolding read_query
query_law end ts =
    expands end a_query (a_sign sign.Select) behind_select [] ts refl refl (on_select ts)
    ∙ sign_law end sign.Select [] behind_select ts _ refl
    (λ list. bind_law _ end (a_sign sign.From ∷ a_name ∷ a_filter ∷ a_grouping ∷ a_having ∷ []) [] (read_items end list) _ (items_law end list _ refl)
    (λ items e. sign_law end sign.From [] (a_name ∷ a_filter ∷ a_grouping ∷ a_having ∷ []) items.1 _ refl
    (λ name. bind_law _ end (a_filter ∷ a_grouping ∷ a_having ∷ []) [] (read_name end name) _ (name_law end name _ refl)
    (λ table f. bind_law _ end (a_grouping ∷ a_having ∷ []) [] (read_filter depth_limit end table.1) _ (filter_law end table.1 _ refl)
    (λ filter g. bind_law _ end (a_having ∷ []) [] (read_grouping end filter.1) _ (grouping_law end filter.1 _ refl)
    (λ grouping h. bind_law _ end [] [] (read_having depth_limit end grouping.1) _ (having_law end grouping.1 _ refl) (λ having i. refl)))))))

-- the fault that a reading ended with
abbrev pub fault_in : {V : Type 0} → Result V Refusal → Option Refusal
fault_in (Ok x) = None
fault_in (Err e) = Some e

pub whole_fault : {V : Type 0} (end : ℕ) (v : V) (ts : List Token) → first_fault end [] ts ≡ fault_in (whole end (v, ts))
unfolding first_fault after
whole_fault end v [] = refl
whole_fault end v (t ∷ ts) = let some : (length (t ∷ ts) == 0) ≡ false = grind (arith, nat_tests) in rw some refl

-- the stack's first fault is what the descent ends with
pub whole_law : (end : ℕ) (ts : List Token) → first_fault end (a_query ∷ []) ts ≡ fault_in (read_whole end ts)
unfolding read_whole
whole_law end ts = by_result (read_query depth_limit end ts) (query_law end ts)
  where
    by_result : (r : Result (QueryShape × List Token) Refusal) → first_fault end (a_query ∷ []) ts ≡ then_fault end [] r → first_fault end (a_query ∷ []) ts ≡ fault_in (r >>= whole end)
    by_result (Ok x) e = e ∙ whole_fault end x.0 x.1
    by_result (Err f) e = e

-- what was answered is the stack's first fault, or Memory, or a query where there is no fault
pub finds : (end : ℕ) (ts : List Token) (result : Result QueryShape Refusal) → Reads (λ q. q) result (read_whole end ts) → Finds result (first_fault end (a_query ∷ []) ts)
finds end ts (Ok q) h = whole_law end ts ∙ ap fault_in h
finds end ts (Err e) (inl h) = inl (whole_law end ts ∙ ap fault_in h)
finds end ts (Err e) (inr h) = inr h
