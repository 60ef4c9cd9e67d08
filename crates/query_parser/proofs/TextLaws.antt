-- What the descent answers where memory lacks nothing is what it reads, so each clause of the parser holds of what is read.
use Rattle.std.proofs.Common.{◌≡◌, ◌&&◌, ℕ, Bool, true, false, Ok, Err, IfSome, Option, Some, None, List, [], ◌∷◌, length, refl, ap, ◌∙◌, inl, if◌then◌else◌, nat_lt}
use Rattle.std.specs.List.{list_all}
use Rattle.table_model.specs.Formula.{Formula}
use Rattle.table_model.specs.Query.{QueryShape}
use Rattle.table_model.specs.declared.refusal.Refusal.{Refusal}
use Rattle.table_model.specs.declared.refusal.Refusal.TheVariants.{Syntax, NumberTooLarge, TooDeep}
use Rattle.query_parser.specs.Descent.{query_of, condition_of, read_whole, read_whole_condition}
use Rattle.query_parser.specs.Grammar.{IsQuery, IsCondition}
use Rattle.query_parser.specs.Limits.{depth_limit, IsWithinLimits, IsNoQuery, IsConditionWithin, IsNoCondition}
use Rattle.query_parser.specs.Stack.{Symbol, open_count, may_be_empty, after, fault_of, first_fault, text_fault, condition_fault}
use Rattle.query_parser.specs.Texts.{IsFault, QueriesAreRead, ConditionsAreRead}
use Rattle.query_parser.specs.Token.{same_sign, choose, tokens_of, is_large}
use Rattle.query_parser.specs.declared.predicate.Clause.TheVariants.{Where}
use Rattle.query_parser.specs.declared.token.Kind.{Kind}
use Rattle.query_parser.specs.declared.token.Kind.TheVariants.{Identifier, Digits, Bad}
use Rattle.query_parser.specs.declared.token.Kind.TheVariants as kind
use Rattle.query_parser.specs.declared.token.Sign.TheVariants as sign
use Rattle.query_parser.specs.declared.token.Token.{Token}
use Rattle.query_parser.proofs.Conditions.{whole_law, fault_in}
use Rattle.query_parser.proofs.Spelling.{whole_sound}
use Rattle.query_parser.proofs.WholeConditions as conditions
use Rattle.query_parser.proofs.Wholes as queries

-- ---- a first fault is Syntax, NumberTooLarge or TooDeep

if_fault : (b : Bool) (e : Refusal) → IsFault e → IfSome (if b then Some e else None) IsFault
if_fault true e h = h
if_fault false e h = tt

taken_fault : (next : List Symbol) (k : Kind) (at : ℕ) → IfSome (fault_of next k at) IsFault
taken_fault next (kind.Sign s) at = if_fault (same_sign s sign.OpenParen && nat_lt depth_limit (open_count next)) TooDeep tt
taken_fault next (Identifier word) at = tt
taken_fault next (Digits digits) at = if_fault (is_large digits) (NumberTooLarge at) tt
taken_fault next Bad at = tt

end_fault : (end : ℕ) (b : Bool) → IfSome (if b then None else Some (Syntax end)) IsFault
end_fault end true = tt
end_fault end false = tt

fault_or : (o later : Option Refusal) → IfSome o IsFault → IfSome later IsFault → IfSome (choose o (λ fault. Some fault) later) IsFault
fault_or None later h k = k
fault_or (Some e) later h k = h

fault_behind : (at : ℕ) (o : Option (List Symbol)) (there : List Symbol → Option Refusal) → ((next : List Symbol) → IfSome (there next) IsFault) → IfSome (choose o there (Some (Syntax at))) IsFault
fault_behind at None there h = tt
fault_behind at (Some next) there h = h next

first_is_fault : (end : ℕ) (ss : List Symbol) (ts : List Token) → IfSome (first_fault end ss ts) IsFault
unfolding first_fault
first_is_fault end ss [] = end_fault end (list_all may_be_empty ss)
first_is_fault end ss (t ∷ ts) =
    fault_behind t.at (after ss (t ∷ ts)) (λ next. choose (fault_of next t.kind t.at) (λ fault. Some fault) (first_fault end next ts))
    (λ next. fault_or (fault_of next t.kind t.at) (first_fault end next ts) (taken_fault next t.kind t.at) (first_is_fault end next ts))

known : (o : Option Refusal) (e : Refusal) → IfSome o IsFault → o ≡ Some e → IsFault e
known None e h k = absurd (cc)
known (Some f) e h k = let same : f ≡ e = cc in rw (← same) h

-- ---- queries

query_fault : (text : List ℕ) → text_fault text ≡ fault_in (query_of text)
unfolding text_fault query_of
query_fault text = whole_law (length text) (tokens_of text)

query_first : (text : List ℕ) (e : Refusal) → query_of text ≡ Err e → text_fault text ≡ Some e
query_first text e h = query_fault text ∙ ap fault_in h

query_known : (text : List ℕ) (e : Refusal) → query_of text ≡ Err e → IsFault e
unfolding text_fault
query_known text e h = known _ e (first_is_fault (length text) _ (tokens_of text)) (query_first text e h)

query_spelled : (text : List ℕ) (q : QueryShape) → query_of text ≡ Ok q → IsQuery q (tokens_of text) []
unfolding query_of
query_spelled text q h = whole_sound (length text) (tokens_of text) q h

query_taken : (text : List ℕ) (q : QueryShape) → IsQuery q (tokens_of text) [] → IsWithinLimits q (tokens_of text) → query_of text ≡ Ok q
unfolding query_of
query_taken text q is limits = queries.within (length text) (tokens_of text) q is limits

query_syntax : (text : List ℕ) (at : ℕ) → query_of text ≡ Err (Syntax at) → IsNoQuery (tokens_of text)
unfolding query_of
query_syntax text at h = queries.syntax_no_query (length text) at (tokens_of text) (Err (Syntax at)) (inl h) refl

pub queries_read : QueriesAreRead
queries_read = record {
  grammar = query_spelled;
  faultless = λ text q h. query_fault text ∙ ap fault_in h;
  first = query_first;
  faults = query_known;
  takes = query_taken;
  syntax = query_syntax;
}

-- ---- conditions

formula_fault : (text : List ℕ) → condition_fault text ≡ fault_in (condition_of text)
unfolding condition_fault condition_of
formula_fault text = conditions.whole_condition_law (length text) (tokens_of text)

formula_first : (text : List ℕ) (e : Refusal) → condition_of text ≡ Err e → condition_fault text ≡ Some e
formula_first text e h = formula_fault text ∙ ap fault_in h

formula_known : (text : List ℕ) (e : Refusal) → condition_of text ≡ Err e → IsFault e
unfolding condition_fault
formula_known text e h = known _ e (first_is_fault (length text) _ (tokens_of text)) (formula_first text e h)

formula_spelled : (text : List ℕ) (f : Formula) → condition_of text ≡ Ok f → IsCondition Where f (tokens_of text) []
unfolding condition_of
formula_spelled text f h = conditions.condition_spelled (length text) (tokens_of text) f h

formula_taken : (text : List ℕ) (f : Formula) → IsCondition Where f (tokens_of text) [] → IsConditionWithin f (tokens_of text) → condition_of text ≡ Ok f
unfolding condition_of
formula_taken text f is limits = conditions.within (length text) (tokens_of text) f is limits

formula_syntax : (text : List ℕ) (at : ℕ) → condition_of text ≡ Err (Syntax at) → IsNoCondition (tokens_of text)
unfolding condition_of
formula_syntax text at h = conditions.syntax_no_condition (length text) at (tokens_of text) (Err (Syntax at)) (inl h) refl

pub conditions_read : ConditionsAreRead
conditions_read = record {
  grammar = formula_spelled;
  faultless = λ text f h. formula_fault text ∙ ap fault_in h;
  first = formula_first;
  faults = formula_known;
  takes = formula_taken;
  syntax = formula_syntax;
}
