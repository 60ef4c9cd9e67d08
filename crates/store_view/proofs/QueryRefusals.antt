-- What a query is refused as: a fault of its text, or one of its names.
use Rattle.std.proofs.Common.{◌≡◌, inl, inr, ℕ, ◌&&◌, Bool, true, false, cond, ltb, IsTrue, List, [], ◌∷◌, length, Option, Some, None, Result, Ok, Err, refl, ap, subst}
use Rattle.std.specs.List.{list_all}
use Rattle.table_model.specs.Formula.{Formula}
use Rattle.table_model.specs.Identifier.{same_text}
use Rattle.table_model.specs.Query.{QueryShape}
use Rattle.table_model.specs.Table.{Table}
use Rattle.table_model.specs.declared.refusal.Refusal.{Refusal}
use Rattle.table_model.specs.declared.refusal.Refusal.TheVariants.{Syntax, NumberTooLarge, TooDeep, NoSuchTable, NoSuchColumn}
use Rattle.query_parser.specs.Limits.{depth_limit}
use Rattle.query_parser.specs.Resolve.{Places, places, verdict, in_query, resolved, IsConditionJudged}
use Rattle.query_parser.specs.Stack.{Symbol, a_query, condition_fault, may_be_empty, open_count, after, fault_of, first_fault, text_fault, Finds}
use Rattle.query_parser.specs.Token.{choose, is_large, same_sign, tokens_of}
use Rattle.query_parser.specs.declared.token.Kind.{Kind}
use Rattle.query_parser.specs.declared.token.Kind.TheVariants.{Identifier, Digits, Bad}
use Rattle.query_parser.specs.declared.token.Kind.TheVariants as kind
use Rattle.query_parser.specs.declared.token.Sign.TheVariants as sign
use Rattle.query_parser.specs.declared.token.Token.{Token}
use Rattle.store_view.specs.Asked.{is_refusal_of_query, is_refusal_of_condition, is_fault_of_text}

-- a refusal, if there is one, is a fault of a text
abbrev pub IsListed : Option Refusal → Type 0
IsListed None = Unit {0}
IsListed (Some e) = is_fault_of_text e ≡ true

-- a fault of a text is one that a query may have, and a condition too
of_query : (e : Refusal) → is_fault_of_text e ≡ true → is_refusal_of_query e ≡ true
of_query (Syntax at) h = refl
of_query (NumberTooLarge at) h = refl
of_query TooDeep h = refl
of_query other h = absurd cc

of_condition : (e : Refusal) → is_fault_of_text e ≡ true → is_refusal_of_condition e ≡ true
of_condition (Syntax at) h = refl
of_condition (NumberTooLarge at) h = refl
of_condition TooDeep h = refl
of_condition other h = absurd cc

open_listed : (b : Bool) → IsListed (cond b (Some TooDeep) None)
open_listed true = refl
open_listed false = tt

large_listed : (b : Bool) (at : ℕ) → IsListed (cond b (Some (NumberTooLarge at)) None)
large_listed true at = refl
large_listed false at = tt

end_listed : (b : Bool) (end : ℕ) → IsListed (cond b None (Some (Syntax end)))
end_listed true end = tt
end_listed false end = refl

token_listed : (next : List Symbol) (k : Kind) (at : ℕ) → IsListed (fault_of next k at)
token_listed next (kind.Sign s) at = open_listed (same_sign s sign.OpenParen && ltb depth_limit (open_count next))
token_listed next (Identifier word) at = tt
token_listed next (Digits digits) at = large_listed (is_large digits) at
token_listed next Bad at = tt

chosen_listed : {X : Type 0} (o : Option X) (f : X → Option Refusal) (other : Option Refusal) → ((x : X) → IsListed (f x)) → IsListed other → IsListed (choose o f other)
chosen_listed None f other h q = q
chosen_listed (Some x) f other h q = h x

sooner_listed : (o rest : Option Refusal) → IsListed o → IsListed rest → IsListed (choose o (λ fault. Some fault) rest)
sooner_listed None rest p q = q
sooner_listed (Some e) rest p q = p

first_listed : (end : ℕ) (ts : List Token) (ss : List Symbol) → IsListed (first_fault end ss ts)
unfolding first_fault
first_listed end [] ss = end_listed (list_all may_be_empty ss) end
first_listed end (t ∷ ts) ss =
    chosen_listed (after ss (t ∷ ts)) (λ next. choose (fault_of next t.kind t.at) (λ fault. Some fault) (first_fault end next ts)) (Some (Syntax t.at))
    (λ next. sooner_listed (fault_of next t.kind t.at) (first_fault end next ts) (token_listed next t.kind t.at) (first_listed end ts next)) refl

text_listed : (text : List ℕ) → IsListed (text_fault text)
unfolding text_fault
text_listed text = first_listed (length text) (tokens_of text) (a_query ∷ [])

-- the fault that a text is refused as is one of a query's
pub found_listed : (text : List ℕ) (e : Refusal) → Finds {X = QueryShape} (Err e) (text_fault text) → IsTrue (is_refusal_of_query e)
found_listed text e (inl is) = of_query e (subst IsListed is (text_listed text))
found_listed text e (inr lacks) = ap is_refusal_of_query lacks

-- the fault that a text is refused as is one of a condition's
pub condition_found : (text : List ℕ) (e : Refusal) → Finds {X = Formula} (Err e) (condition_fault text) → IsTrue (is_refusal_of_condition e)
unfolding condition_fault
condition_found text e (inl is) = of_condition e (subst IsListed is (first_listed (length text) (tokens_of text) _))
condition_found text e (inr lacks) = ap is_refusal_of_condition lacks

-- what a condition's names are refused as is one too
pub condition_resolved : (t : Table) (f : Formula) (r : Result (Unit {0}) Refusal) (e : Refusal) → IsConditionJudged t f r → r ≡ Err e → IsTrue (is_refusal_of_condition e)
condition_resolved t f r e judged is = of_judged e (subst (IsConditionJudged t f) is judged)
  where
    of_judged : (e : Refusal) → IsConditionJudged t f (Err e) → is_refusal_of_condition e ≡ true
    of_judged (NoSuchColumn at) h = refl
    of_judged other h = absurd h

-- a result, where it is refused, is so as a query is
abbrev pub IsRefusedAsQuery : Result (Unit {0}) Refusal → Type 0
IsRefusedAsQuery (Ok done) = Unit {0}
IsRefusedAsQuery (Err e) = is_refusal_of_query e ≡ true

verdict_listed : (p : Places) → IsRefusedAsQuery (verdict p)
verdict_listed (Some at, ungrouped) = refl
verdict_listed (None, Some at) = refl
verdict_listed (None, None) = tt

table_listed : (b : Bool) (r : Result (Unit {0}) Refusal) → IsRefusedAsQuery r → IsRefusedAsQuery (cond b r (Err NoSuchTable))
table_listed true r h = h
table_listed false r h = refl

-- so is what its names are refused as
pub resolved_listed : (t : Table) (q : QueryShape) → IsRefusedAsQuery (resolved t q)
resolved_listed t q = table_listed (same_text q.table t.name) (verdict (places t.columns q.grouping (None, None) (in_query q))) (verdict_listed (places t.columns q.grouping (None, None) (in_query q)))
