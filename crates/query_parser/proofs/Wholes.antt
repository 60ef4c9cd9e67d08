-- A text's tokens have at most one query, and each query of the grammar is answered or passes a limit.
use Rattle.std.proofs.Common.{◌≡◌, ◌≤◌, ◌+◌, ℕ, false, Result, Ok, Err, All, List, [], ◌∷◌, refl, ap, ◌⊎◌, inl, inr, arith}
use Rattle.std.proofs.lemmas.List.Elements.{All-head, All-tail}
use Rattle.table_model.specs.Query.{QueryShape}
use Rattle.table_model.specs.declared.refusal.Refusal.{Refusal}
use Rattle.table_model.specs.declared.refusal.Refusal.TheVariants.{Syntax}
use Rattle.query_parser.proofs.ConverseQueries.{query_agrees}
use Rattle.query_parser.proofs.Plain.{plain, plain_fits, plain_query}
use Rattle.query_parser.proofs.Taking.{Fits, IsLimit, Agrees, reads, stops}
use Rattle.table_model.specs.Reading.{Reads, ◌>>=◌}
use Rattle.query_parser.specs.Descent.{read_query, read_whole, whole}
use Rattle.query_parser.specs.Grammar.{IsQuery}
use Rattle.query_parser.specs.Limits.{depth_limit, depth_of, is_large_number, IsWithinLimits, TakesQueries, IsUnambiguous}
use Rattle.query_parser.specs.declared.token.Token.{Token}

pub all_fit : (ts : List Token) → All (λ t. is_large_number t.kind ≡ false) ts → Fits ⊥ ts
all_fit [] h = tt
all_fit (t ∷ ts) h = let head = All-head (λ t. is_large_number t.kind ≡ false) t ts h in (λ l. cc, all_fit ts (All-tail (λ t. is_large_number t.kind ≡ false) t ts h))

pub any_fit : (ts : List Token) → Fits (Unit {0}) ts
any_fit [] = tt
any_fit (t ∷ ts) = (λ l. tt, any_fit ts)

-- a query within the limits is read
pub within : (end : ℕ) (ts : List Token) (q : QueryShape) → IsQuery q ts [] → IsWithinLimits q ts → read_whole end ts ≡ Ok q
unfolding read_whole
within end ts q is limits = by_agreement (query_agrees ⊥ depth_limit end q ts is (all_fit ts limits.literals) (inl limits.filter) (inl limits.having))
  where
    by_agreement : Agrees ⊥ (read_query depth_limit end ts) q [] → (read_query depth_limit end ts >>= whole end) ≡ Ok q
    by_agreement (reads e d) = rw e refl
    by_agreement (stops x e h l) = absurd x

pub takes_queries : (end : ℕ) (ts : List Token) (result : Result QueryShape Refusal) → Reads (λ q. q) result (read_whole end ts) → TakesQueries ts result
takes_queries end ts (Ok p) h q is limits = let read = within end ts q is limits in cc
takes_queries end ts (Err e) (inl h) q is limits = let read = within end ts q is limits in absurd (cc)
takes_queries end ts (Err e) (inr m) q is limits = m

-- any query is read, or a limit is passed
limited : (end : ℕ) (ts : List Token) (q : QueryShape) → IsQuery q ts [] → (read_whole end ts ≡ Ok q) ⊎ ((e : Refusal) × ((read_whole end ts ≡ Err e) × IsLimit e))
unfolding read_whole
limited end ts q is = by_agreement (query_agrees (Unit {0}) depth_limit end q ts is (any_fit ts) (inr tt) (inr tt))
  where
    by_agreement : Agrees (Unit {0}) (read_query depth_limit end ts) q [] → ((read_query depth_limit end ts >>= whole end) ≡ Ok q) ⊎ ((e : Refusal) × (((read_query depth_limit end ts >>= whole end) ≡ Err e) × IsLimit e))
    by_agreement (reads e d) = inl (rw e refl)
    by_agreement (stops x e h l) = inr (e, (rw h refl, l))

pub limit_no_syntax : (at : ℕ) → IsLimit (Syntax at) → ⊥
limit_no_syntax at (inl h) = cc
limit_no_syntax at (inr (n, h)) = cc

pub syntax_no_query : (end at : ℕ) (ts : List Token) (result : Result QueryShape Refusal) → Reads (λ q. q) result (read_whole end ts) → result ≡ Err (Syntax at) → (q : QueryShape) → IsQuery q ts [] → ⊥
syntax_no_query end at ts (Ok p) h r q is = cc
syntax_no_query end at ts (Err e) (inr m) r q is = let same : e ≡ Syntax at = cc in cc
syntax_no_query end at ts (Err e) (inl h) r q is = by_limit (limited end ts q is)
  where
    same : e ≡ Syntax at
    same = cc

    by_limit : (read_whole end ts ≡ Ok q) ⊎ ((f : Refusal) × ((read_whole end ts ≡ Err f) × IsLimit f)) → ⊥
    by_limit (inl read) = cc
    by_limit (inr (f, (read, l))) = let fault : f ≡ Syntax at = cc in limit_no_syntax at (rw fault at l)

pub one_answer : {V : Type 0} (r : Result V Refusal) (x y : V) → r ≡ Ok x → r ≡ Ok y → x ≡ y
one_answer r x y e f = cc

pub unambiguous : IsUnambiguous
unambiguous ts p q is_p is_q = same (read p is_p fewer_p_filter fewer_p_having) (read q is_q fewer_q_filter fewer_q_having)
  where
    levels : ℕ
    levels = (depth_of p.filter + depth_of p.having) + (depth_of q.filter + depth_of q.having)

    fewer_p_filter : depth_of p.filter ≤ levels
    fewer_p_filter = omega arith

    fewer_p_having : depth_of p.having ≤ levels
    fewer_p_having = omega arith

    fewer_q_filter : depth_of q.filter ≤ levels
    fewer_q_filter = omega arith

    fewer_q_having : depth_of q.having ≤ levels
    fewer_q_having = omega arith

    read : (x : QueryShape) → IsQuery x ts [] → depth_of x.filter ≤ levels → depth_of x.having ≤ levels → read_query levels 0 (plain ts) ≡ Ok (x, [])
    read x is low high = by_agreement (query_agrees ⊥ levels 0 x (plain ts) (plain_query x ts [] is) (plain_fits ts) (inl low) (inl high))
      where
        by_agreement : Agrees ⊥ (read_query levels 0 (plain ts)) x [] → read_query levels 0 (plain ts) ≡ Ok (x, [])
        by_agreement (reads e d) = e
        by_agreement (stops y e h l) = absurd y

    same : read_query levels 0 (plain ts) ≡ Ok (p, []) → read_query levels 0 (plain ts) ≡ Ok (q, []) → p ≡ q
    same e f = ap (λ x. x.0) (one_answer (read_query levels 0 (plain ts)) (p, []) (q, []) e f)
