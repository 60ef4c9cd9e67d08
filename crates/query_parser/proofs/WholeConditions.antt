-- What is read of a whole text as a condition: the stack's first fault or what the grammar has, at most one, and each within the limits.
use Rattle.std.proofs.Common.{◌≡◌, ◌==◌, ◌≤◌, ◌+◌, ℕ, false, Result, Ok, Err, IfOk, Option, None, List, [], ◌∷◌, length, refl, ap, ◌∙◌, ◌⊎◌, inl, inr, arith}
use Rattle.std.proofs.lemmas.Bool.Decides.{nat_tests}
use Rattle.table_model.specs.Formula.{Formula}
use Rattle.table_model.specs.Reading.{Reads, ◌>>=◌}
use Rattle.table_model.specs.declared.refusal.Refusal.{Refusal}
use Rattle.table_model.specs.declared.refusal.Refusal.TheVariants.{Syntax}
use Rattle.query_parser.specs.Descent.{read_condition, read_whole_condition, whole}
use Rattle.query_parser.specs.Grammar.{IsCondition}
use Rattle.query_parser.specs.Limits.{depth_limit, depth, IsConditionWithin, TakesConditions, ConditionsAreUnambiguous}
use Rattle.query_parser.specs.Token.{taken}
use Rattle.query_parser.specs.Stack.{a_condition, first_fault, Finds}
use Rattle.query_parser.specs.declared.predicate.Clause.TheVariants.{Where}
use Rattle.query_parser.specs.declared.token.Token.{Token}
use Rattle.query_parser.proofs.Conditions.{condition_law, fault_in, whole_fault}
use Rattle.query_parser.proofs.ConverseConditions.{condition_agrees}
use Rattle.query_parser.proofs.Plain.{plain, plain_fits, plain_formula}
use Rattle.query_parser.proofs.Simulation.{then_fault}
use Rattle.query_parser.proofs.Spelling.{Sound, condition_sound}
use Rattle.query_parser.proofs.Taking.{IsLimit, Agrees, reads, stops}
use Rattle.query_parser.proofs.Wholes.{all_fit, any_fit, limit_no_syntax, one_answer}

-- ---- the first fault

pub whole_condition_law : (end : ℕ) (ts : List Token) → first_fault end (a_condition Where ∷ []) ts ≡ fault_in (read_whole_condition end ts)
unfolding read_whole_condition
whole_condition_law end ts = by_result (read_condition Where depth_limit end ts) (condition_law Where depth_limit end ts [] refl)
  where
    by_result : (r : Result (Formula × List Token) Refusal) → first_fault end (a_condition Where ∷ []) ts ≡ then_fault end [] r → first_fault end (a_condition Where ∷ []) ts ≡ fault_in (r >>= whole end)
    by_result (Ok x) e = e ∙ whole_fault end x.0 x.1
    by_result (Err f) e = e

pub finds_condition : (end : ℕ) (ts : List Token) (result : Result Formula Refusal) → Reads (λ f. f) result (read_whole_condition end ts) → Finds result (first_fault end (a_condition Where ∷ []) ts)
finds_condition end ts (Ok f) h = whole_condition_law end ts ∙ ap fault_in h
finds_condition end ts (Err e) (inl h) = inl (whole_condition_law end ts ∙ ap fault_in h)
finds_condition end ts (Err e) (inr h) = inr h

-- ---- the grammar

pub condition_spelled : (end : ℕ) (ts : List Token) (f : Formula) → read_whole_condition end ts ≡ Ok f → IsCondition Where f ts []
unfolding read_whole_condition
condition_spelled end ts f h = by_result (read_condition Where depth_limit end ts) (condition_sound Where depth_limit end ts) h
  where
    by_rest : (x : Formula) (rest : List Token) → IsCondition Where x ts rest → whole end (x, rest) ≡ Ok f → IsCondition Where f ts []
    by_rest x [] s e = let same : x ≡ f = cc in rw (← same) s
    by_rest x (t ∷ rest) s e =
        let some : (length (t ∷ rest) == 0) ≡ false = grind (arith, nat_tests) in
        let wrong = rw some at e in
        absurd (cc)

    by_result : (r : Result (Formula × List Token) Refusal) → Sound (λ x to. IsCondition Where x ts to) r → (r >>= whole end) ≡ Ok f → IsCondition Where f ts []
    by_result (Ok r) s e = by_rest r.0 r.1 s e
    by_result (Err d) s e = absurd (cc)

pub answers_condition : (end : ℕ) (ts : List Token) (result : Result Formula Refusal) → Reads (λ f. f) result (read_whole_condition end ts) → IfOk result (λ f. IsCondition Where f ts [])
answers_condition end ts (Ok f) h = condition_spelled end ts f h
answers_condition end ts (Err e) h = tt

-- ---- each condition within the limits

pub within : (end : ℕ) (ts : List Token) (f : Formula) → IsCondition Where f ts [] → IsConditionWithin f ts → read_whole_condition end ts ≡ Ok f
unfolding read_whole_condition taken
within end ts f is limits = by_agreement (condition_agrees ⊥ Where depth_limit end f ts [] is (all_fit ts limits.literals) (inl limits.levels) refl refl refl)
  where
    by_agreement : Agrees ⊥ (read_condition Where depth_limit end ts) f [] → (read_condition Where depth_limit end ts >>= whole end) ≡ Ok f
    by_agreement (reads e d) = rw e refl
    by_agreement (stops x e h l) = absurd x

pub takes_conditions : (end : ℕ) (ts : List Token) (result : Result Formula Refusal) → Reads (λ f. f) result (read_whole_condition end ts) → TakesConditions ts result
takes_conditions end ts (Ok p) h f is limits = let read = within end ts f is limits in cc
takes_conditions end ts (Err e) (inl h) f is limits = let read = within end ts f is limits in absurd (cc)
takes_conditions end ts (Err e) (inr m) f is limits = m

-- any condition is read, or a limit is passed
limited : (end : ℕ) (ts : List Token) (f : Formula) → IsCondition Where f ts [] → (read_whole_condition end ts ≡ Ok f) ⊎ ((e : Refusal) × ((read_whole_condition end ts ≡ Err e) × IsLimit e))
unfolding read_whole_condition taken
limited end ts f is = by_agreement (condition_agrees (Unit {0}) Where depth_limit end f ts [] is (any_fit ts) (inr tt) refl refl refl)
  where
    by_agreement : Agrees (Unit {0}) (read_condition Where depth_limit end ts) f [] → ((read_condition Where depth_limit end ts >>= whole end) ≡ Ok f) ⊎ ((e : Refusal) × (((read_condition Where depth_limit end ts >>= whole end) ≡ Err e) × IsLimit e))
    by_agreement (reads e d) = inl (rw e refl)
    by_agreement (stops x e h l) = inr (e, (rw h refl, l))

pub syntax_no_condition : (end at : ℕ) (ts : List Token) (result : Result Formula Refusal) → Reads (λ f. f) result (read_whole_condition end ts) → result ≡ Err (Syntax at) → (f : Formula) → IsCondition Where f ts [] → ⊥
syntax_no_condition end at ts (Ok p) h r f is = cc
syntax_no_condition end at ts (Err e) (inr m) r f is = let same : e ≡ Syntax at = cc in cc
syntax_no_condition end at ts (Err e) (inl h) r f is = by_limit (limited end ts f is)
  where
    same : e ≡ Syntax at
    same = cc

    by_limit : (read_whole_condition end ts ≡ Ok f) ⊎ ((g : Refusal) × ((read_whole_condition end ts ≡ Err g) × IsLimit g)) → ⊥
    by_limit (inl read) = cc
    by_limit (inr (g, (read, l))) = let fault : g ≡ Syntax at = cc in limit_no_syntax at (rw fault at l)

-- ---- at most one

pub one_condition : ConditionsAreUnambiguous
unfolding taken
one_condition ts f g is_f is_g = same (read f is_f less_f) (read g is_g less_g)
  where
    levels : ℕ
    levels = depth f + depth g

    less_f : depth f ≤ levels
    less_f = omega arith

    less_g : depth g ≤ levels
    less_g = omega arith

    read : (x : Formula) → IsCondition Where x ts [] → depth x ≤ levels → read_condition Where levels 0 (plain ts) ≡ Ok (x, [])
    read x is low = by_agreement (condition_agrees ⊥ Where levels 0 x (plain ts) [] (is.0, plain_formula Where x ts [] is.1) (plain_fits ts) (inl low) refl refl refl)
      where
        by_agreement : Agrees ⊥ (read_condition Where levels 0 (plain ts)) x [] → read_condition Where levels 0 (plain ts) ≡ Ok (x, [])
        by_agreement (reads e d) = e
        by_agreement (stops y e h l) = absurd y

    same : read_condition Where levels 0 (plain ts) ≡ Ok (f, []) → read_condition Where levels 0 (plain ts) ≡ Ok (g, []) → f ≡ g
    same e k = ap (λ x. x.0) (one_answer (read_condition Where levels 0 (plain ts)) (f, []) (g, []) e k)
