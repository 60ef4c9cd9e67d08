-- The limits of a query, and what the grammar's queries are to `parse`.
use Rattle.std.specs.Prelude.{◌≡◌, ◌≤◌, ℕ, ◌+◌, max, Bool, false, Option, Some, None, All, Result, List, []}
use Rattle.std.specs.Result.{MatchResult}
use Rattle.table_model.specs.Formula.{Formula, says, in_parentheses, is_truth, negation, no_factor, both, no_term, either}
use Rattle.table_model.specs.Query.{QueryShape}
use Rattle.table_model.specs.declared.refusal.Refusal.{Refusal}
use Rattle.table_model.specs.declared.refusal.Refusal.TheVariants.{Memory}
use Rattle.query_parser.specs.Grammar.{IsQuery, IsCondition}
use Rattle.query_parser.specs.Token.{is_large}
use Rattle.query_parser.specs.declared.predicate.Clause.TheVariants.{Where}
use Rattle.query_parser.specs.declared.token.Kind.{Kind}
use Rattle.query_parser.specs.declared.token.Kind.TheVariants.{Identifier, Digits, Bad}
use Rattle.query_parser.specs.declared.token.Kind.TheVariants as kind
use Rattle.query_parser.specs.declared.token.Token.{Token}

-- how many parentheses may be open at once round conditions
abbrev pub depth_limit : ℕ
depth_limit = 64

-- how many parentheses are at most open at once in a condition
abbrev pub depth : Formula → ℕ
depth (says p) = 0
depth (in_parentheses f) = depth f + 1
depth (is_truth f is) = depth f
depth (negation f) = depth f
depth no_factor = 0
depth (both f g) = max (depth f) (depth g)
depth no_term = 0
depth (either f g) = max (depth f) (depth g)

-- the same of a condition that may be absent
abbrev pub depth_of : Option Formula → ℕ
depth_of None = 0
depth_of (Some f) = depth f

-- whether a token is the digits of a literal, more than digit_limit after their leading zeros
abbrev pub is_large_number : Kind → Bool
is_large_number (kind.Sign s) = false
is_large_number (Identifier word) = false
is_large_number (Digits digits) = is_large digits
is_large_number Bad = false

-- at most depth_limit parentheses are open at once round conditions, and no literal has more than digit_limit digits after its leading zeros
pub record IsWithinLimits (q : QueryShape) (tokens : List Token) : Type 0 where
  pub filter : depth_of q.filter ≤ depth_limit
  pub having : depth_of q.having ≤ depth_limit
  pub literals : All (λ t. is_large_number t.kind ≡ false) tokens

-- each query of the grammar that is within the limits is answered, or Memory in its place
abbrev pub TakesQueries : List Token → Result QueryShape Refusal → Type 0
TakesQueries tokens result = (q : QueryShape) → IsQuery q tokens [] → IsWithinLimits q tokens → MatchResult result (λ answer. answer ≡ q) (λ fault. fault ≡ Memory)

-- no query of the grammar has the tokens
abbrev pub IsNoQuery : List Token → Type 0
IsNoQuery tokens = (q : QueryShape) → IsQuery q tokens [] → ⊥

-- at most one query has the tokens
abbrev pub IsUnambiguous : Type 0
IsUnambiguous = (tokens : List Token) (p q : QueryShape) → IsQuery p tokens [] → IsQuery q tokens [] → p ≡ q

-- at most depth_limit parentheses are open at once in a condition, and no literal has more than digit_limit digits after its leading zeros
pub record IsConditionWithin (f : Formula) (tokens : List Token) : Type 0 where
  pub levels : depth f ≤ depth_limit
  pub literals : All (λ t. is_large_number t.kind ≡ false) tokens

-- each condition of WHERE that is within the limits is answered, or Memory in its place
abbrev pub TakesConditions : List Token → Result Formula Refusal → Type 0
TakesConditions tokens result = (f : Formula) → IsCondition Where f tokens [] → IsConditionWithin f tokens → MatchResult result (λ answer. answer ≡ f) (λ fault. fault ≡ Memory)

-- no condition of WHERE has the tokens
abbrev pub IsNoCondition : List Token → Type 0
IsNoCondition tokens = (f : Formula) → IsCondition Where f tokens [] → ⊥

-- at most one condition of WHERE has the tokens
abbrev pub ConditionsAreUnambiguous : Type 0
ConditionsAreUnambiguous = (tokens : List Token) (f g : Formula) → IsCondition Where f tokens [] → IsCondition Where g tokens [] → f ≡ g
