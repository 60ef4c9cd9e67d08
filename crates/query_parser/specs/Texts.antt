-- What a text is read as, whatever memory does: the query or the condition that the grammar has for its tokens, or its first fault.
use Rattle.std.specs.Prelude.{◌≡◌, ℕ, Some, None, Ok, Err, List, []}
use Rattle.table_model.specs.Formula.{Formula}
use Rattle.table_model.specs.Query.{QueryShape}
use Rattle.table_model.specs.declared.refusal.Refusal.{Refusal}
use Rattle.table_model.specs.declared.refusal.Refusal.TheVariants.{Syntax, NumberTooLarge, TooDeep}
use Rattle.query_parser.specs.Descent.{query_of, condition_of}
use Rattle.query_parser.specs.Grammar.{IsQuery, IsCondition}
use Rattle.query_parser.specs.Limits.{IsWithinLimits, IsNoQuery, IsConditionWithin, IsNoCondition}
use Rattle.query_parser.specs.Stack.{text_fault, condition_fault}
use Rattle.query_parser.specs.Token.{tokens_of}
use Rattle.query_parser.specs.declared.predicate.Clause.TheVariants.{Where}

-- the faults that a text may have
abbrev pub IsFault : Refusal → Type 0
IsFault (Syntax at) = Unit {0}
IsFault (NumberTooLarge at) = Unit {0}
IsFault TooDeep = Unit {0}
IsFault other = ⊥

-- what query_of gives for any text:
-- a query that it gives is the query of the grammar that has the text's tokens, and the text has no fault;
-- a refusal that it gives is the text's first fault, and one of those that a text may have;
-- each query of the grammar within the limits is given for its tokens;
-- and where the refusal is Syntax, no query of the grammar has the tokens
pub record QueriesAreRead : Type 0 where
  pub grammar : (text : List ℕ) (q : QueryShape) → query_of text ≡ Ok q → IsQuery q (tokens_of text) []
  pub faultless : (text : List ℕ) (q : QueryShape) → query_of text ≡ Ok q → text_fault text ≡ None
  pub first : (text : List ℕ) (fault : Refusal) → query_of text ≡ Err fault → text_fault text ≡ Some fault
  pub faults : (text : List ℕ) (fault : Refusal) → query_of text ≡ Err fault → IsFault fault
  pub takes : (text : List ℕ) (q : QueryShape) → IsQuery q (tokens_of text) [] → IsWithinLimits q (tokens_of text) → query_of text ≡ Ok q
  pub syntax : (text : List ℕ) (at : ℕ) → query_of text ≡ Err (Syntax at) → IsNoQuery (tokens_of text)

-- the same of condition_of and the conditions of WHERE
pub record ConditionsAreRead : Type 0 where
  pub grammar : (text : List ℕ) (f : Formula) → condition_of text ≡ Ok f → IsCondition Where f (tokens_of text) []
  pub faultless : (text : List ℕ) (f : Formula) → condition_of text ≡ Ok f → condition_fault text ≡ None
  pub first : (text : List ℕ) (fault : Refusal) → condition_of text ≡ Err fault → condition_fault text ≡ Some fault
  pub faults : (text : List ℕ) (fault : Refusal) → condition_of text ≡ Err fault → IsFault fault
  pub takes : (text : List ℕ) (f : Formula) → IsCondition Where f (tokens_of text) [] → IsConditionWithin f (tokens_of text) → condition_of text ≡ Ok f
  pub syntax : (text : List ℕ) (at : ℕ) → condition_of text ≡ Err (Syntax at) → IsNoCondition (tokens_of text)
