-- A condition's formula has more parts than each condition nested in it.
use Rattle.std.specs.Prelude.{◌≤◌, ℕ, max, Option, Some, None, Bool, true, false, List, [], ◌∷◌, fold}
use Rattle.std.proofs.Common.{arith}
use Rattle.table_model.specs.Formula.{Formula, both, either, no_factor, no_term, formula_size}
use Rattle.table_model.specs.Query.{formula_of_primary, formula_of_test, formula_of_factor, formula_of_term, formula_of_terms, asked_for, negated_if}
use Rattle.table_model.specs.declared.query.IsTruth.{IsTruth}
use Rattle.table_model.specs.declared.query.Primary.{Primary}
use Rattle.table_model.specs.declared.query.Primary.TheVariants.{Nested, Predicate}
use Rattle.table_model.specs.declared.query.Factor.{Factor}
use Rattle.table_model.specs.declared.query.Term.{Term}
use Rattle.table_model.specs.declared.query.Condition.TheDeep.{deep-Primary, deep-Factor, deep-Term}
use denote.Param.Weighed.{most}

-- what is joined one by one is at least as large as each
pub most_le-fold : {X : Type 0} (depth : X → ℕ) (of : X → Formula) (join : Formula → Formula → Formula)
    → ((f g : Formula) → max (formula_size f) (formula_size g) ≤ formula_size (join f g))
    → ((x : X) → depth x ≤ formula_size (of x))
    → (f : Formula) (xs : List X) → max (most depth xs) (formula_size f) ≤ formula_size (fold (λ g x. join g (of x)) f xs)
most_le-fold depth of join grows below f [] = omega arith
most_le-fold depth of join grows below f (x ∷ xs) =
    omega (arith, most_le-fold depth of join grows below (join f (of x)) xs, grows f (of x), below x)

pub depth_le-asked_for : (f : Formula) (is : Option IsTruth) → formula_size f ≤ formula_size (asked_for f is)
depth_le-asked_for f None = omega arith
depth_le-asked_for f (Some is) = omega arith

pub depth_le-negated_if : (f : Formula) (negated : Bool) → formula_size f ≤ formula_size (negated_if negated f)
depth_le-negated_if f true = omega arith
depth_le-negated_if f false = omega arith

pub depth_le-primary : (p : Primary) → deep-Primary p ≤ formula_size (formula_of_primary p)
depth_le-primary (Nested condition) = omega arith
depth_le-primary (Predicate p) = omega arith

pub depth_le-factor : (factor : Factor) → deep-Factor factor ≤ formula_size (formula_of_factor factor)
depth_le-factor factor =
    omega (
      arith,
      depth_le-primary factor.test.primary,
      depth_le-asked_for (formula_of_primary factor.test.primary) factor.test.is,
      depth_le-negated_if (formula_of_test factor.test) factor.negated,
    )

pub depth_le-term : (term : Term) → deep-Term term ≤ formula_size (formula_of_term term)
depth_le-term term = omega (arith, most_le-fold deep-Factor formula_of_factor both (λ f g. omega arith) depth_le-factor no_factor term.factors.items)

-- no condition nested in the terms has as many parts as their formula
pub depth_le-terms : (terms : List Term) → max (most deep-Term terms) 0 ≤ formula_size (formula_of_terms terms)
depth_le-terms terms = omega (arith, most_le-fold deep-Term formula_of_term either (λ f g. omega arith) depth_le-term no_term terms)
