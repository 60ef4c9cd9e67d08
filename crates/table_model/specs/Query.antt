-- Queries as contracts see them.
use Rattle.std.specs.Prelude.{ℕ, Option, Some, None, List, fold, Bool, true, false, refl}
use Rattle.std.specs.Coded.{Coded, code_by, coded×, coded_ℕ, coded_list, coded_option}
use Rattle.table_model.specs.Formula.{Formula, says, in_parentheses, is_truth, negation, no_factor, both, no_term, either, formula_code}
use Rattle.table_model.specs.QueryCode.{coded_item, coded_mention}
use Rattle.table_model.specs.declared.query.ColumnMention.{ColumnMention}
use Rattle.table_model.specs.declared.query.Item.{Item}
use Rattle.table_model.specs.declared.query.Primary.{Primary}
use Rattle.table_model.specs.declared.query.Primary.TheVariants.{Nested, Predicate}
use Rattle.table_model.specs.declared.query.IsTruth.{IsTruth}
use Rattle.table_model.specs.declared.query.Test.{Test}
use Rattle.table_model.specs.declared.query.Factor.{Factor}
use Rattle.table_model.specs.declared.query.Term.{Term}

-- a primary's formula
abbrev pub formula_of_primary : Primary → Formula
formula_of_primary (Nested condition) = in_parentheses condition.value
formula_of_primary (Predicate predicate) = says predicate

-- a formula that is asked for a truth value, or not
abbrev pub asked_for : Formula → Option IsTruth → Formula
asked_for f None = f
asked_for f (Some is) = is_truth f is

-- a test's formula
abbrev pub formula_of_test : Test → Formula
formula_of_test test = asked_for (formula_of_primary test.primary) test.is

-- a formula under NOT, or not
abbrev pub negated_if : Bool → Formula → Formula
negated_if true f = negation f
negated_if false f = f

-- a factor's formula
abbrev pub formula_of_factor : Factor → Formula
formula_of_factor factor = negated_if factor.negated (formula_of_test factor.test)

-- the formula of factors joined by AND
abbrev pub formula_of_factors : List Factor → Formula
formula_of_factors factors = fold (λ f factor. both f (formula_of_factor factor)) no_factor factors

-- a term's formula
abbrev pub formula_of_term : Term → Formula
formula_of_term term = formula_of_factors term.factors.items

-- the formula of terms joined by OR
abbrev pub formula_of_terms : List Term → Formula
formula_of_terms terms = fold (λ f term. either f (formula_of_term term)) no_term terms

-- a query: its select items, its table, the formulas of WHERE and HAVING if they are there, and the columns of GROUP BY, none where that is absent
pub record QueryShape : Type 0 where
  pub items : List Item
  pub table : List ℕ
  pub filter : Option Formula
  pub grouping : List ColumnMention
  pub having : Option Formula

-- a query is stored as the tuple of its parts
abbrev pub query_code : Coded QueryShape
query_code =
    code_by (List Item × (List ℕ × (Option Formula × (List ColumnMention × Option Formula))))
    (coded× (coded_list coded_item) (coded× (coded_list coded_ℕ) (coded× (coded_option formula_code) (coded× (coded_list coded_mention) (coded_option formula_code)))))
    (λ q. (q.items, (q.table, (q.filter, (q.grouping, q.having)))))
    (λ p. record { items = p.0; table = p.1.0; filter = p.1.1.0; grouping = p.1.1.1.0; having = p.1.1.1.1 })
    (λ _. refl)
