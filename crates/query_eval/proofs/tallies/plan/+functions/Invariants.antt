-- The set functions of the terms and factors so far are added.
use Rattle.std.proofs.Common.{◌≡◌, ◌++◌, map, take}
use Rattle.table_model.specs.Query.{formula_of_terms, formula_of_factors}
use Rattle.query_eval.specs.Aggregate.{aggregate_of, condition_functions}
use Rattle.query_eval.proofs.tallies.plan.+functions.Given as goal

abbrev pub invariant-add_condition-loop-term : goal.invariant-add_condition-loop-term
invariant-add_condition-loop-term l = l.out.items ≡ l.initial.out.items ++ map (aggregate_of l.schema.columns) (condition_functions (formula_of_terms (take l.term-index l.term-items)))

abbrev pub invariant-add_term-loop-factor : goal.invariant-add_term-loop-factor
invariant-add_term-loop-factor l = l.out.items ≡ l.initial.out.items ++ map (aggregate_of l.schema.columns) (condition_functions (formula_of_factors (take l.factor-index l.factor-items)))
