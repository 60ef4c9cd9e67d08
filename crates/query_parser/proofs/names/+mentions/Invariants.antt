-- The places so far are those of the parts so far.
use Rattle.std.proofs.Common.{◌≡◌, take}
use Rattle.table_model.specs.Query.{formula_of_terms, formula_of_factors}
use Rattle.query_parser.specs.Resolve.{places, in_formula}
use Rattle.query_parser.proofs.names.+mentions.Given as goal

abbrev pub invariant-in_condition-loop-term : goal.invariant-in_condition-loop-term
invariant-in_condition-loop-term l =
    l.found ≡ places l.names.columns.now l.names.grouping.now l.initial.found (in_formula l.bound (formula_of_terms (take l.term-index l.term-items)))

abbrev pub invariant-in_term-loop-factor : goal.invariant-in_term-loop-factor
invariant-in_term-loop-factor l =
    l.found ≡ places l.names.columns.now l.names.grouping.now l.initial.found (in_formula l.bound (formula_of_factors (take l.factor-index l.factor-items)))
