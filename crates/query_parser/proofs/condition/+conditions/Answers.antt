-- The parts so far and what is left give what the whole gives.
use Rattle.std.proofs.Common.{arith}
use Rattle.std.proofs.lemmas.Result.{err_from_is_err_and}
use Rattle.std.proofs.lemmas.List.Sums.{fold-append}
use Rattle.table_model.specs.Formula.{both, either}
use Rattle.table_model.specs.Query.{formula_of_terms, formula_of_factors, formula_of_term, formula_of_factor}
use Rattle.query_parser.specs.declared.token.Sign.TheVariants as sign
use Rattle.query_parser.specs.Descent.{read_condition, read_terms, read_term, read_factor, nested}
use Rattle.query_parser.proofs.Many.{goes_on, fails_or, ends}
use Rattle.query_parser.proofs.condition.+conditions.Goals as goal

pub condition-loop-next-preserved : goal.condition-loop-next-preserved
condition-loop-next-preserved t c = (
  rw (c.in_ok-push-2.ensures.items, fold-append)
      (goes_on (read_term c.args.clause (nested c.args.clause c.args.levels c.args.end) c.args.end) sign.Or either (formula_of_terms c.loop-next.terms.items) c.loop-next.rest.now c.in-Some.next.now c.in_ok-term.left.now _ (formula_of_term c.in_ok-term.term)
      c.loop-next.invariant.0 c.in-Some.ensures.reads c.in_ok-term.ensures.reads c.in_ok-term.ensures.shorter),
  omega (arith, c.in-Some.ensures.shorter, c.in_ok-term.ensures.shorter),
)

pub condition-returns-clause-reads : goal.condition-returns-clause-reads
unfolding read_condition read_terms
condition-returns-clause-reads t c = ends (read_term c.args.clause (nested c.args.clause c.args.levels c.args.end) c.args.end) sign.Or either (formula_of_terms c.loop-next.terms.items) c.loop-next.rest.now _ c.loop-next.invariant.0 c.in_default.ensures.reads

pub condition-returns-in_err-term-clause-reads : goal.condition-returns-in_err-term-clause-reads
unfolding read_condition read_terms
condition-returns-in_err-term-clause-reads t c =
    let p = err_from_is_err_and c.from_residual-in_err-term.result c.from_residual-in_err-term.ensures.1 in
    rw (p.1, p.2) (fails_or (read_term c.args.clause (nested c.args.clause c.args.levels c.args.end) c.args.end) sign.Or either (formula_of_terms c.loop-next.terms.items) c.loop-next.rest.now c.in-Some.next.now _ _ c.loop-next.invariant.0 c.in-Some.ensures.reads c.in_err-term.ensures.reads)

pub term-loop-next-preserved : goal.term-loop-next-preserved
term-loop-next-preserved t c = (
  rw (c.in_ok-push-2.ensures.items, fold-append)
      (goes_on (read_factor c.args.clause (nested c.args.clause c.args.levels c.args.end) c.args.end) sign.And both (formula_of_factors c.loop-next.factors.items) c.loop-next.rest.now c.in-Some.next.now c.in_ok-factor.left.now _ (formula_of_factor c.in_ok-factor.factor)
      c.loop-next.invariant.0 c.in-Some.ensures.reads c.in_ok-factor.ensures.reads c.in_ok-factor.ensures.shorter),
  omega (arith, c.in-Some.ensures.shorter, c.in_ok-factor.ensures.shorter),
)

pub term-returns-clause-reads : goal.term-returns-clause-reads
unfolding read_term
term-returns-clause-reads t c = ends (read_factor c.args.clause (nested c.args.clause c.args.levels c.args.end) c.args.end) sign.And both (formula_of_factors c.loop-next.factors.items) c.loop-next.rest.now _ c.loop-next.invariant.0 c.in_default.ensures.reads

pub term-returns-in_err-factor-clause-reads : goal.term-returns-in_err-factor-clause-reads
unfolding read_term
term-returns-in_err-factor-clause-reads t c =
    let p = err_from_is_err_and c.from_residual-in_err-factor.result c.from_residual-in_err-factor.ensures.1 in
    rw (p.1, p.2) (fails_or (read_factor c.args.clause (nested c.args.clause c.args.levels c.args.end) c.args.end) sign.And both (formula_of_factors c.loop-next.factors.items) c.loop-next.rest.now c.in-Some.next.now _ _ c.loop-next.invariant.0 c.in-Some.ensures.reads c.in_err-factor.ensures.reads)
