-- A call between parentheses has one level less, and each other call goes down the grammar. In a loop, what is left goes on
-- from the parts so far, with a bound on how many there may be.
use Rattle.std.proofs.Common.{◌+◌, ◌*◌, ◌<◌, length}
use Rattle.table_model.specs.Formula.{both, either, no_factor, no_term}
use Rattle.table_model.specs.Query.{formula_of_terms, formula_of_factors}
use Rattle.query_parser.specs.declared.token.Sign.TheVariants as sign
use Rattle.query_parser.specs.Descent.{read_many, read_term, read_factor, nested}
use Rattle.query_parser.proofs.Many.{IsLeft}
use Rattle.query_parser.proofs.condition.+conditions.Given as goal

abbrev pub decreases-condition : goal.decreases-condition
decreases-condition l = 5 * l.levels + 4

abbrev pub decreases-term : goal.decreases-term
decreases-term l = 5 * l.levels + 3

abbrev pub decreases-factor : goal.decreases-factor
decreases-factor l = 5 * l.levels + 2

abbrev pub decreases-test : goal.decreases-test
decreases-test l = 5 * l.levels + 1

abbrev pub decreases-primary : goal.decreases-primary
decreases-primary l = 5 * l.levels

abbrev pub invariant-condition-loop-next : goal.invariant-condition-loop-next
invariant-condition-loop-next l =
    IsLeft (read_term l.fn.clause (nested l.fn.clause l.fn.levels l.fn.end) l.fn.end) sign.Or either (formula_of_terms l.terms.items) l.rest (read_many (read_term l.fn.clause (nested l.fn.clause l.fn.levels l.fn.end) l.fn.end) sign.Or either no_term l.fn.tokens)
    × (length l.rest < length l.fn.tokens)

abbrev pub decreases-condition-loop-next : goal.decreases-condition-loop-next
decreases-condition-loop-next l = length l.rest

abbrev pub invariant-term-loop-next : goal.invariant-term-loop-next
invariant-term-loop-next l =
    IsLeft (read_factor l.fn.clause (nested l.fn.clause l.fn.levels l.fn.end) l.fn.end) sign.And both (formula_of_factors l.factors.items) l.rest (read_many (read_factor l.fn.clause (nested l.fn.clause l.fn.levels l.fn.end) l.fn.end) sign.And both no_factor l.fn.tokens)
    × (length l.rest < length l.fn.tokens)

abbrev pub decreases-term-loop-next : goal.decreases-term-loop-next
decreases-term-loop-next l = length l.rest
