-- The parts so far and what is left give what the whole gives.
use Rattle.std.proofs.Common.{arith, rules}
use Rattle.std.specs.Int.{w128}
use Rattle.std.specs.Prelude.{FitsSigned}
use Rattle.std.proofs.lemmas.Int.{to_z-of_z}
use Rattle.std.proofs.lemmas.Result.{err_from_is_err_and}
use Rattle.query_parser.specs.declared.token.Sign.TheVariants as sign
use Rattle.query_parser.specs.Descent.{one_more, read_literal, read_literals}
use Rattle.query_parser.proofs.Many.{goes_on, fails_or, ends}
use Rattle.query_parser.proofs.predicate.literals.Goals as goal

pub loop-next-preserved : goal.loop-next-preserved
loop-next-preserved c =
    let fits : FitsSigned w128 c.in_ok-number.number = search rules in (
      rw (c.in_ok-push-2.ensures.items, to_z-of_z)
          (goes_on (read_literal c.args.end) sign.Comma one_more c.loop-next.numbers.items c.loop-next.rest.now c.in-Some.next.now c.in_ok-number.left.now _ c.in_ok-number.number
          c.loop-next.invariant.0 c.in-Some.ensures.reads c.in_ok-number.ensures.reads c.in_ok-number.ensures.shorter),
      omega (arith, c.in-Some.ensures.shorter, c.in_ok-number.ensures.shorter),
    )

pub returns-clause-reads : goal.returns-clause-reads
unfolding read_literals
returns-clause-reads c = ends (read_literal c.args.end) sign.Comma one_more c.loop-next.numbers.items c.loop-next.rest.now _ c.loop-next.invariant.0 c.in_default.ensures.reads

pub returns-in_err-number-clause-reads : goal.returns-in_err-number-clause-reads
unfolding read_literals
returns-in_err-number-clause-reads c =
    let p = err_from_is_err_and c.from_residual-in_err-number.result c.from_residual-in_err-number.ensures.1 in
    rw (p.1, p.2) (fails_or (read_literal c.args.end) sign.Comma one_more c.loop-next.numbers.items c.loop-next.rest.now c.in-Some.next.now _ _ c.loop-next.invariant.0 c.in-Some.ensures.reads c.in_err-number.ensures.reads)
