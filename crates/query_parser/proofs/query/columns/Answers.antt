-- The parts so far and what is left give what the whole gives.
use Rattle.std.proofs.Common.{arith}
use Rattle.std.proofs.lemmas.Result.{err_from_is_err_and}
use Rattle.query_parser.specs.declared.token.Sign.TheVariants as sign
use Rattle.query_parser.specs.Descent.{one_more, read_name, read_columns}
use Rattle.query_parser.proofs.Many.{goes_on, fails_or, ends}
use Rattle.query_parser.proofs.query.columns.Goals as goal

pub loop-next-preserved : goal.loop-next-preserved
loop-next-preserved c = (
  rw c.in_ok-push-2.ensures.items
      (goes_on (read_name c.args.end) sign.Comma one_more c.loop-next.columns.items c.loop-next.rest.now c.in-Some.next.now c.in_ok-column.left.now _ c.in_ok-column.column
      c.loop-next.invariant.0 c.in-Some.ensures.reads c.in_ok-column.ensures.reads c.in_ok-column.ensures.shorter),
  omega (arith, c.in-Some.ensures.shorter, c.in_ok-column.ensures.shorter),
)

pub returns : goal.returns
unfolding read_columns
returns c = ends (read_name c.args.end) sign.Comma one_more c.loop-next.columns.items c.loop-next.rest.now _ c.loop-next.invariant.0 c.in_default.ensures.reads

pub returns-in_err-column : goal.returns-in_err-column
unfolding read_columns
returns-in_err-column c =
    let p = err_from_is_err_and c.from_residual-in_err-column.result c.from_residual-in_err-column.ensures.1 in
    rw (p.1, p.2) (fails_or (read_name c.args.end) sign.Comma one_more c.loop-next.columns.items c.loop-next.rest.now c.in-Some.next.now _ _ c.loop-next.invariant.0 c.in-Some.ensures.reads c.in_err-column.ensures.reads)
