-- What is left goes on from the parts so far, with a bound on how many there may be.
use Rattle.std.proofs.Common.{◌<◌, length, []}
use Rattle.query_parser.specs.declared.token.Sign.TheVariants as sign
use Rattle.query_parser.specs.Descent.{read_many, one_more, read_name}
use Rattle.query_parser.proofs.Many.{IsLeft}
use Rattle.query_parser.proofs.query.columns.Given as goal

abbrev pub invariant-loop-next : goal.invariant-loop-next
invariant-loop-next l =
    IsLeft (read_name l.fn.end) sign.Comma one_more l.columns.items l.rest (read_many (read_name l.fn.end) sign.Comma one_more [] l.fn.tokens)
    × (length l.rest < length l.fn.tokens)

abbrev pub decreases-loop-next : goal.decreases-loop-next
decreases-loop-next l = length l.rest
