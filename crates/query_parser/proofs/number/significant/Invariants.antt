-- So far there are zeros alone.
use Rattle.std.proofs.Common.{◌≡◌, drop}
use Rattle.query_parser.specs.Token.{significant}
use Rattle.query_parser.proofs.number.significant.Given as goal

abbrev pub invariant-loop-i : goal.invariant-loop-i
invariant-loop-i l = significant (drop l.i l.digits) ≡ significant l.digits
