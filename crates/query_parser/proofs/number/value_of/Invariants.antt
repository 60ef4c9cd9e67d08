-- The value so far, and how far it may have grown: a byte is at most 255.
use Rattle.std.proofs.Common.{◌≡◌, ◌+◌, ◌*◌, ◌^◌, ◌≤◌, take}
use Rattle.query_parser.specs.Token.{value_of}
use Rattle.query_parser.proofs.number.value_of.Given as goal

abbrev pub invariant-loop-digit : goal.invariant-loop-digit
invariant-loop-digit l = (l.value ≡ (value_of (take l.digit-index l.digits))) × (value_of (take l.digit-index l.digits) + 23 ≤ 23 * 10 ^ l.digit-index)
