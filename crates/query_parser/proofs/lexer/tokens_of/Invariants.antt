-- The tokens so far and those of what is left are the text's.
use Rattle.std.proofs.Common.{◌≡◌, ◌-◌, ◌++◌, length, drop}
use Rattle.query_parser.specs.Token.{tokens_from, tokens_of}
use Rattle.query_parser.proofs.lexer.tokens_of.Given as goal

abbrev pub invariant-loop-at : goal.invariant-loop-at
invariant-loop-at l = l.tokens.items ++ tokens_from l.at 0 (drop l.at l.text) ≡ tokens_of l.text

abbrev pub decreases-loop-at : goal.decreases-loop-at
decreases-loop-at l = length l.text - l.at
