-- What was passed is the front of what is to be found.
use Rattle.std.proofs.Common.{◌≡◌, ◌++◌, take, drop}
use Rattle.std.specs.List.{take_while}
use Rattle.std.specs.Char.{is_ascii_digit}
use Rattle.query_parser.proofs.lexer.leading_digits.Given as goal

abbrev pub invariant-loop-i : goal.invariant-loop-i
invariant-loop-i l = take l.i l.text ++ take_while is_ascii_digit (drop l.i l.text) ≡ take_while is_ascii_digit l.text
