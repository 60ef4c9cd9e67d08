-- What was passed is the front of what is to be found.
use Rattle.std.proofs.Common.{◌≡◌, ◌++◌, take, drop}
use Rattle.std.specs.List.{take_while}
use Rattle.table_model.specs.Identifier.{is_word_byte}
use Rattle.query_parser.proofs.lexer.leading_word.Given as goal

abbrev pub invariant-loop-i : goal.invariant-loop-i
invariant-loop-i l = take l.i l.text ++ take_while is_word_byte (drop l.i l.text) ≡ take_while is_word_byte l.text
