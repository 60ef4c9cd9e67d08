-- A front of letters or digits is a word; a symbol has one or two bytes.
use Rattle.std.proofs.Common.{◌≡◌, ◌∷◌, length, Some, sym, ◌∙◌, ap, arith, rules}
use Rattle.std.specs.Char.{is_ascii_digit}
use Rattle.table_model.specs.Identifier.{is_word_byte}
use Rattle.query_parser.proofs.Lexing.{list_all-take_while, word_byte_of_digit, symbol_length}
use Rattle.query_parser.proofs.lexer.first_token.Goals as goal

pub word_kind-requires : goal.word_kind-requires
word_kind-requires c = rw c.leading_word-word.ensures (list_all-take_while is_word_byte is_word_byte (λ b h. h) c.args.text.now)

pub digits_kind-requires : goal.digits_kind-requires
digits_kind-requires c = rw c.leading_digits-digits.ensures (list_all-take_while is_ascii_digit is_word_byte word_byte_of_digit c.args.text.now)

pub returns-in-Some-clause-some : goal.returns-in-Some-clause-some
returns-in-Some-clause-some c =
    let e = symbol_length c.args.text.now c.in-Some.sign c.in-Some.length (sym c.symbol.ensures ∙ c.in-Some.is ∙ ap (λ p. Some p) (search rules)) in
    omega arith

pub returns-in-Some-clause-most : goal.returns-in-Some-clause-most
returns-in-Some-clause-most c =
    let e = symbol_length c.args.text.now c.in-Some.sign c.in-Some.length (sym c.symbol.ensures ∙ c.in-Some.is ∙ ap (λ p. Some p) (search rules)) in
    let some : length c.args.text.now ≡ length (c.args.first ∷ c.requires.0) = ap length c.requires.1 in
    omega arith
