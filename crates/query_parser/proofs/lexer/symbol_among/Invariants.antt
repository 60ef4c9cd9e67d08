-- What is left of the table gives what the whole gives.
use Rattle.std.proofs.Common.{◌≡◌, map, drop, nat_eq}
use Rattle.std.specs.List.{starts_with}
use Rattle.query_parser.specs.Token.{first_spelling}
use Rattle.query_parser.proofs.lexer.symbol_among.Given as goal

abbrev pub invariant-loop-spelling : goal.invariant-loop-spelling
invariant-loop-spelling l =
    first_spelling (λ spelling. starts_with nat_eq l.text spelling) (map (λ entry. (entry.0.now, entry.1)) (drop l.spelling-index l.entries))
    ≡ first_spelling (λ spelling. starts_with nat_eq l.text spelling) (map (λ entry. (entry.0.now, entry.1)) l.entries)
