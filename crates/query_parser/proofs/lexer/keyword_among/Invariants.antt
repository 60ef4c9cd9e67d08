-- What is left of the table gives what the whole gives.
use Rattle.std.proofs.Common.{◌≡◌, map, drop}
use Rattle.table_model.specs.Identifier.{folded, same_text}
use Rattle.query_parser.specs.Token.{first_spelling}
use Rattle.query_parser.proofs.lexer.keyword_among.Given as goal

abbrev pub invariant-loop-spelling : goal.invariant-loop-spelling
invariant-loop-spelling l =
    first_spelling (λ spelling. same_text (folded l.word) (folded spelling)) (map (λ entry. (entry.0.now, entry.1)) (drop l.spelling-index l.entries))
    ≡ first_spelling (λ spelling. same_text (folded l.word) (folded spelling)) (map (λ entry. (entry.0.now, entry.1)) l.entries)
