-- The keywords and then the symbols, each asked of the same tokens.
use Rattle.std.proofs.Common.{◌≡◌, ◌∙◌, ◌+◌, ◌++◌, List, [], map, length, ap, refl}
use Rattle.query_parser.specs.Expected.{taken_signs}
use Rattle.query_parser.specs.Token.{keywords, symbols, tokens_of}
use Rattle.query_parser.specs.declared.token.Sign.{Sign}
use Rattle.query_parser.specs.declared.token.Token.{Token}
use Rattle.query_parser.proofs.expecting.expected_at.Goals as goal

-- two lists that were added one after the other, each of the same tokens
added : (f : List Token → List Sign → List Sign) (ks ss none one both : List Sign) (front behind tokens : List Token)
    → both ≡ one ++ f behind ss → one ≡ none ++ f front ks → none ≡ [] → behind ≡ front → front ≡ tokens → both ≡ f tokens ks ++ f tokens ss
added f ks ss none one both front behind tokens b o n e t = rw (b, o, n, e, t) refl

pub returns-clause-signs : goal.returns-clause-signs
unfolding keywords symbols
returns-clause-signs c =
    added (taken_signs c.args.form (length c.args.text.now + 1) c.args.at) (map (λ entry. entry.1) keywords) (map (λ entry. entry.1) symbols) _ _ _ _ _ _
    c.in_ok-add_signs-2.ensures.signs c.in_ok-add_signs.ensures.signs c.new-signs.ensures.items c.in_ok-add_signs.ensures.kept
    (c.in_ok-has_digits.ensures.kept ∙ (c.in_ok-has_name.ensures.kept ∙ (c.in_ok-front.ensures ∙ ap tokens_of c.front_of.ensures)))
