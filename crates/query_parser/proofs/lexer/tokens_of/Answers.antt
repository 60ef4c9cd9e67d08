-- The token that was pushed is the next one of what was left.
use Rattle.std.proofs.Common.{◌++◌, List, get_or, append_assoc, sym, ◌∙◌, ap}
use Rattle.query_parser.specs.declared.token.Token.{Token}
use Rattle.std.proofs.lemmas.List.{take_rest}
use Rattle.query_parser.specs.Token.{first_token}
use Rattle.query_parser.proofs.Lexing.{tokens_from-drop}
use Rattle.query_parser.proofs.lexer.tokens_of.Goals as goal

pub loop-at-preserved : goal.loop-at-preserved
loop-at-preserved c =
    let e = tokens_from-drop c.args.text.now c.loop-at.at c.first_token-kind.result c.loop-at-test.true (sym c.is_white.ensures ∙ c.if-is_white.false) (c.first_token-kind.ensures.value ∙ ap (λ ts. first_token (get_or c.args.text.now c.loop-at.at 0) ts) (take_rest c.args.text.now c.loop-at.at)) c.first_token-kind.ensures.some in
    rw (c.in_ok-push.ensures.items, append_assoc) (ap (λ (ts : List Token). c.loop-at.tokens.items ++ ts) (sym e) ∙ c.loop-at.invariant)
