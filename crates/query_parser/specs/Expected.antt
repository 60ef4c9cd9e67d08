-- What the grammar takes at the byte at which a text is refused: each kind of token that the parser does not refuse there.
use Rattle.std.specs.Prelude.{◌≡◌, ℕ, Bool, false, not, ◌==◌, ◌+◌, Option, Some, None, List, [], ◌∷◌, ◌++◌, length, map, take}
use Rattle.std.specs.List.{filter}
use Rattle.std.specs.Result.{result_err}
use Rattle.table_model.specs.declared.refusal.Refusal.{Refusal}
use Rattle.table_model.specs.declared.refusal.Refusal.TheVariants.{Syntax}
use Rattle.query_parser.specs.Descent.{read_whole, read_whole_condition}
use Rattle.query_parser.specs.Token.{keywords, symbols, tokens_of}
use Rattle.query_parser.specs.declared.expecting.Expected.{Expected}
use Rattle.query_parser.specs.declared.expecting.Form.{Form}
use Rattle.query_parser.specs.declared.expecting.Form.TheVariants.{Query, Condition}
use Rattle.query_parser.specs.declared.token.Kind.{Kind}
use Rattle.query_parser.specs.declared.token.Kind.TheVariants.{Identifier, Digits}
use Rattle.query_parser.specs.declared.token.Kind.TheVariants as kind
use Rattle.query_parser.specs.declared.token.Sign.{Sign}
use Rattle.query_parser.specs.declared.token.Token.{Token}

-- what tokens are refused as, in a text of this length
abbrev pub refusal_of : Form → ℕ → List Token → Option Refusal
refusal_of Query end ts = result_err (read_whole end ts)
refusal_of Condition end ts = result_err (read_whole_condition end ts)

-- whether a refusal is Syntax at this byte
abbrev pub is_syntax_at : ℕ → Option Refusal → Bool
is_syntax_at at None = false
is_syntax_at at (Some (Syntax place)) = place == at
is_syntax_at at (Some other) = false

-- whether a text of these tokens, and then one of this kind at a byte, is not refused at that byte
abbrev pub may_come : Form → ℕ → ℕ → List Token → Kind → Bool
may_come form end at front k = not (is_syntax_at at (refusal_of form end (front ++ record { kind = k; at = at } ∷ [])))

-- the signs that may come at a byte, behind these tokens
abbrev pub taken_signs : Form → ℕ → ℕ → List Token → List Sign → List Sign
taken_signs form end at front signs = filter (λ s. may_come form end at front (kind.Sign s)) signs

-- The keywords and symbols, whether a name, as A, and digits, as 7, may come at a byte of a text in place of what is there, and whether
-- the text may end there.
pub record IsExpected (form : Form) (text : List ℕ) (e : Expected) : Type 0 where
  pub refused : refusal_of form (length text) (tokens_of text) ≡ Some (Syntax e.at)
  pub signs : e.signs.items ≡ taken_signs form (length text + 1) e.at (tokens_of (take e.at text)) (map (λ entry. entry.1) keywords) ++ taken_signs form (length text + 1) e.at (tokens_of (take e.at text)) (map (λ entry. entry.1) symbols)
  pub name : e.has_name ≡ may_come form (length text + 1) e.at (tokens_of (take e.at text)) (Identifier (65 ∷ []))
  pub digits : e.has_digits ≡ may_come form (length text + 1) e.at (tokens_of (take e.at text)) (Digits (55 ∷ []))
  pub end : e.has_end ≡ not (is_syntax_at e.at (refusal_of form e.at (tokens_of (take e.at text))))

-- what is found of a text: what may come at the byte at which it is refused, if it is refused as Syntax
abbrev pub FindsExpected : Form → List ℕ → Option Expected → Type 0
FindsExpected form text None = (at : ℕ) → refusal_of form (length text) (tokens_of text) ≡ Some (Syntax at) → ⊥
FindsExpected form text (Some e) = IsExpected form text e
