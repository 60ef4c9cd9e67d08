-- Tokens, and the tokens of a text.
use Rattle.std.specs.Prelude.{◌≡◌, ℕ, zero, suc, ℤ, pos, Bool, true, false, ◌==◌, ◌+◌, ◌-◌, ◌*◌, ◌||◌, nat_le, nat_lt, if◌then◌else◌, Option, Some, None, List, [], ◌∷◌, length, map, fold, codes, drop, take_while, nat_eq}
use Rattle.std.proofs.Common.{neg_ℤ}
use Rattle.std.specs.List.{starts_with}
use Rattle.std.specs.Char.{is_ascii_alphabetic, is_ascii_digit}
use Rattle.table_model.specs.Identifier.{folded, same_text, keywords as reserved_words, is_word_byte, word_limit}
use Rattle.table_model.specs.declared.query.ColumnMention.{ColumnMention}
use Rattle.query_parser.specs.declared.token.Kind.{Kind}
use Rattle.query_parser.specs.declared.token.Kind.TheVariants.{Identifier, Digits, Bad}
use Rattle.query_parser.specs.declared.token.Kind.TheVariants as kind
use Rattle.query_parser.specs.declared.token.Token.{Token}
use Rattle.query_parser.specs.declared.token.Sign.{Sign}
use Rattle.query_parser.specs.declared.token.Sign.TheVariants as sign

-- the number of a sign, each its own
abbrev pub sign_number : Sign → ℕ
sign_number sign.All = 0
sign_number sign.And = 1
sign_number sign.As = 2
sign_number sign.Avg = 3
sign_number sign.Between = 4
sign_number sign.By = 5
sign_number sign.Count = 6
sign_number sign.Distinct = 7
sign_number sign.False = 8
sign_number sign.From = 9
sign_number sign.Group = 10
sign_number sign.Having = 11
sign_number sign.In = 12
sign_number sign.Is = 13
sign_number sign.Max = 14
sign_number sign.Min = 15
sign_number sign.Not = 16
sign_number sign.Null = 17
sign_number sign.Or = 18
sign_number sign.Select = 19
sign_number sign.Sum = 20
sign_number sign.True = 21
sign_number sign.Unknown = 22
sign_number sign.Where = 23
sign_number sign.OpenParen = 24
sign_number sign.CloseParen = 25
sign_number sign.Comma = 26
sign_number sign.Asterisk = 27
sign_number sign.Plus = 28
sign_number sign.Minus = 29
sign_number sign.Equal = 30
sign_number sign.NotEqual = 31
sign_number sign.Less = 32
sign_number sign.LessOrEqual = 33
sign_number sign.Greater = 34
sign_number sign.GreaterOrEqual = 35

-- whether two signs are the same
abbrev pub same_sign : Sign → Sign → Bool
same_sign a b = sign_number a == sign_number b

-- the keywords
unfoldable pub keywords : List (List ℕ × Sign)
keywords =
    (codes "ALL", sign.All)
    ∷ (codes "AND", sign.And)
    ∷ (codes "AS", sign.As)
    ∷ (codes "AVG", sign.Avg)
    ∷ (codes "BETWEEN", sign.Between)
    ∷ (codes "BY", sign.By)
    ∷ (codes "COUNT", sign.Count)
    ∷ (codes "DISTINCT", sign.Distinct)
    ∷ (codes "FALSE", sign.False)
    ∷ (codes "FROM", sign.From)
    ∷ (codes "GROUP", sign.Group)
    ∷ (codes "HAVING", sign.Having)
    ∷ (codes "IN", sign.In)
    ∷ (codes "IS", sign.Is)
    ∷ (codes "MAX", sign.Max)
    ∷ (codes "MIN", sign.Min)
    ∷ (codes "NOT", sign.Not)
    ∷ (codes "NULL", sign.Null)
    ∷ (codes "OR", sign.Or)
    ∷ (codes "SELECT", sign.Select)
    ∷ (codes "SUM", sign.Sum)
    ∷ (codes "TRUE", sign.True)
    ∷ (codes "UNKNOWN", sign.Unknown)
    ∷ (codes "WHERE", sign.Where)
    ∷ []

-- the keywords are, in order, the words that name no table and no column
abbrev pub KeywordsAreReserved : Type 0
KeywordsAreReserved = map (λ entry. entry.0) keywords ≡ reserved_words

-- the symbols, of two that begin alike the longer first
unfoldable pub symbols : List (List ℕ × Sign)
symbols =
    (codes "<>", sign.NotEqual)
    ∷ (codes "<=", sign.LessOrEqual)
    ∷ (codes ">=", sign.GreaterOrEqual)
    ∷ (codes "(", sign.OpenParen)
    ∷ (codes ")", sign.CloseParen)
    ∷ (codes ",", sign.Comma)
    ∷ (codes "*", sign.Asterisk)
    ∷ (codes "+", sign.Plus)
    ∷ (codes "-", sign.Minus)
    ∷ (codes "=", sign.Equal)
    ∷ (codes "<", sign.Less)
    ∷ (codes ">", sign.Greater)
    ∷ []

-- the first spelling of a table that passes a test, with its sign
abbrev pub first_spelling : (List ℕ → Bool) → List (List ℕ × Sign) → Option (List ℕ × Sign)
first_spelling fits [] = None
first_spelling fits (entry ∷ entries) = if fits entry.0 then Some entry else first_spelling fits entries

-- the keyword that a word is, without regard to case
abbrev pub keyword_of : List ℕ → Option (List ℕ × Sign)
keyword_of word = first_spelling (λ spelling. same_text (folded word) spelling) keywords

-- the longest symbol that a text begins with
abbrev pub symbol_of : List ℕ → Option (List ℕ × Sign)
symbol_of text = first_spelling (λ spelling. starts_with nat_eq text spelling) symbols

-- a sign, or another kind of token
abbrev pub sign_or : Kind → Option (List ℕ × Sign) → Kind
sign_or other None = other
sign_or other (Some entry) = kind.Sign entry.1

-- a word of at most word_limit bytes is a keyword or an identifier
abbrev pub word_kind : List ℕ → Kind
word_kind word = if nat_le (length word) word_limit then sign_or (Identifier word) (keyword_of word) else Bad

-- a run of digits and what follows it: a letter or an underscore right behind makes it no token
abbrev pub digits_kind : List ℕ → List ℕ → Kind
digits_kind digits [] = Digits digits
digits_kind digits (c ∷ cs) = if is_word_byte c then Bad else Digits digits

-- a symbol and its length, or one byte that begins no token
abbrev pub symbol_token : Option (List ℕ × Sign) → Kind × ℕ
symbol_token None = (Bad, 1)
symbol_token (Some entry) = (kind.Sign entry.1, length entry.0)

-- the token that a text begins with, and how many bytes it takes
abbrev pub first_token : ℕ → List ℕ → Kind × ℕ
first_token c text =
    if is_ascii_alphabetic c then (word_kind (take_while is_word_byte text), length (take_while is_word_byte text))
    else (if is_ascii_digit c then (digits_kind (take_while is_ascii_digit text) (drop (length (take_while is_ascii_digit text)) text), length (take_while is_ascii_digit text))
    else symbol_token (symbol_of text))

-- a space, a tab, a line feed or a carriage return
abbrev pub is_white : ℕ → Bool
is_white c = c == 32 || (c == 9 || (c == 10 || c == 13))

-- The tokens of a text at this place, of whose first bytes a number belong to a token that began before: elsewhere each byte
-- that is not white begins one.
abbrev pub tokens_from : ℕ → ℕ → List ℕ → List Token
tokens_from at n [] = []
tokens_from at (suc n) (c ∷ cs) = tokens_from (at + 1) n cs
tokens_from at zero (c ∷ cs) =
    if is_white c then tokens_from (at + 1) 0 cs
    else record { kind = (first_token c (c ∷ cs)).0; at = at } ∷ tokens_from (at + 1) ((first_token c (c ∷ cs)).1 - 1) cs

-- the tokens of a text
abbrev pub tokens_of : List ℕ → List Token
tokens_of text = tokens_from 0 0 text

-- what follows from a value that is there, or what is put where it isn't
abbrev pub choose : {X Y : Type 0} → Option X → (X → Y) → Y → Y
choose None there absent = absent
choose (Some x) there absent = there x

-- whether a token is this sign
abbrev pub is_sign : Kind → Sign → Bool
is_sign (kind.Sign other) s = same_sign other s
is_sign (Identifier word) s = false
is_sign (Digits digits) s = false
is_sign Bad s = false

-- the tokens behind a sign that they begin with
unfoldable pub taken : Sign → List Token → Option (List Token)
taken s [] = None
taken s (t ∷ ts) = if is_sign t.kind s then Some ts else None

-- the place of the first token, or the end of the text
abbrev pub place_of : ℕ → List Token → ℕ
place_of end [] = end
place_of end (t ∷ ts) = t.at

-- the identifier that a token is, with its place
abbrev pub mention_of : Kind → ℕ → Option ColumnMention
mention_of (kind.Sign s) at = None
mention_of (Identifier word) at = Some (record { name = folded word; at = at })
mention_of (Digits digits) at = None
mention_of Bad at = None

-- the identifier that tokens begin with, and the tokens behind it
unfoldable pub mentioned : List Token → Option (ColumnMention × List Token)
mentioned [] = None
mentioned (t ∷ ts) = choose (mention_of t.kind t.at) (λ m. Some (m, ts)) None

-- the digits that a token is
abbrev pub digits_of : Kind → Option (List ℕ)
digits_of (kind.Sign s) = None
digits_of (Identifier word) = None
digits_of (Digits digits) = Some digits
digits_of Bad = None

-- the digits that tokens begin with, and the tokens behind them
unfoldable pub spelled_digits : List Token → Option (List ℕ × List Token)
spelled_digits [] = None
spelled_digits (t ∷ ts) = choose (digits_of t.kind) (λ digits. Some (digits, ts)) None

-- digits without their leading zeros
abbrev pub significant : List ℕ → List ℕ
significant [] = []
significant (d ∷ ds) = if d == 48 then significant ds else d ∷ ds

-- how many digits a literal may have after its leading zeros
abbrev pub digit_limit : ℕ
digit_limit = 30

-- whether digits are more than digit_limit after their leading zeros
abbrev pub is_large : List ℕ → Bool
is_large digits = nat_lt digit_limit (length (significant digits))

-- the number that digits spell
abbrev pub value_of : List ℕ → ℕ
value_of digits = fold (λ n d. n * 10 + (d - 48)) 0 digits

-- a whole number, negated or not
abbrev pub signed : Bool → ℕ → ℤ
signed true n = neg_ℤ (pos n)
signed false n = pos n
