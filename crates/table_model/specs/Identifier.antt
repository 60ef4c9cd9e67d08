-- Identifiers: the names of tables and columns, and the words that are none.
use Rattle.std.specs.Prelude.{ℕ, Bool, true, false, ◌&&◌, ◌||◌, not, ◌==◌, nat_lt, List, [], ◌∷◌, length, map, codes}
use Rattle.std.specs.List.{list_any, list_all}
use Rattle.std.specs.Char.{is_ascii_alphabetic, is_ascii_alphanumeric, to_ascii_uppercase}

-- a text in upper case
abbrev pub folded : List ℕ → List ℕ
folded text = map to_ascii_uppercase text

-- whether two texts are the same, byte for byte
abbrev pub same_text : List ℕ → List ℕ → Bool
same_text [] [] = true
same_text [] (y ∷ ys) = false
same_text (x ∷ xs) [] = false
same_text (x ∷ xs) (y ∷ ys) = (x == y) && same_text xs ys

-- the words of the query language, which name no table and no column
unfoldable pub keywords : List (List ℕ)
keywords =
    codes "ALL" ∷ codes "AND" ∷ codes "AS" ∷ codes "AVG" ∷ codes "BETWEEN" ∷ codes "BY" ∷ codes "COUNT" ∷ codes "DISTINCT"
    ∷ codes "FALSE" ∷ codes "FROM" ∷ codes "GROUP" ∷ codes "HAVING" ∷ codes "IN" ∷ codes "IS" ∷ codes "MAX" ∷ codes "MIN"
    ∷ codes "NOT" ∷ codes "NULL" ∷ codes "OR" ∷ codes "SELECT" ∷ codes "SUM" ∷ codes "TRUE" ∷ codes "UNKNOWN" ∷ codes "WHERE" ∷ []

-- a keyword in either case
unfoldable pub is_keyword : List ℕ → Bool
is_keyword text = list_any (λ word. same_text (folded text) (folded word)) keywords

-- a letter, a digit or an underscore
abbrev pub is_word_byte : ℕ → Bool
is_word_byte c = is_ascii_alphanumeric c || c == 95

-- how many bytes a word may have, and so the name of a table or a column
abbrev pub word_limit : ℕ
word_limit = 64

-- a letter, and then letters, digits and underscores, at most word_limit bytes in all
abbrev pub is_word : List ℕ → Bool
is_word [] = false
is_word (c ∷ cs) = is_ascii_alphabetic c && (list_all is_word_byte cs && nat_lt (length cs) word_limit)

-- a word that is no keyword
abbrev pub is_identifier : List ℕ → Bool
is_identifier text = is_word text && not (is_keyword text)
