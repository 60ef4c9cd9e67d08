-- How long tokens are, and that the bytes of a token are passed over.
use Rattle.std.proofs.Common.{◌≡◌, ℕ, zero, suc, ◌+◌, ◌-◌, ◌<◌, ◌≤◌, Bool, true, false, ◌&&◌, nat_le, List, [], ◌∷◌, length, get_or, drop, Option, Some, None, option_map, refl, sym, ◌∙◌, ap, arith, add-zero}
use Rattle.std.specs.List.{take_while, list_all, starts_with}
use Rattle.std.specs.Prelude.{nat_eq}
use Rattle.std.specs.Char.{is_ascii_digit}
use Rattle.std.proofs.lemmas.List.Sums.{take_while-cons}
use Rattle.std.proofs.lemmas.List.{drop_more, drop-drop}
use Rattle.std.proofs.lemmas.Bool.{cond_both}
use Rattle.std.proofs.lemmas.Bool.Decides.{nat_tests}
use Rattle.table_model.specs.Identifier.{is_word_byte}
use Rattle.query_parser.specs.declared.token.Sign.{Sign}
use Rattle.query_parser.specs.declared.token.Kind.{Kind}
use Rattle.query_parser.specs.declared.token.Token.{Token}
use Rattle.query_parser.specs.Token.{first_spelling, symbols, symbol_of, symbol_token, first_token, tokens_from, is_white}

-- what a front of passing bytes has, they all have
pub list_all-take_while : (p q : ℕ → Bool) → ((c : ℕ) → p c ≡ true → q c ≡ true) → (xs : List ℕ) → list_all q (take_while p xs) ≡ true
list_all-take_while p q weaker [] = refl
list_all-take_while p q weaker (x ∷ xs) =
    rw take_while-cons (cond_both (p x) (x ∷ take_while p xs) [] (λ ys. list_all q ys ≡ true) (λ e. rw (weaker x e) (list_all-take_while p q weaker xs)) (λ e. refl))

pub word_byte_of_digit : (c : ℕ) → is_ascii_digit c ≡ true → is_word_byte c ≡ true
word_byte_of_digit c h = grind (arith, nat_tests)

-- a spelling of one or two bytes
abbrev is_short : List ℕ × Sign → Bool
is_short entry = nat_le 1 (length entry.0) && nat_le (length entry.0) 2

-- a length from 1 to n
abbrev IsWithin : ℕ → ℕ → Type 0
IsWithin n m = (1 ≤ m) × (m ≤ n)

short_symbol : (fits : List ℕ → Bool) (entries : List (List ℕ × Sign)) → list_all is_short entries ≡ true → IsWithin 2 ((symbol_token (first_spelling fits entries)).1)
short_symbol fits [] h = (omega arith, omega arith)
short_symbol fits (entry ∷ entries) h =
    cond_both (fits entry.0) (Some entry) (first_spelling fits entries) (λ o. IsWithin 2 ((symbol_token o).1))
    (λ e. (grind (arith, nat_tests), grind (arith, nat_tests))) (λ e. short_symbol fits entries (grind (arith, nat_tests)))

pub short_symbol_of : (text : List ℕ) → IsWithin 2 ((symbol_token (symbol_of text)).1)
unfolding symbols
short_symbol_of text = short_symbol (λ spelling. starts_with nat_eq text spelling) symbols refl

abbrev second : Option (Sign × ℕ) → ℕ
second None = 0
second (Some p) = p.1

-- the length of a symbol
pub symbol_length : (text : List ℕ) (s : Sign) (n : ℕ) → option_map {U = Sign × ℕ} (λ entry. (entry.1, length entry.0)) (symbol_of text) ≡ Some (s, n) → IsWithin 2 n
symbol_length text s n e = by_found (symbol_of text) e (short_symbol_of text)
  where
    by_found : (o : Option (List ℕ × Sign)) → option_map {U = Sign × ℕ} (λ entry. (entry.1, length entry.0)) o ≡ Some (s, n) → IsWithin 2 ((symbol_token o).1) → IsWithin 2 n
    by_found None e h = absurd (cc)
    by_found (Some entry) e h = let same : length entry.0 ≡ n = ap second e in rw (← same) h

-- the rest of a token is passed over
pub tokens_from-skip : (at n : ℕ) (xs : List ℕ) → tokens_from at n xs ≡ tokens_from (at + n) 0 (drop n xs)
tokens_from-skip at zero [] = refl
tokens_from-skip at (suc n) [] = refl
tokens_from-skip at zero (x ∷ xs) = rw add-zero refl
tokens_from-skip at (suc n) (x ∷ xs) =
    let e : at + 1 + n ≡ at + suc n = omega arith in
    tokens_from-skip (at + 1) n xs ∙ ap (λ k. tokens_from k 0 (drop n xs)) e

-- the token of a kind at a place
abbrev pub token_at : Kind → ℕ → Token
token_at k at = record { kind = k; at = at }

-- another byte gives a token, and what follows it is read on
pub tokens_from-token : (at c : ℕ) (cs : List ℕ) (n : ℕ) → is_white c ≡ false → (first_token c (c ∷ cs)).1 ≡ n → 1 ≤ n
    → tokens_from at 0 (c ∷ cs) ≡ token_at (first_token c (c ∷ cs)).0 at ∷ tokens_from (at + n) 0 (drop n (c ∷ cs))
tokens_from-token at c cs zero w e h = absurd (omega arith)
tokens_from-token at c cs (suc n) w e h =
    let one : at + 1 + n ≡ at + suc n = omega arith in
    let less : suc n - 1 ≡ n = omega arith in
    rw (w, e, less) (ap (λ (ts : List Token). token_at (first_token c (c ∷ cs)).0 at ∷ ts) (tokens_from-skip (at + 1) n cs ∙ ap (λ k. tokens_from k 0 (drop n cs)) one))

-- the same at a place in a text
pub tokens_from-drop : (xs : List ℕ) (at : ℕ) (r : Kind × ℕ) → at < length xs → is_white (get_or xs at 0) ≡ false → r ≡ first_token (get_or xs at 0) (drop at xs) → 1 ≤ r.1
    → tokens_from at 0 (drop at xs) ≡ token_at r.0 at ∷ tokens_from (at + r.1) 0 (drop (at + r.1) xs)
tokens_from-drop xs at r h w e some =
    let split : drop at xs ≡ get_or xs at 0 ∷ drop (at + 1) xs = drop_more xs at 0 h in
    let there : r ≡ first_token (get_or xs at 0) (get_or xs at 0 ∷ drop (at + 1) xs) = rw split at e in
    let rest : drop r.1 (drop at xs) ≡ drop (at + r.1) xs = drop-drop r.1 at xs in
    let next = tokens_from-token at (get_or xs at 0) (drop (at + 1) xs) r.1 w (ap (λ (t : Kind × ℕ). t.1) (sym there)) some in
    let begun : tokens_from at 0 (drop at xs) ≡ token_at (first_token (get_or xs at 0) (get_or xs at 0 ∷ drop (at + 1) xs)).0 at ∷ tokens_from (at + r.1) 0 (drop r.1 (drop at xs)) = rw split next in
    begun ∙ rw (← there, rest) refl
