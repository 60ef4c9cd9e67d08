-- A text is cut at the first separator, which is where std finds it, whatever follows the text.
use Rattle.std.specs.Prelude.{◌≡◌, ℕ, suc, ◌+◌, ◌<◌, ◌≤◌, Bool, true, false, cond, not, ◌==◌, nat_lt, List, [], ◌∷◌, ◌++◌, length, take, drop, Option, Some, None, option_map, position}
use Rattle.std.specs.List.{position_or_len}
use Rattle.std.proofs.Common.{refl, sym, ap, ◌∙◌, arith, add-one, append_assoc}
use Rattle.std.proofs.lemmas.Bool.Decides.{nat_tests}
use Rattle.std.proofs.lemmas.Bool.{eqb-true}
use Rattle.std.proofs.lemmas.List.{append-nil, take_at}
use Rattle.csv_rows.specs.Line.{before_last, text_or}
use Rattle.table_model.specs.Pieces.{pieces, onto_first}
use Rattle.csv_rows.specs.LineReading.{onto_piece}

-- whether a byte is the separator
abbrev pub is : ℕ → ℕ → Bool
is c b = b == c

-- there is always a first piece
pub first_piece : (c : ℕ) (bs : List ℕ) → (p : List ℕ) × (ps : List (List ℕ)) × (pieces c bs ≡ p ∷ ps)
first_piece c [] = ([], [], refl)
first_piece c (b ∷ bs) =
    let next = first_piece c bs in
    elim (b == c) as (λ t. (p : List ℕ) × (ps : List (List ℕ)) × (cond t ([] ∷ pieces c bs) (onto_first b (pieces c bs)) ≡ p ∷ ps)) [
      | true ↦ ([], pieces c bs, refl)
      | false ↦ (b ∷ next.0, next.1, ap (onto_first b) next.2)
    ]

pub onto_nothing : (c : ℕ) (bs : List ℕ) → onto_piece [] (pieces c bs) ≡ pieces c bs
onto_nothing c bs = let p = first_piece c bs in ap (onto_piece []) p.2 ∙ sym p.2

pub onto_both : (a b : List ℕ) (ps : List (List ℕ)) → onto_piece a (onto_piece b ps) ≡ onto_piece (a ++ b) ps
onto_both a b [] = refl
onto_both a b (p ∷ ps) = ap (λ (x : List ℕ). x ∷ ps) (sym (append_assoc a b p))

uncut : (c : ℕ) (bs : List ℕ) → length bs ≤ position_or_len (is c) bs → (more : List ℕ) → pieces c (bs ++ more) ≡ onto_piece bs (pieces c more)
uncut c [] e more = sym (onto_nothing c more)
uncut c (b ∷ bs) e more =
    elim (b == c) as (λ t. suc (length bs) ≤ cond (not t) (1 + position_or_len (is c) bs) 0 → cond t ([] ∷ pieces c (bs ++ more)) (onto_first b (pieces c (bs ++ more))) ≡ onto_piece (b ∷ bs) (pieces c more)) [
      | true ↦ λ h. absurd (omega arith)
      | false ↦ λ h. ap (onto_first b) (uncut c bs (omega arith) more) ∙ onto (pieces c more)
    ] e where
      onto : (ps : List (List ℕ)) → onto_first b (onto_piece bs ps) ≡ onto_piece (b ∷ bs) ps
      onto [] = refl
      onto (p ∷ ps) = refl

one_more : (n : ℕ) → 1 + n ≡ suc n
one_more n = omega arith

cut : (c : ℕ) (bs : List ℕ) → position_or_len (is c) bs < length bs → (more : List ℕ)
    → pieces c (bs ++ more) ≡ take (position_or_len (is c) bs) bs ∷ pieces c (drop (position_or_len (is c) bs + 1) bs ++ more)
cut c [] e more = absurd (omega arith)
cut c (b ∷ bs) e more =
    elim (b == c) as (λ t. cond (not t) (1 + position_or_len (is c) bs) 0 < suc (length bs)
    → cond t ([] ∷ pieces c (bs ++ more)) (onto_first b (pieces c (bs ++ more))) ≡ take (cond (not t) (1 + position_or_len (is c) bs) 0) (b ∷ bs) ∷ pieces c (drop (cond (not t) (1 + position_or_len (is c) bs) 0 + 1) (b ∷ bs) ++ more)) [
      | true ↦ λ h. refl
      | false ↦ λ h. rw (one_more (position_or_len (is c) bs), add-one (suc (position_or_len (is c) bs)))
          (ap (onto_first b) (cut c bs (omega arith) more) ∙ ap (λ (n : ℕ). (b ∷ take (position_or_len (is c) bs) bs) ∷ pieces c (drop n bs ++ more)) (add-one (position_or_len (is c) bs)))
    ] e

-- no separator: the text stands before the first piece of what follows
pub at_none : (c : ℕ) (bs : List ℕ) → None ≡ position (λ b. b == c) bs → (more : List ℕ) → pieces c (bs ++ more) ≡ onto_piece bs (pieces c more)
at_none c bs none more = uncut c bs (past (nat_lt (position_or_len (is c) bs) (length bs)) refl none) more where
  past : (t : Bool) → nat_lt (position_or_len (is c) bs) (length bs) ≡ t → None ≡ cond t (Some (position_or_len (is c) bs)) None → length bs ≤ position_or_len (is c) bs
  past true e h = cc
  past false e h = grind (arith, nat_tests)

-- the first separator ends the first piece
pub at_some : (c : ℕ) (bs : List ℕ) (i : ℕ) → Some i ≡ position (λ b. b == c) bs → (i < length bs) × ((more : List ℕ) → pieces c (bs ++ more) ≡ take i bs ∷ pieces c (drop (i + 1) bs ++ more))
at_some c bs i some = at (nat_lt (position_or_len (is c) bs) (length bs)) refl some where
  at : (t : Bool) → nat_lt (position_or_len (is c) bs) (length bs) ≡ t → Some i ≡ cond t (Some (position_or_len (is c) bs)) None
      → (i < length bs) × ((more : List ℕ) → pieces c (bs ++ more) ≡ take i bs ∷ pieces c (drop (i + 1) bs ++ more))
  at true e h =
      let below : position_or_len (is c) bs < length bs = grind (arith, nat_tests) in
      let same : position_or_len (is c) bs ≡ i = cc in
      (omega arith, λ more. cut c bs below more ∙ ap (λ (k : ℕ). take k bs ∷ pieces c (drop (k + 1) bs ++ more)) same)
  at false e h = cc

pub whole_none : (c : ℕ) (bs : List ℕ) → None ≡ position (λ b. b == c) bs → pieces c bs ≡ bs ∷ []
whole_none c bs none = ap (pieces c) (sym (append-nil bs)) ∙ at_none c bs none [] ∙ ap (λ (x : List ℕ). x ∷ []) (append-nil bs)

pub whole_some : (c : ℕ) (bs : List ℕ) (i : ℕ) → Some i ≡ position (λ b. b == c) bs → pieces c bs ≡ take i bs ∷ pieces c (drop (i + 1) bs)
whole_some c bs i some =
    let at = at_some c bs i some in
    ap (pieces c) (sym (append-nil bs)) ∙ at.1 [] ∙ ap (λ (x : List ℕ). take i bs ∷ pieces c x) (append-nil (drop (i + 1) bs))

-- one byte more is one piece more where it is a separator
pub count_more : (c b : ℕ) (bs : List ℕ) → length (pieces c (b ∷ bs)) ≡ cond (b == c) 1 0 + length (pieces c bs)
count_more c b bs = elim (b == c) as (λ t. length (cond t ([] ∷ pieces c bs) (onto_first b (pieces c bs))) ≡ cond t 1 0 + length (pieces c bs)) [
  | true ↦ omega arith
  | false ↦
      let p = first_piece c bs in
      let same : length (onto_first b (pieces c bs)) ≡ length (pieces c bs) = ap (λ (ps : List (List ℕ)). length (onto_first b ps)) p.2 ∙ sym (ap (λ (ps : List (List ℕ)). length ps) p.2) in
      omega (arith, same)
]

-- there are at most as many separators as bytes
pub few_pieces : (c : ℕ) (bs : List ℕ) → length (pieces c bs) ≤ suc (length bs)
few_pieces c [] = omega arith
few_pieces c (b ∷ bs) =
    let one : cond (b == c) 1 0 ≤ 1 = elim (b == c) as (λ t. cond t 1 0 ≤ 1) [ true ↦ omega arith | false ↦ omega arith ] in
    omega (arith, count_more c b bs, few_pieces c bs, one)

-- a text with one byte more at its end ends with that byte
pub last_is : (c : ℕ) (front : List ℕ) (last : ℕ) → before_last c (front ++ (last ∷ [])) ≡ cond (last == c) (Some front) None
last_is c [] last = refl
last_is c (x ∷ []) last = elim (last == c) as (λ t. option_map (λ (text : List ℕ). x ∷ text) (cond t (Some []) None) ≡ cond t (Some (x ∷ [])) None) [ true ↦ refl | false ↦ refl ]
last_is c (x ∷ y ∷ ys) last =
    ap (option_map (λ (text : List ℕ). x ∷ text)) (last_is c (y ∷ ys) last)
    ∙ elim (last == c) as (λ t. option_map (λ (text : List ℕ). x ∷ text) (cond t (Some (y ∷ ys)) None) ≡ cond t (Some (x ∷ y ∷ ys)) None) [ true ↦ refl | false ↦ refl ]

-- what stands before the byte at a text's end
pub front_is : (c : ℕ) (xs front : List ℕ) → before_last c xs ≡ Some front → xs ≡ front ++ (c ∷ [])
front_is c [] front e = cc
front_is c (x ∷ []) front e = elim (x == c) as (λ t. (x == c) ≡ t → cond t (Some []) None ≡ Some front → x ∷ [] ≡ front ++ (c ∷ [])) [
  | true ↦ λ t h. let byte : x ≡ c = eqb-true x c t in let same : [] ≡ front = cc in (λ i. same i ++ (byte i ∷ []))
  | false ↦ λ t h. cc
] refl e
front_is c (x ∷ y ∷ ys) front e = inner (before_last c (y ∷ ys)) (λ text h. front_is c (y ∷ ys) text h) e where
  inner : (o : Option (List ℕ)) → ((text : List ℕ) → o ≡ Some text → y ∷ ys ≡ text ++ (c ∷ [])) → option_map (λ (text : List ℕ). x ∷ text) o ≡ Some front → x ∷ y ∷ ys ≡ front ++ (c ∷ [])
  inner None rest h = cc
  inner (Some text) rest h =
      let same : x ∷ text ≡ front = cc in
      ap (λ (f : List ℕ). x ∷ f) (rest text refl) ∙ ap (λ (f : List ℕ). f ++ (c ∷ [])) same

-- the text that is kept where the byte at its end is left out
pub front_kept : (c : ℕ) (xs front : List ℕ) → Some front ≡ before_last c xs → take (length front) xs ≡ text_or (before_last c xs) xs
front_kept c xs front e = ap (take (length front)) (front_is c xs front (sym e)) ∙ take_at front (c ∷ []) (length front) refl ∙ ap (λ (o : Option (List ℕ)). text_or o xs) e

pub same_byte : (a b : ℕ) → a ≡ b → (a == b) ≡ true
same_byte a b e = grind (arith, nat_tests)

pub other_byte : (a b : ℕ) → (a ≡ b → ⊥) → (a == b) ≡ false
other_byte a b apart = elim (a == b) as (λ t. (a == b) ≡ t → t ≡ false) [
  | true ↦ λ t. absurd (apart (eqb-true a b t))
  | false ↦ λ t. refl
] refl
