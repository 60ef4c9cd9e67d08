-- A text is cut at the first such byte, which is where std finds it; its pieces begin with what stands before that.
use Rattle.std.specs.Prelude.{◌≡◌, ◌≢◌, ℕ, suc, ◌+◌, ◌<◌, ◌≤◌, Bool, true, false, cond, not, ◌==◌, List, [], ◌∷◌, length, take, drop, Option, Some, None, option_map, MatchOption}
use Rattle.std.specs.List.{position_or_len, before_first, after_first}
use Rattle.std.proofs.Common.{refl, sym, ap, ◌∙◌, arith, Bor, add-one}
use Rattle.std.proofs.lemmas.Bool.Decides.{nat_tests}
use Rattle.script_lines.specs.Word.{cut, longer}
use Rattle.table_model.specs.Pieces.{pieces, onto_first, without}

-- whether a byte is the separator
abbrev pub is : ℕ → ℕ → Bool
is c b = b == c

pub cut_none : (c : ℕ) (bs : List ℕ) → length bs ≤ position_or_len (is c) bs → cut c bs ≡ None
cut_none c [] e = refl
cut_none c (b ∷ bs) e =
    elim (b == c) as (λ t. suc (length bs) ≤ cond (not t) (1 + position_or_len (is c) bs) 0 → cond t (Some ([], bs)) (option_map (longer b) (cut c bs)) ≡ None) [
      | true ↦ λ h. absurd (omega arith)
      | false ↦ λ h. ap (option_map (longer b)) (cut_none c bs (omega arith))
    ] e

one_more : (n : ℕ) → 1 + n ≡ suc n
one_more n = omega arith

pub cut_some : (c : ℕ) (bs : List ℕ) → position_or_len (is c) bs < length bs → cut c bs ≡ Some (before_first (is c) bs, after_first (is c) bs)
cut_some c [] e = absurd (omega arith)
cut_some c (b ∷ bs) e =
    elim (b == c) as (λ t. cond (not t) (1 + position_or_len (is c) bs) 0 < suc (length bs)
    → cond t (Some ([], bs)) (option_map (longer b) (cut c bs)) ≡ Some (take (cond (not t) (1 + position_or_len (is c) bs) 0) (b ∷ bs), drop (cond (not t) (1 + position_or_len (is c) bs) 0 + 1) (b ∷ bs))) [
      | true ↦ λ h. refl
      | false ↦ λ h. rw (one_more (position_or_len (is c) bs), add-one (suc (position_or_len (is c) bs)))
          (ap (option_map (longer b)) (cut_some c bs (omega arith)) ∙ ap (λ (n : ℕ). Some (b ∷ before_first (is c) bs, drop n bs)) (add-one (position_or_len (is c) bs)))
    ] e

-- what `split_once` answers is the cut
pub cut_from : (c : ℕ) (bs : List ℕ) (r : Option (Bor (List ℕ) × Bor (List ℕ)))
    → MatchOption r (position_or_len (is c) bs ≡ length bs) (λ x. (position_or_len (is c) bs < length bs) × (x.0.now ≡ before_first (is c) bs) × (x.1.now ≡ after_first (is c) bs))
    → option_map (λ (x : Bor (List ℕ) × Bor (List ℕ)). (x.0.now, x.1.now)) r ≡ cut c bs
cut_from c bs None h = sym (cut_none c bs (omega arith))
cut_from c bs (Some x) h = (λ i. Some (h.1 i, h.2 i)) ∙ sym (cut_some c bs h.0)

same_byte : (b c : ℕ) → (b == c) ≡ true → b ≡ c
same_byte b c e = grind (arith, nat_tests)

-- what `strip_prefix` answers follows the byte
pub without_from : (c : ℕ) (bs : List ℕ) (r : Option (Bor (List ℕ))) → MatchOption r ((rest : List ℕ) → bs ≢ c ∷ rest) (λ x. bs ≡ c ∷ x.now) → option_map (λ (x : Bor (List ℕ)). x.now) r ≡ without c bs
without_from c [] None h = refl
without_from c (b ∷ bs) None h =
    elim (b == c) as (λ t. (b == c) ≡ t → None ≡ cond t (Some bs) None) [
      | true ↦ λ t. absurd (h bs (ap (λ (x : ℕ). x ∷ bs) (same_byte b c t)))
      | false ↦ λ t. refl
    ] refl
without_from c bs (Some x) e =
    let itself : (c == c) ≡ true = grind (arith, nat_tests) in
    sym (ap (without c) e ∙ ap (λ (t : Bool). cond t (Some x.now) None) itself)

-- the pieces of a text that is cut, and of one that isn't
abbrev pub pieces_at : ℕ → List ℕ → Option (List ℕ × List ℕ) → List (List ℕ)
pieces_at c text None = text ∷ []
pieces_at c text (Some parts) = parts.0 ∷ pieces c parts.1

pub pieces_cut : (c : ℕ) (text : List ℕ) → pieces c text ≡ pieces_at c text (cut c text)
pieces_cut c [] = refl
pieces_cut c (b ∷ bs) =
    elim (b == c) as (λ t. cond t ([] ∷ pieces c bs) (onto_first b (pieces c bs)) ≡ pieces_at c (b ∷ bs) (cond t (Some ([], bs)) (option_map (longer b) (cut c bs)))) [
      | true ↦ refl
      | false ↦ ap (onto_first b) (pieces_cut c bs) ∙ onto_pieces (cut c bs)
    ] where
      onto_pieces : (o : Option (List ℕ × List ℕ)) → onto_first b (pieces_at c bs o) ≡ pieces_at c (b ∷ bs) (option_map (longer b) o)
      onto_pieces None = refl
      onto_pieces (Some parts) = refl
