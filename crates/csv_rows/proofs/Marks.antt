-- A byte order mark is at the head of a text or isn't, as soon as three bytes of it are known.
use Rattle.std.specs.Prelude.{◌≡◌, ℕ, ◌≤◌, true, false, cond, ◌==◌, List, [], ◌∷◌, ◌++◌, length, drop, Option, Some, None, option_and_then}
use Rattle.std.proofs.Common.{refl, arith}
use Rattle.csv_rows.specs.Line.{text_or, after_mark, unmarked}
use Rattle.table_model.specs.Pieces.{without}

-- the rest of the mark, after its first byte was sought, and after its second was
abbrev second : Option (List ℕ) → Option (List ℕ)
second found = option_and_then (without 191) (option_and_then (without 187) found)

abbrev third : Option (List ℕ) → Option (List ℕ)
third found = option_and_then (without 191) found

pub mark_more : (text more : List ℕ) → 3 ≤ length text → unmarked (text ++ more) ≡ unmarked text ++ more
mark_more [] more h = absurd (omega arith)
mark_more (a ∷ []) more h = absurd (omega arith)
mark_more (a ∷ b ∷ []) more h = absurd (omega arith)
mark_more (a ∷ b ∷ c ∷ text) more h =
    elim (a == 239) as (λ t. text_or (second (cond t (Some (b ∷ c ∷ (text ++ more))) None)) (a ∷ b ∷ c ∷ (text ++ more)) ≡ text_or (second (cond t (Some (b ∷ c ∷ text)) None)) (a ∷ b ∷ c ∷ text) ++ more) [
      | true ↦ elim (b == 187) as (λ t. text_or (third (cond t (Some (c ∷ (text ++ more))) None)) (a ∷ b ∷ c ∷ (text ++ more)) ≡ text_or (third (cond t (Some (c ∷ text)) None)) (a ∷ b ∷ c ∷ text) ++ more) [
        | true ↦ elim (c == 191) as (λ t. text_or (cond t (Some (text ++ more)) None) (a ∷ b ∷ c ∷ (text ++ more)) ≡ text_or (cond t (Some text) None) (a ∷ b ∷ c ∷ text) ++ more) [ true ↦ refl | false ↦ refl ]
        | false ↦ refl
      ]
      | false ↦ refl
    ]

pub mark_some : (text rest : List ℕ) → after_mark text ≡ Some rest → (drop 3 text ≡ rest) × (3 ≤ length text)
mark_some [] rest e = cc
mark_some (a ∷ []) rest e = elim (a == 239) as (λ t. second (cond t (Some []) None) ≡ Some rest → (drop 3 (a ∷ []) ≡ rest) × (3 ≤ length (a ∷ []))) [ true ↦ λ h. cc | false ↦ λ h. cc ] e
mark_some (a ∷ b ∷ []) rest e =
    elim (a == 239) as (λ t. second (cond t (Some (b ∷ [])) None) ≡ Some rest → (drop 3 (a ∷ b ∷ []) ≡ rest) × (3 ≤ length (a ∷ b ∷ []))) [
      | true ↦ λ h. elim (b == 187) as (λ t. third (cond t (Some []) None) ≡ Some rest → (drop 3 (a ∷ b ∷ []) ≡ rest) × (3 ≤ length (a ∷ b ∷ []))) [ true ↦ λ g. cc | false ↦ λ g. cc ] h
      | false ↦ λ h. cc
    ] e
mark_some (a ∷ b ∷ c ∷ text) rest e =
    elim (a == 239) as (λ t. second (cond t (Some (b ∷ c ∷ text)) None) ≡ Some rest → (text ≡ rest) × (3 ≤ length (a ∷ b ∷ c ∷ text))) [
      | true ↦ λ h. elim (b == 187) as (λ t. third (cond t (Some (c ∷ text)) None) ≡ Some rest → (text ≡ rest) × (3 ≤ length (a ∷ b ∷ c ∷ text))) [
        | true ↦ λ g. elim (c == 191) as (λ t. cond t (Some text) None ≡ Some rest → (text ≡ rest) × (3 ≤ length (a ∷ b ∷ c ∷ text))) [
          | true ↦ λ f. (cc, omega arith)
          | false ↦ λ f. cc
        ] g
        | false ↦ λ g. cc
      ] h
      | false ↦ λ h. cc
    ] e
