-- Texts joined by commas are the first and then each with a comma before it; rows are their lines one after another.
use Rattle.std.specs.Prelude.{◌≡◌, ℕ, ◌-◌, ◌^◌, ◌<◌, ◌≤◌, List, [], ◌∷◌, ◌++◌, map, length, drop, replicate}
use Rattle.std.specs.List.{flat_map}
use Rattle.std.specs.Fmt.{decimal}
use Rattle.std.proofs.Common.{refl, sym, ap, ◌∙◌, append-nil, append_assoc, arith}
use Rattle.std.proofs.lemmas.Fmt.{length-decimal-le}
use Rattle.std.proofs.lemmas.List.{drop-replicate}
use Rattle.table_model.specs.Answer.{joined, line_of, rows_text, field_text}
use Rattle.table_model.specs.declared.answer.Field.{Field}

-- a text with a comma before it
abbrev pub comma : {X : Type 0} → (X → List ℕ) → X → List ℕ
comma f x = 44 ∷ f x

joined_first : {X : Type 0} (f : X → List ℕ) (x : X) (xs : List X) → joined (f x ∷ map f xs) ≡ f x ++ flat_map (comma f) xs
joined_first f x [] = sym (append-nil (f x))
joined_first f x (y ∷ ys) = ap (λ (rest : List ℕ). f x ++ (44 ∷ rest)) (joined_first f y ys)

-- the line of a row
abbrev pub row_line : List Field → List ℕ
row_line row = line_of (map field_text row)

pub rows_lines : (rows : List (List Field)) → rows_text rows ≡ flat_map row_line rows
rows_lines [] = refl
rows_lines (row ∷ rows) = ap (λ (rest : List ℕ). row_line row ++ rest) (rows_lines rows)

-- a number below a million has at most six digits
pub at_most_six : (n : ℕ) → n < 10 ^ 6 → length (decimal n) ≤ 6
at_most_six n small = length-decimal-le 6 n (omega arith) small (omega arith)

pub zeros : (n : ℕ) → drop {A = ℕ} n (48 ∷ 48 ∷ 48 ∷ 48 ∷ 48 ∷ 48 ∷ []) ≡ replicate {A = ℕ} (6 - n) 48
zeros n = drop-replicate {X = ℕ} n 6 48

-- a line that is written piece by piece
pub line_written : {X : Type 0} (f : X → List ℕ) (all : List X) (x : X) (xs : List X) (old one more done : List ℕ)
    → all ≡ x ∷ xs → one ≡ old ++ f x → more ≡ one ++ flat_map (comma f) xs → done ≡ more ++ (10 ∷ []) → done ≡ old ++ line_of (map f all)
line_written {X = X} f all x xs old one more done at first rest last =
    last
    ∙ ap (λ (t : List ℕ). t ++ (10 ∷ [])) (rest ∙ ap (λ (t : List ℕ). t ++ flat_map (comma f) xs) first ∙ append_assoc old (f x) (flat_map (comma f) xs) ∙ ap (λ (t : List ℕ). old ++ t) (sym (joined_first f x xs)))
    ∙ append_assoc old (joined (f x ∷ map f xs)) (10 ∷ [])
    ∙ ap (λ (ys : List X). old ++ line_of (map f ys)) (sym at)
