-- Texts joined by commas are the first and then each with a comma before it.
use Rattle.std.specs.Prelude.{◌≡◌, ℕ, List, [], ◌∷◌, ◌++◌, map, Option, Some, None, Result, Ok, Err, OnOk, OnErr, IfErr}
use Rattle.std.specs.List.{flat_map}
use Rattle.std.specs.Io.KnownBytes.{Appends}
use Rattle.std.proofs.Common.{sym, ap, ◌∙◌, append-nil, append_assoc, subst}
use Rattle.table_model.specs.Answer.{joined, line_of}
use Rattle.table_model.specs.Counted.{one_more}
use Rattle.table_model.specs.Faults.{AppendsFront}
use Rattle.table_model.specs.declared.refusal.Refusal.{Refusal}
use Rattle.table_model.specs.declared.refusal.Refusal.TheVariants.{WriteFault}
use Rattle.csv_rows.specs.Written.{WritesText}

-- a text with a comma before it
abbrev pub comma : {X : Type 0} → (X → List ℕ) → X → List ℕ
comma f x = 44 ∷ f x

joined_first : {X : Type 0} (f : X → List ℕ) (x : X) (xs : List X) → joined (f x ∷ map f xs) ≡ f x ++ flat_map (comma f) xs
joined_first f x [] = sym (append-nil (f x))
joined_first f x (y ∷ ys) = ap (λ (rest : List ℕ). f x ++ (44 ∷ rest)) (joined_first f y ys)

-- a line that is written piece by piece
pub line_written : {X : Type 0} (f : X → List ℕ) (all : List X) (x : X) (xs : List X) (old one more done : List ℕ)
    → all ≡ x ∷ xs → one ≡ old ++ f x → more ≡ one ++ flat_map (comma f) xs → done ≡ more ++ (10 ∷ []) → done ≡ old ++ line_of (map f all)
line_written {X = X} f all x xs old one more done at first rest last =
    last
    ∙ ap (λ (t : List ℕ). t ++ (10 ∷ [])) (rest ∙ ap (λ (t : List ℕ). t ++ flat_map (comma f) xs) first ∙ append_assoc old (f x) (flat_map (comma f) xs) ∙ ap (λ (t : List ℕ). old ++ t) (sym (joined_first f x xs)))
    ∙ append_assoc old (joined (f x ∷ map f xs)) (10 ∷ [])
    ∙ ap (λ (ys : List X). old ++ line_of (map f ys)) (sym at)

-- nothing was written
pub appends_none : (known : Option (List ℕ)) → Appends known known []
appends_none None = tt
appends_none (Some xs) = sym (append-nil xs)

-- what a call wrote whole, or in part
pub wrote : (r : Result (Unit {0}) Refusal) (old new : Option (List ℕ)) (before after : ℕ) (text written : List ℕ) → written ≡ text → OnOk r (Appends old new written) → OnErr r (AppendsFront old new written)
    → OnOk r (after ≡ before) → IfErr r (λ e. (e ≡ WriteFault) × (after ≡ one_more before)) → WritesText r old new before after text
wrote (Ok done) old new before after text written is all front kept fault = (subst (λ (t : List ℕ). Appends old new t) is all, kept)
wrote (Err e) old new before after text written is all front kept fault =
    subst (λ (refusal : Refusal). WritesText (Err refusal) old new before after text) (sym fault.0) (subst (λ (t : List ℕ). AppendsFront old new t) is front, fault.1)
