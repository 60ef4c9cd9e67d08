-- A text that is put piece by piece.
use Rattle.std.proofs.Common.{◌≡◌, ◌∙◌, ◌++◌, ℕ, List, ap, append_assoc}

pub four_pieces : (out e f g a t b j : List ℕ) → e ≡ out ++ a → f ≡ e ++ t → g ≡ f ++ b → g ++ j ≡ out ++ (a ++ (t ++ (b ++ j)))
four_pieces out e f g a t b j first second third =
    ap (λ (x : List ℕ). x ++ j) (third ∙ ap (λ (x : List ℕ). x ++ b) (second ∙ ap (λ (x : List ℕ). x ++ t) first))
    ∙ append_assoc ((out ++ a) ++ t) b j
    ∙ append_assoc (out ++ a) t (b ++ j)
    ∙ append_assoc out a (t ++ (b ++ j))
