-- One decoded column more.
use Rattle.std.proofs.Common.{◌≡◌, ℕ, ◌+◌, ◌<◌, List, [], ◌∷◌, ◌++◌, map, length, get_or, take, sym, ap, ◌∙◌}
use Rattle.std.proofs.lemmas.List.{map-append, take_more}

pub shown_more : {X Y Z : Type 0} (f : X → Z) (g : Y → Z) (xs next : List X) (x : X) (ys : List Y) (i : ℕ) (d : Y) → i < length ys → map f xs ≡ map g (take i ys) → next ≡ xs ++ x ∷ [] → f x ≡ g (get_or ys i d) → map f next ≡ map g (take (i + 1) ys)
shown_more f g xs next x ys i d l before is e =
    ap (map f) is ∙ map-append f xs (x ∷ []) ∙ ap (λ zs. zs ++ f x ∷ []) before ∙ ap (λ z. map g (take i ys) ++ z ∷ []) e
    ∙ sym (ap (map g) (take_more ys i d l) ∙ map-append g (take i ys) (get_or ys i d ∷ []))
