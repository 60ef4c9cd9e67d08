-- A write changes the number at its place, and no other.
use Rattle.std.proofs.Common.{◌≡◌, ◌≢◌, ℕ, ◌<◌, List, map, length, get_or, set, ap, ◌∙◌, arith}
use Rattle.std.proofs.lemmas.List.{map-set, get_or-set_same, get_or-set_other, length-map}

pub written_there : {X : Type 0} → (number : X → ℕ) (xs : List X) (i k : ℕ) (a : X) (n : ℕ) → k ≡ i → i < length xs → number a ≡ n → get_or (map number (set xs i a)) k 0 ≡ n
written_there number xs i k a n e h is =
    ap (λ ys. get_or ys k 0) (map-set number xs i a) ∙ ap (λ j. get_or (set (map number xs) i (number a)) j 0) e
    ∙ get_or-set_same (map number xs) i (number a) 0 (omega (arith, length-map xs number)) ∙ is

pub written_elsewhere : {X : Type 0} → (number : X → ℕ) (xs : List X) (i k : ℕ) (a : X) → k ≢ i → get_or (map number (set xs i a)) k 0 ≡ get_or (map number xs) k 0
written_elsewhere number xs i k a apart =
    ap (λ ys. get_or ys k 0) (map-set number xs i a) ∙ get_or-set_other (map number xs) i k (number a) 0 apart
