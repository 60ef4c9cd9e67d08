-- One set function more of a group.
use Rattle.std.proofs.Common.{◌≡◌, ℕ, zero, suc, ◌+◌, ◌<◌, List, [], ◌∷◌, ◌++◌, length, map, get_or, take, refl, sym, ap, ◌∙◌, arith}
use Rattle.std.proofs.lemmas.List.{map-append}
use Rattle.partial_answers.specs.PartialAnswer.{Tallies, plus, pluses}
use Rattle.partial_answers.specs.Kept.{tally_in, tallies_in}
use Rattle.partial_answers.specs.Refusing.{kept_kind}
use Rattle.partial_answers.specs.declared.kept.Kept.{Kept}

-- the fronts of two lists of the same length, and one more of each
pub front_more : (xs ys : List Kept) (i : ℕ) (d e : Kept) → i < length xs → i < length ys → pluses (tallies_in (take (suc i) xs)) (tallies_in (take (suc i) ys)) ≡ pluses (tallies_in (take i xs)) (tallies_in (take i ys)) ++ plus (tally_in (get_or xs i d)) (tally_in (get_or ys i e)) ∷ []
front_more [] ys i d e h k = absurd (omega arith)
front_more (x ∷ xs) [] i d e h k = absurd (omega arith)
front_more (x ∷ xs) (y ∷ ys) zero d e h k = refl
front_more (x ∷ xs) (y ∷ ys) (suc i) d e h k = ap (λ (l : Tallies). plus (tally_in x) (tally_in y) ∷ l) (front_more xs ys i d e (omega arith) (omega arith))

pub group_more : (xs ys both next : List Kept) (i : ℕ) (d e kept : Kept) → i < length xs → i < length ys → tallies_in both ≡ pluses (tallies_in (take i xs)) (tallies_in (take i ys)) → tally_in kept ≡ plus (tally_in (get_or xs i d)) (tally_in (get_or ys i e)) → next ≡ both ++ kept ∷ [] → tallies_in next ≡ pluses (tallies_in (take (i + 1) xs)) (tallies_in (take (i + 1) ys))
group_more xs ys both next i d e kept h k before one is =
    let more : suc i ≡ i + 1 = omega arith in
    ap tallies_in is ∙ map-append tally_in both (kept ∷ []) ∙ (λ j. before j ++ one j ∷ []) ∙ sym (front_more xs ys i d e h k)
    ∙ ap (λ n. pluses (tallies_in (take n xs)) (tallies_in (take n ys))) more

kinds_front : (xs : List Kept) (i : ℕ) (d : Kept) → i < length xs → map kept_kind (take (suc i) xs) ≡ map kept_kind (take i xs) ++ kept_kind (get_or xs i d) ∷ []
kinds_front [] i d h = absurd (omega arith)
kinds_front (x ∷ xs) zero d h = refl
kinds_front (x ∷ xs) (suc i) d h = ap (λ (l : List ℕ). kept_kind x ∷ l) (kinds_front xs i d (omega arith))

-- and its kind is that of the first
pub kinds_more : (xs both next : List Kept) (i : ℕ) (d kept : Kept) → i < length xs → map kept_kind both ≡ map kept_kind (take i xs) → kept_kind kept ≡ kept_kind (get_or xs i d) → next ≡ both ++ kept ∷ [] → map kept_kind next ≡ map kept_kind (take (i + 1) xs)
kinds_more xs both next i d kept h before one is =
    let more : suc i ≡ i + 1 = omega arith in
    ap (map kept_kind) is ∙ map-append kept_kind both (kept ∷ []) ∙ (λ j. before j ++ one j ∷ []) ∙ sym (kinds_front xs i d h)
    ∙ ap (λ n. map kept_kind (take n xs)) more
