-- What a comparison of bytes has seen, and what it says of the text that was written to it.
use Rattle.std.proofs.Common.{◌≡◌, ℕ, zero, suc, ◌+◌, ◌-◌, ◌<◌, ◌≤◌, Bool, true, false, cond, ◌&&◌, eqb, List, [], ◌∷◌, ◌++◌, length, get_or, take, drop, Option, Some, None, is_some, refl, sym, ap, subst, ◌∙◌, append_assoc, arith}
use Rattle.std.proofs.Math.Seq.{take-add, take-append_seam, drop-append_seam}
use Rattle.std.proofs.lemmas.Bool.{eqb-true, eq-eqb, lt-ltb, le-ltb}
use Rattle.std.proofs.lemmas.Bool.Decides.{nat_tests}
use Rattle.std.proofs.lemmas.List.{append-nil, length-append, length-take-le, length-drop, drop-drop, take_more}
use Rattle.std.proofs.Math.Bool.{and-true, and-false}
use Rattle.column_file.specs.Comparing.{other_byte, came, IsCompared, has_differed, told}
use Rattle.column_file.specs.Files.{first_difference}

pub less_is_other : (m k : ℕ) → m < k → eqb m k ≡ false
less_is_other m k less = grind (arith, nat_tests)

pub none_left : (xs : List ℕ) → first_difference xs [] ≡ 0
none_left [] = refl
none_left (x ∷ xs) = refl

-- the first place that differs is inside both texts
pub inside_first : (a b : List ℕ) → first_difference a b ≤ length a
inside_first [] b = omega arith
inside_first (x ∷ xs) [] = omega arith
inside_first (x ∷ xs) (y ∷ ys) = go (eqb x y) (inside_first xs ys)
  where
    go : (t : Bool) → first_difference xs ys ≤ length xs → cond t (suc (first_difference xs ys)) 0 ≤ suc (length xs)
    go true h = omega (arith, h)
    go false h = omega arith

pub inside_second : (a b : List ℕ) → first_difference a b ≤ length b
inside_second [] b = omega arith
inside_second (x ∷ xs) [] = omega arith
inside_second (x ∷ xs) (y ∷ ys) = go (eqb x y) (inside_second xs ys)
  where
    go : (t : Bool) → first_difference xs ys ≤ length ys → cond t (suc (first_difference xs ys)) 0 ≤ suc (length ys)
    go true h = omega (arith, h)
    go false h = omega arith

-- up to there both texts are the same
pub same_front : (a b : List ℕ) → take (first_difference a b) a ≡ take (first_difference a b) b
same_front [] b = refl
same_front (x ∷ xs) [] = refl
same_front (x ∷ xs) (y ∷ ys) =
    elim (eqb x y) as (λ t. eqb x y ≡ t → take (cond t (suc (first_difference xs ys)) 0) (x ∷ xs) ≡ take (cond t (suc (first_difference xs ys)) 0) (y ∷ ys)) [
      | true ↦ λ tied. let first = eqb-true x y tied in let rest = same_front xs ys in λ i. first i ∷ rest i
      | false ↦ λ tied. refl
    ] refl

-- and the byte that stands there in the second one is another
pub other_there : (a b : List ℕ) (d : ℕ) → first_difference a b < length b → first_difference (drop (first_difference a b) a) (get_or b (first_difference a b) d ∷ []) ≡ 0
other_there [] b d below = refl
other_there (x ∷ xs) [] d below = absurd (omega (arith, below))
other_there (x ∷ xs) (y ∷ ys) d below =
    elim (eqb x y) as (λ t. eqb x y ≡ t → cond t (suc (first_difference xs ys)) 0 < suc (length ys) → first_difference (drop (cond t (suc (first_difference xs ys)) 0) (x ∷ xs)) (get_or (y ∷ ys) (cond t (suc (first_difference xs ys)) 0) d ∷ []) ≡ 0) [
      | true ↦ λ tied less. other_there xs ys d (omega (arith, less))
      | false ↦ λ tied less. ap (λ (t : Bool). cond t (suc (first_difference xs [])) 0) tied
    ] refl below

-- what stands before the same front doesn't matter
pub after_front : (a b : List ℕ) (n : ℕ) → n ≤ length a → first_difference a (take n a ++ b) ≡ n + first_difference (drop n a) b
after_front a b zero inside = let e : 0 + first_difference a b ≡ first_difference a b = omega arith in sym e
after_front [] b (suc n) inside = absurd (omega (arith, inside))
after_front (x ∷ xs) b (suc n) inside =
    let h = after_front xs b n (omega (arith, inside)) in
    let e : cond (eqb x x) (suc (first_difference xs (take n xs ++ b))) 0 ≡ suc (first_difference xs (take n xs ++ b)) = ap (λ (t : Bool). cond t (suc (first_difference xs (take n xs ++ b))) 0) (eq-eqb x x refl) in
    e ∙ (let s : suc (first_difference xs (take n xs ++ b)) ≡ suc n + first_difference (drop n xs) b = omega (arith, h) in s)

-- more after a text that differs changes no place
pub more_after : (a b c : List ℕ) → first_difference a b < length b → first_difference a (b ++ c) ≡ first_difference a b
more_after [] b c below = refl
more_after (x ∷ xs) [] c below = absurd (omega (arith, below))
more_after (x ∷ xs) (y ∷ ys) c below =
    elim (eqb x y) as (λ t. eqb x y ≡ t → cond t (suc (first_difference xs ys)) 0 < suc (length ys) → cond t (suc (first_difference xs (ys ++ c))) 0 ≡ cond t (suc (first_difference xs ys)) 0) [
      | true ↦ λ tied less. ap suc (more_after xs ys c (omega (arith, less)))
      | false ↦ λ tied less. refl
    ] refl below

-- ---- what has come

pub place_is : (expected : List ℕ) (same : ℕ) (other : Option ℕ) → IsCompared expected same other → same ≡ first_difference expected (came expected same other)
place_is expected same other is =
    let inside = is.inside in
    let h = after_front expected (other_byte other) same inside in
    let zero_there = is.differs in
    omega (arith, h, zero_there)

pub came_long : (expected : List ℕ) (same : ℕ) (other : Option ℕ) → IsCompared expected same other → length (came expected same other) ≡ same + length (other_byte other)
came_long expected same other is = length-append (take same expected) (other_byte other) ∙ ap (λ (n : ℕ). n + length (other_byte other)) (length-take-le same expected (is.inside))

pub nothing_came : (expected : List ℕ) → IsCompared expected 0 None
nothing_came expected = record { inside = omega arith; differs = none_left (drop 0 expected) }

-- what is expected came
pub goes_on_same : (expected piece : List ℕ) (same : ℕ) → IsCompared expected same None → IsCompared expected (same + first_difference (drop same expected) piece) None
goes_on_same expected piece same is =
    let inside = is.inside in
    let h = inside_first (drop same expected) piece in
    let l = length-drop same expected in
    record { inside = omega (arith, inside, h, l); differs = none_left (drop (same + first_difference (drop same expected) piece) expected) }

-- another byte came
pub goes_on_other : (expected piece : List ℕ) (same d : ℕ) → IsCompared expected same None → first_difference (drop same expected) piece < length piece
    → IsCompared expected (same + first_difference (drop same expected) piece) (Some (get_or piece (first_difference (drop same expected) piece) d))
goes_on_other expected piece same d is below =
    let before = goes_on_same expected piece same is in
    let count = first_difference (drop same expected) piece in
    record {
      inside = before.inside;
      differs = ap (λ (xs : List ℕ). first_difference xs (get_or piece count d ∷ [])) (sym (drop-drop count same expected)) ∙ other_there (drop same expected) piece d below;
    }

pub came_same : (expected piece : List ℕ) (same : ℕ) → came expected (same + first_difference (drop same expected) piece) None ≡ came expected same None ++ take (first_difference (drop same expected) piece) piece
came_same expected piece same =
    let count = first_difference (drop same expected) piece in
    append-nil (take (same + count) expected) ∙ take-add same count expected
    ∙ (λ i. sym (append-nil (take same expected)) i ++ same_front (drop same expected) piece i)

pub came_other : (expected piece : List ℕ) (same d : ℕ) → first_difference (drop same expected) piece < length piece
    → came expected (same + first_difference (drop same expected) piece) (Some (get_or piece (first_difference (drop same expected) piece) d)) ≡ came expected same None ++ take (first_difference (drop same expected) piece + 1) piece
came_other expected piece same d below =
    let count = first_difference (drop same expected) piece in
    ap (λ (xs : List ℕ). xs ++ get_or piece count d ∷ []) (sym (append-nil (take (same + count) expected)) ∙ came_same expected piece same)
    ∙ append_assoc (came expected same None) (take count piece) (get_or piece count d ∷ [])
    ∙ ap (λ (xs : List ℕ). came expected same None ++ xs) (sym (take_more piece count d below))

-- ---- whether another byte came

pub none_here : (other : Option ℕ) (b : Bool) → b ≡ is_some other → b ≡ false → other ≡ None
none_here None b is test = refl
none_here (Some x) b is test = absurd cc

pub whole_is : (expected : List ℕ) (same : ℕ) (other : Option ℕ) (b : Bool) → IsCompared expected same other → b ≡ is_some other → b ≡ false
    → eqb same (length expected) ≡ (eqb (first_difference expected (came expected same other)) (length expected) && eqb (first_difference expected (came expected same other)) (length (came expected same other)))
whole_is expected same (Some x) b is tells test = absurd cc
whole_is expected same None b is tells test =
    let place = place_is expected same None is in
    let long = came_long expected same None is in
    let end : eqb (first_difference expected (came expected same None)) (length (came expected same None)) ≡ true = eq-eqb _ _ (omega (arith, place, long)) in
    ap (λ (n : ℕ). eqb n (length expected)) place ∙ sym (and-true (eqb (first_difference expected (came expected same None)) (length expected)))
    ∙ ap (λ (t : Bool). eqb (first_difference expected (came expected same None)) (length expected) && t) (sym end)

pub not_whole : (expected : List ℕ) (same : ℕ) (other : Option ℕ) (b : Bool) → IsCompared expected same other → b ≡ is_some other → b ≡ true
    → false ≡ (eqb (first_difference expected (came expected same other)) (length expected) && eqb (first_difference expected (came expected same other)) (length (came expected same other)))
not_whole expected same None b is tells test = absurd cc
not_whole expected same (Some x) b is tells test =
    let place = place_is expected same (Some x) is in
    let long = came_long expected same (Some x) is in
    let past : first_difference expected (came expected same (Some x)) < length (came expected same (Some x)) = omega (arith, place, long) in
    sym (and-false (eqb (first_difference expected (came expected same (Some x))) (length expected)))
    ∙ ap (λ (t : Bool). eqb (first_difference expected (came expected same (Some x))) (length expected) && t) (sym (less_is_other _ _ past))

-- it has differed exactly where a byte came that wasn't expected
pub differed_is : (expected : List ℕ) (same : ℕ) (other : Option ℕ) (b : Bool) → IsCompared expected same other → b ≡ is_some other → b ≡ has_differed (expected, came expected same other)
differed_is expected same None b is tells =
    let place = place_is expected same None is in
    let long = came_long expected same None is in
    tells ∙ sym (le-ltb (first_difference expected (came expected same None)) (length (came expected same None)) (omega (arith, place, long)))
differed_is expected same (Some x) b is tells =
    let place = place_is expected same (Some x) is in
    let long = came_long expected same (Some x) is in
    tells ∙ sym (lt-ltb (first_difference expected (came expected same (Some x))) (length (came expected same (Some x))) (omega (arith, place, long)))

-- contents that grow by what came
pub told_more : (expected before after piece : List ℕ) → after ≡ before ++ piece → told (expected, after) ≡ told (expected, before) ++ piece
told_more expected before after piece is =
    ap (λ (xs : List ℕ). length expected ∷ (expected ++ xs)) is ∙ ap (λ (xs : List ℕ). length expected ∷ xs) (sym (append_assoc expected before piece))

-- how far a write goes, from what is left then
pub place_moved : (expected next rest piece : List ℕ) (same count : ℕ) (other : Option ℕ) → IsCompared expected same other → length next + same ≡ length expected → count ≡ first_difference next piece → length rest + count ≡ length next
    → length expected - length rest ≡ same + count
place_moved expected next rest piece same count other is long found left =
    let inside = is.inside in
    let most = inside_first next piece in
    omega (arith, inside, most, long, found, left)

-- one write: another byte came
pub other_came : (expected piece next : List ℕ) (same count new d : ℕ) (other : Option ℕ) → IsCompared expected same other → other ≡ None → next ≡ drop same expected → count ≡ first_difference next piece → new ≡ same + count → count < length piece
    → IsCompared expected new (Some (get_or piece count d)) × (told (expected, came expected new (Some (get_or piece count d))) ≡ told (expected, came expected same other) ++ take (count + 1) piece)
other_came expected piece next same count new d other is none back found moved below =
    let n : ℕ = first_difference (drop same expected) piece in
    let e : count ≡ n = found ∙ ap (λ (xs : List ℕ). first_difference xs piece) back in
    let m : new ≡ same + n = moved ∙ ap (λ (k : ℕ). same + k) e in
    let less : n < length piece = omega (arith, e, below) in
    let Start : Option ℕ → Type 0 = λ o. IsCompared expected same o in
    let start : IsCompared expected same None = subst Start none is in
    let P : ℕ → ℕ → Option ℕ → Type 0 = λ k c o. IsCompared expected k (Some (get_or piece c d)) × (told (expected, came expected k (Some (get_or piece c d))) ≡ told (expected, came expected same o) ++ take (c + 1) piece) in
    let base : P (same + n) n None = (goes_on_other expected piece same d start less, told_more expected (came expected same None) (came expected (same + n) (Some (get_or piece n d))) (take (n + 1) piece) (came_other expected piece same d less)) in
    let A : ℕ → Type 0 = λ k. P k n None in
    let B : ℕ → Type 0 = λ c. P new c None in
    let C : Option ℕ → Type 0 = λ o. P new count o in
    subst C (sym none) (subst B (sym e) (subst A (sym m) base))

-- one write: all of the piece was expected
pub same_came : (expected piece next : List ℕ) (same count new : ℕ) (other : Option ℕ) → IsCompared expected same other → other ≡ None → next ≡ drop same expected → count ≡ first_difference next piece → new ≡ same + count
    → IsCompared expected new other × (told (expected, came expected new other) ≡ told (expected, came expected same other) ++ take count piece)
same_came expected piece next same count new other is none back found moved =
    let n : ℕ = first_difference (drop same expected) piece in
    let e : count ≡ n = found ∙ ap (λ (xs : List ℕ). first_difference xs piece) back in
    let m : new ≡ same + n = moved ∙ ap (λ (k : ℕ). same + k) e in
    let Start : Option ℕ → Type 0 = λ o. IsCompared expected same o in
    let start : IsCompared expected same None = subst Start none is in
    let P : ℕ → ℕ → Option ℕ → Type 0 = λ k c o. IsCompared expected k o × (told (expected, came expected k o) ≡ told (expected, came expected same o) ++ take c piece) in
    let base : P (same + n) n None = (goes_on_same expected piece same start, told_more expected (came expected same None) (came expected (same + n) None) (take n piece) (came_same expected piece same)) in
    let A : ℕ → Type 0 = λ k. P k n None in
    let B : ℕ → Type 0 = λ c. P new c None in
    let C : Option ℕ → Type 0 = λ o. P new count o in
    subst C (sym none) (subst B (sym e) (subst A (sym m) base))

-- contents tell what was expected, and what came
pub told_apart : (c : List ℕ × List ℕ) (expected text : List ℕ) → told c ≡ told (expected, []) ++ text → (c.0 ≡ expected) × (c.1 ≡ text)
told_apart c expected text is =
    let flat : told (expected, []) ++ text ≡ length expected ∷ (expected ++ text) = ap (λ (xs : List ℕ). length expected ∷ (xs ++ text)) (append-nil expected) in
    let whole : told c ≡ length expected ∷ (expected ++ text) = is ∙ flat in
    let long : length c.0 ≡ length expected = ap (λ (xs : List ℕ). get_or xs 0 0) whole in
    let rest : c.0 ++ c.1 ≡ expected ++ text = ap (drop 1) whole in (
      sym (take-append_seam c.0 c.1) ∙ (λ i. take (long i) (rest i)) ∙ take-append_seam expected text,
      sym (drop-append_seam c.0 c.1) ∙ (λ i. drop (long i) (rest i)) ∙ drop-append_seam expected text,
    )
