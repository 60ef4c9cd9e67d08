-- Places in order, and what came behind a part of a buffer.
use Rattle.std.specs.Prelude.{◌≡◌, ℕ, zero, suc, ◌+◌, ◌≤◌, List, [], ◌∷◌, ◌++◌, length, take, drop}
use Rattle.std.specs.List.{range_with_len}
use Rattle.std.proofs.Common.{sym, ap, ◌∙◌, arith}
use Rattle.std.proofs.Math.Seq.{take-add}
use Rattle.std.proofs.lemmas.List.{drop-append-le, length-take, take_at}

pub range_more : (a m : ℕ) → range_with_len a m ++ ((a + m) ∷ []) ≡ range_with_len a (m + 1)
range_more a zero = let same : a + 0 ≡ a = omega arith in ap (λ (n : ℕ). n ∷ []) same
range_more a (suc m) =
    let same : a + suc m ≡ a + 1 + m = omega arith in
    let one : suc m + 1 ≡ suc (m + 1) = omega arith in
    ap (λ (n : ℕ). a ∷ (range_with_len (a + 1) m ++ (n ∷ []))) same ∙ ap (λ (ns : List ℕ). a ∷ ns) (range_more (a + 1) m) ∙ ap (range_with_len a) (sym one)

-- a chunk was read behind what wasn't taken yet
pub pending_more : (old new : List ℕ) (from to count : ℕ) → take to new ≡ take to old → from ≤ to → to ≤ length new → drop from (take (to + count) new) ≡ drop from (take to old) ++ take count (drop to new)
pending_more old new from to count same within there =
    let long : from ≤ length (take to new) = omega (arith, length-take to new) in
    ap (drop from) (take-add to count new)
    ∙ drop-append-le from (take to new) (take count (drop to new)) long
    ∙ ap (λ (xs : List ℕ). drop from xs ++ take count (drop to new)) same

-- the same of a buffer that was written whole
pub refilled : (old new : List ℕ) (from to count len : ℕ) → length new ≡ len → take to new ≡ take to old → from ≤ to → to ≤ len
    → drop from (take (to + count) (take len (new ++ drop (length new) old))) ≡ drop from (take to old) ++ take count (drop to new)
refilled old new from to count len whole same within there =
    ap (λ (xs : List ℕ). drop from (take (to + count) xs)) (take_at new (drop (length new) old) len whole) ∙ pending_more old new from to count same within (omega (arith, whole))
