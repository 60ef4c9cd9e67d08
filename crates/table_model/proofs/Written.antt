-- Pieces that are written one after another, where a writer tells what it holds.
use Rattle.std.specs.Prelude.{◌≡◌, ◌≢◌, ℕ, Bool, false, cond, ◌&&◌, ◌==◌, not, List, ◌++◌, length, Option, Some, None}
use Rattle.std.specs.Io.KnownBytes.{Appends}
use Rattle.std.proofs.Common.{ap, ◌∙◌, arith, append_assoc}
use Rattle.std.proofs.lemmas.Bool.Decides.{nat_tests}
use Rattle.table_model.specs.Counted.{one_more}

-- one piece after another
pub appends_both : (old mid new : Option (List ℕ)) (xs ys : List ℕ) → Appends old mid xs → Appends mid new ys → Appends old new (xs ++ ys)
appends_both None mid new xs ys h k = tt
appends_both (Some a) None new xs ys h k = absurd h
appends_both (Some a) (Some b) None xs ys h k = absurd k
appends_both (Some a) (Some b) (Some c) xs ys h k = k ∙ ap (λ (x : List ℕ). x ++ ys) h ∙ append_assoc a xs ys

-- a write that takes some of a piece is no failure
pub took_some : (taken n : ℕ) (piece : List ℕ) → taken ≢ 0 → cond (taken == 0 && not (length piece == 0)) (one_more n) n ≡ n
took_some taken n piece some =
    let test : (taken == 0) ≡ false = grind (arith, nat_tests) in
    ap (λ (t : Bool). cond (t && not (length piece == 0)) (one_more n) n) test
