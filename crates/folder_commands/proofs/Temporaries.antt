-- The name of a temporary is no part's, since it begins with a point and a part's begins with a digit.
use Rattle.std.specs.Prelude.{◌≡◌, ℕ, true, List, [], ◌∷◌, ◌++◌, length, take, drop, codes}
use Rattle.std.proofs.Common.{refl, sym, ap, subst, ◌∙◌, arith}
use Rattle.std.specs.Str.{bytes_eq}
use Rattle.std.proofs.lemmas.Bool.{and_parts}
use Rattle.std.proofs.lemmas.List.{take-append-drop}
use Rattle.std.proofs.lemmas.Slice.Eq.{bytes_eq-Decides}
use Rattle.folder_model.specs.Parts.{IsNoPart}
use Rattle.folder_protocol.specs.Temporary.{is_temporary, are_digits}
use Rattle.folder_parts.specs.Covers.{folder_parts}
use Rattle.folder_parts.proofs.PartNames.{begins_otherwise}

pub no_temporary : (name : List ℕ) → is_temporary name ≡ true → IsNoPart folder_parts name
unfolding is_temporary
no_temporary name is =
    let start = (bytes_eq-Decides (take 6 name) (codes ".part-")).0 (and_parts (bytes_eq (take 6 name) (codes ".part-")) (are_digits (drop 6 name)) is).0 in
    let whole : codes ".part-" ++ drop 6 name ≡ name = ap (λ (l : List ℕ). l ++ drop 6 name) (sym start) ∙ take-append-drop 6 name in
    subst (IsNoPart folder_parts) whole (begins_otherwise 46 (codes "part-" ++ drop 6 name) refl)
