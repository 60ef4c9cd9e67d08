-- How a name is seen to be a temporary's.
use Rattle.std.proofs.Common.{◌≡◌, ℕ, Bool, true, false, ◌&&◌, List, length, take, drop, sym, ap, subst, ◌∙◌}
use Rattle.std.specs.Prelude.{codes}
use Rattle.std.specs.Str.{bytes_eq}
use Rattle.folder_protocol.specs.Temporary.{are_digits, is_temporary}

-- it begins so, and ends with digits or not
pub is_by_digits : (name text beginning digits : List ℕ) → text ≡ name → beginning ≡ codes ".part-" → bytes_eq (take (length beginning) text) beginning ≡ true → digits ≡ drop (length beginning) text → are_digits digits ≡ is_temporary name
unfolding is_temporary
is_by_digits name text beginning digits same begins test rest =
    let yes : bytes_eq (take 6 name) (codes ".part-") ≡ true =
    subst (λ (x : List ℕ). bytes_eq (take 6 x) (codes ".part-") ≡ true) same (subst (λ (q : List ℕ). bytes_eq (take (length q) text) q ≡ true) begins test) in
    let left : digits ≡ drop 6 name = rest ∙ ap (λ (q : List ℕ). drop (length q) text) begins ∙ ap (λ (x : List ℕ). drop 6 x) same in
    ap are_digits left ∙ ap (λ (b : Bool). b && are_digits (drop 6 name)) (sym yes)

-- it does not
pub is_none : (name text beginning : List ℕ) → text ≡ name → beginning ≡ codes ".part-" → bytes_eq (take (length beginning) text) beginning ≡ false → false ≡ is_temporary name
unfolding is_temporary
is_none name text beginning same begins test =
    let no : bytes_eq (take 6 name) (codes ".part-") ≡ false =
    subst (λ (x : List ℕ). bytes_eq (take 6 x) (codes ".part-") ≡ false) same (subst (λ (q : List ℕ). bytes_eq (take (length q) text) q ≡ false) begins test) in
    ap (λ (b : Bool). b && are_digits (drop 6 name)) (sym no)
