-- A longer name is another one.
use Rattle.std.proofs.Common.{◌≡◌, ◌≢◌, ◌<◌, ℕ, List, length, sym, ◌∙◌, ap, subst, arith}

pub longer_is_other : (lock name l n : List ℕ) → length name < length lock → l ≡ lock → n ≡ name → l ≢ n
longer_is_other lock name l n longer is_lock is_name = λ e.
    let same : length lock ≡ length name = ap length (sym is_lock ∙ e ∙ is_name) in
    absurd (omega (arith, longer, same))

-- what holds of some names holds of equal ones
pub along : (P : List ℕ → List ℕ → Type 0) (l m n o : List ℕ) → l ≡ m → n ≡ o → P l n → P m o
along P l m n o first second p = subst (λ (x : List ℕ). P m x) second (subst (λ (x : List ℕ). P x n) first p)
