-- A list that a loop writes, one number after another.
use Rattle.std.proofs.Common.{◌≡◌, ℕ, ◌+◌, ◌<◌, ◌≤◌, List, length, set, get_or, ◌∙◌, arith, below_more}
use Rattle.std.proofs.lemmas.List.{get_or-set_same, get_or-set_other}

-- one more number is written
pub set_more : (f : ℕ → ℕ) (old : List ℕ) (i x : ℕ) → i < length old → ((k : ℕ) → k < i → get_or old k 0 ≡ f k) → x ≡ f i → (k : ℕ) → k < i + 1 → get_or (set old i x) k 0 ≡ f k
set_more f old i x h done is =
    below_more (λ (k : ℕ). get_or (set old i x) k 0 ≡ f k) i
    (λ k before. get_or-set_other old i k x 0 (λ e. omega (arith, e)) ∙ done k before)
    (get_or-set_same old i x 0 h ∙ is)

-- those after it stay
pub set_rest : (g : ℕ → ℕ) (old : List ℕ) (i x : ℕ) → ((k : ℕ) → i ≤ k → get_or old k 0 ≡ g k) → (k : ℕ) → i + 1 ≤ k → get_or (set old i x) k 0 ≡ g k
set_rest g old i x rest k h = get_or-set_other old i k x 0 (λ e. omega (arith, e)) ∙ rest k (omega arith)
