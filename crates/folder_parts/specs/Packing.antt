-- Which parts are packed, and which of these are removed.
use Rattle.std.specs.Prelude.{ℕ, ◌*◌, ◌-◌, ◌≤◌, ◌<◌, Bool, not, ◌&&◌, List, length, get_or, take}
use Rattle.std.specs.List.{list_any, sum}
use Rattle.table_model.specs.Identifier.{same_text}

-- the part at a place has at most a seventh of the bytes of those before it together
abbrev pub IsSmall : List ℕ → ℕ → Type 0
IsSmall sizes at = 7 * get_or sizes at 0 ≤ sum (take at sizes)

-- a number of parts are packed: the last of them is small compared with those before it, and no part after them is
pub record IsPackedPrefix (sizes : List ℕ) (count : ℕ) : Type 0 where
  pub bound : count ≤ length sizes
  pub last : 0 < count → IsSmall sizes (count - 1)
  pub greatest : (at : ℕ) → count ≤ at → at < length sizes → IsSmall sizes at → ⊥

-- whether a part is removed after a pack: it was joined, and it isn't the pack itself
unfoldable pub is_removed : List (List ℕ) → List ℕ → List ℕ → Bool
is_removed joined pack name = not (same_text name pack) && list_any (λ other. same_text other name) joined
