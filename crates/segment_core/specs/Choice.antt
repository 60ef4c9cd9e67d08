-- The canonical choice: of the four least forms of 1024 values, the one of fewest bytes.
use Rattle.std.specs.Prelude.{ℕ, ◌<◌, ◌≤◌, nat_lt, cond, ℤ, List}
use Rattle.segment_core.specs.Coded.{least_form, payload_bytes}
use Rattle.segment_core.specs.declared.coding.Coding.{Coding}
use Rattle.segment_core.specs.declared.coding.Coding.TheVariants.{For, Delta, Runs, Dict}
use Rattle.segment_core.specs.declared.coded.Coded.{Coded}

-- the bytes of the least form that a coding has of 1024 values
abbrev pub least_bytes : ℕ → List ℤ → Coding → ℕ
least_bytes t values coding = payload_bytes (least_form coding t values)

-- a later coding where it takes fewer bytes, else the earlier one
abbrev pub fewer : (Coding → ℕ) → Coding → Coding → Coding
fewer bytes earlier later = cond (nat_lt (bytes later) (bytes earlier)) later earlier

-- the coding of fewest bytes; of several, the first in the order FOR, DELTA, RLE, DICT
unfoldable pub first_fewest : (Coding → ℕ) → Coding
first_fewest bytes = fewer bytes (fewer bytes (fewer bytes For Delta) Runs) Dict

-- the coding that is chosen for 1024 values at a lane width
unfoldable pub choice : ℕ → List ℤ → Coding
choice t values = first_fewest (least_bytes t values)

-- the canonical form of 1024 values at a lane width
abbrev pub canonical_form : ℕ → List ℤ → Coded
canonical_form t values = least_form (choice t values) t values

-- a coding's place in the order in which ties are settled
abbrev pub place_in_order : Coding → ℕ
place_in_order For = 0
place_in_order Delta = 1
place_in_order Runs = 2
place_in_order Dict = 3

-- no coding takes fewer bytes, and each one before takes more
pub record IsFirstFewest (bytes : Coding → ℕ) (chosen : Coding) : Type 0 where
  pub fewest : (other : Coding) → bytes chosen ≤ bytes other
  pub first : (other : Coding) → place_in_order other < place_in_order chosen → bytes chosen < bytes other
