-- What parts hold together that were read one after another.
use Rattle.std.specs.Prelude.{◌≡◌, ℕ, List, ◌∷◌, reverse, Ok}
use Rattle.replica_store.specs.Replica.{Replica}
use Rattle.replica_changes.specs.Commands.{merged_files}

-- what was joined of the files that were taken, of which the newest is told first
abbrev pub IsJoinOf : Replica → List (List ℕ) → Type 0
IsJoinOf held taken = (first : List ℕ) × (others : List (List ℕ)) × (taken ≡ reverse (first ∷ others)) × (merged_files first others ≡ Ok held)
