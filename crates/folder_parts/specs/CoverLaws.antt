-- The laws of covering: it is an order; a pack and a forget cover each file that they were made of; and what covers a file represents all
-- that it represents, so that the file may go.
use Rattle.std.specs.Prelude.{◌≡◌, ◌⊎◌, ◌↔◌, ℕ, true, false, List, [], ◌∷◌, ◌++◌, Ok}
use Rattle.table_model.specs.Operation.{Operation, AreAgreeing}
use Rattle.table_model.specs.Table.{Table}
use Rattle.folder_model.specs.Parts.{IsOrder, IsNoPart}
use Rattle.replica_store.specs.Replica.{Replica}
use Rattle.replica_reports.specs.Held.{held_in}
use Rattle.replica_changes.specs.Commands.{file_of, merged_with}
use Rattle.replica_changes.specs.ForgetFileLaws.{StandsFor}
use Rattle.folder_parts.specs.Covers.{covers, folder_parts, HasAllOf}
use Rattle.folder_parts.specs.FolderLaws.{Joins, IsOneOf}
use Rattle.folder_parts.specs.ForgetFolderLaws.{Forgets, AreAlike}
use Rattle.folder_parts.specs.PartName.{is_part_name}

-- covering in words: a file covers those that are the same, and those of its table of which it has all
abbrev pub CoversTells : Type 0
CoversTells = (file other : List ℕ) → (covers file other ≡ true) ↔ ((file ≡ other) ⊎ HasAllOf file other)

-- the joined file of some files covers each of them
abbrev pub PackCovers : Type 0
PackCovers = (first : List ℕ) (others : List (List ℕ)) (pack : Replica) → Joins first others pack → (file : List ℕ) → IsOneOf file (first ∷ others) → covers (file_of pack) file ≡ true

-- so does what a forget leaves of their join
abbrev pub ForgetCovers : Type 0
ForgetCovers = (first : List ℕ) (others : List (List ℕ)) (left : Replica) → Forgets first others left → (file : List ℕ) → IsOneOf file (first ∷ others) → covers (file_of left) file ≡ true

-- What covers a file represents all that it represents, beside what it represents itself, if names agree over all of it.
abbrev pub CoversStand : Type 0
CoversStand =
    (file other : List ℕ) (table : Table) (ops more : List Operation) →
    covers file other ≡ true → StandsFor file table ops → StandsFor other table more → AreAgreeing (more ++ ops) → StandsFor file table (more ++ ops)

-- If a file is joined to what covers it, rows and answers stay as they are.
abbrev pub CoveredAddsNothing : Type 0
CoveredAddsNothing =
    (file other : List ℕ) (held new : Replica) → covers file other ≡ true → held_in file ≡ Ok held → merged_with held (other ∷ []) ≡ Ok new → AreAlike new held

-- what has a name that parts don't have is no part, whatever its bytes
abbrev pub OthersAreNoParts : Type 0
OthersAreNoParts = (name : List ℕ) → is_part_name name ≡ false → IsNoPart folder_parts name

-- the laws of covering
pub record CoverLaws : Type 0 where
  pub order : IsOrder folder_parts
  pub tells : CoversTells
  pub pack : PackCovers
  pub forget : ForgetCovers
  pub stands : CoversStand
  pub nothing : CoveredAddsNothing
  pub others : OthersAreNoParts
