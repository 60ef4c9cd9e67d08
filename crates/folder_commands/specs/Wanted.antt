-- Which names of a folder are read as parts, and which of these go once a part has taken their place.
use Rattle.std.specs.Prelude.{ℕ, Bool, not, ◌&&◌, List, filter}
use Rattle.std.specs.List.{list_any}
use Rattle.table_model.specs.Identifier.{same_text}
use Rattle.folder_parts.specs.PartName.{is_part_name}

-- whether the file of a name is read as a part: parts have such names, and it is not to be passed over
unfoldable pub is_wanted : List (List ℕ) → List ℕ → Bool
is_wanted passed name = is_part_name name && not (list_any (λ other. same_text other name) passed)

-- the names that are wanted among these, in the same order
abbrev pub wanted_of : List (List ℕ) → List (List ℕ) → List (List ℕ)
wanted_of passed names = filter (is_wanted passed) names

-- whether the part of a name goes once another one has taken its place
abbrev pub goes : List (List ℕ) → List ℕ → List ℕ → Bool
goes passed new name = is_wanted passed name && not (same_text name new)
