-- Keys with the places of their groups.
use Rattle.std.specs.Prelude.{ℕ, List, Option}
use Rattle.std.specs.Map.{lookup}
use Rattle.table_model.specs.State.{Cells, same_cells}
use Rattle.query_eval.specs.declared.hash_key.HashKey.{HashKey}

-- keys with the places of their groups, in any order
abbrev pub Entries : Type 0
Entries = List (Cells × ℕ)

-- an index as contracts see it: keys with the places of their groups, and the key of the hashes that find them
pub record Indexed : Type 0 where
  pub entries : Entries
  pub hash_key : HashKey

-- the place of a key's group, if it has one
abbrev pub place_in : Entries → Cells → Option ℕ
place_in entries key = lookup (same_cells key) entries
