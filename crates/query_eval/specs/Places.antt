-- Places of groups by their keys, and of the rows of a vector by their groups.
use Rattle.std.specs.Prelude.{◌≡◌, ℕ, ◌==◌, ◌+◌, ◌<◌, ◌≤◌, Bool, true, cond, ◌&&◌, ◌||◌, List, [], ◌∷◌, map, length, slice_index_or, Some, None, ℤ, pos}
use Rattle.std.specs.List.{list_any, range_with_len}
use Rattle.query_eval.specs.Entries.{Entries, place_in}
use Rattle.std.specs.Option.{is_some}
use Rattle.table_model.specs.Group.{key_of}
use Rattle.table_model.specs.State.{Cells, same_cells}
use Rattle.table_model.specs.Values.{present}
use Rattle.transpose_order.specs.Mask.{has}
use Rattle.query_eval.specs.Bits.{AreBits}
use Rattle.query_eval.specs.Vector.{Vector, row_at}
use Rattle.query_eval.specs.declared.grouping.places.Places.{Places}
use Rattle.query_eval.specs.declared.grouping.places.Recent.{Recent}

-- the rows of a mask below k, in order
abbrev pub rows_below : ℕ → Vector → List Bool → List Cells
rows_below k v mask = present (map (λ n. cond (has mask n) (Some (row_at v n)) None) (range_with_len 0 k))

-- the rows of a mask below k that have a place, in order
abbrev pub rows_placed : ℕ → Vector → List Bool → List ℕ → ℕ → List Cells
rows_placed k v mask places place = present (map (λ n. cond (has mask n && (slice_index_or places n 0 == place)) (Some (row_at v n)) None) (range_with_len 0 k))

-- the places are those below the number of keys, no two keys have the same, and what is remembered of values and null is so
pub record IsIndex (places : Places) : Type 0 where
  pub below : (key : Cells) (place : ℕ) → place_in places.index.entries key ≡ Some place → place < length places.index.entries
  pub apart : (key other : Cells) (place : ℕ) → place_in places.index.entries key ≡ Some place → place_in places.index.entries other ≡ Some place → key ≡ other
  pub recent : (i : ℕ) (recent : Recent) → slice_index_or places.recent.items i None ≡ Some recent → place_in places.index.entries (Some recent.value ∷ []) ≡ Some recent.place
  pub null : (place : ℕ) → places.null ≡ Some place → place_in places.index.entries (None ∷ []) ≡ Some place

-- some keys more: those that had a place keep it, and those that come have new ones
pub record IsGrown (old new : Entries) : Type 0 where
  pub kept : (key : Cells) (place : ℕ) → place_in old key ≡ Some place → place_in new key ≡ Some place
  pub fresh : (key : Cells) (place : ℕ) → place_in old key ≡ None → place_in new key ≡ Some place → length old ≤ place
  pub longer : length old ≤ length new

-- a key has a place, and no other key comes
pub record IsTakenIn (key : Cells) (place : ℕ) (old new : Entries) : Type 0 where
  pub grown : IsGrown old new
  pub now : place_in new key ≡ Some place
  pub occurs : (other : Cells) → is_some (place_in new other) ≡ (is_some (place_in old other) || same_cells other key)

-- the rows of a mask below k have the places of their keys, and no other key comes
pub record ArePlaced (k : ℕ) (by : List ℕ) (v : Vector) (mask : List Bool) (old new : Entries) (places : List ℕ) : Type 0 where
  pub grown : IsGrown old new
  pub placed : (n : ℕ) → n < k → has mask n ≡ true → place_in new (key_of by (row_at v n)) ≡ Some (slice_index_or places n 0)
  pub occurs : (key : Cells) → is_some (place_in new key) ≡ (is_some (place_in old key) || list_any (same_cells key) (map (key_of by) (rows_below k v mask)))

-- decoded values, but for the nulls, are the keys of a vector's rows of a mask
abbrev pub AreKeyCells : List ℕ → Vector → List Bool → List Bool → List ℤ → Type 0
AreKeyCells by v mask nulls values = (n : ℕ) → n < 1024 → has mask n ≡ true → cond (has nulls n) None (Some (slice_index_or values n (pos 0))) ∷ [] ≡ key_of by (row_at v n)

-- the rows of a mask have the places of their keys, which are decoded values but for the nulls
abbrev pub PlacesCells : List Bool → List ℤ → List Bool → Places → Places → List ℕ → Type 0
PlacesCells nulls values mask old new out = (by : List ℕ) (v : Vector) → AreKeyCells by v mask nulls values → IsIndex old → ArePlaced 1024 by v mask old.index.entries new.index.entries out

-- the rows of a word of a mask have the places of their keys too, which are decoded values but for those of a word of nulls
abbrev pub PlacesWord : List ℤ → ℕ → ℕ → ℕ → Places → Places → List ℕ → List ℕ → Type 0
PlacesWord values word nulls first old new before after = (by : List ℕ) (v : Vector) (mask null_rows : List Bool) (start : Entries) → AreKeyCells by v mask null_rows values → AreBits 64 word mask first → AreBits 64 nulls null_rows first → IsIndex old → ArePlaced first by v mask start old.index.entries before → ArePlaced (first + 64) by v mask start new.index.entries after
