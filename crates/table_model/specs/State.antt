-- A table's state: which rows each batch has, and which rows are deleted.
use Rattle.std.specs.Prelude.{◌≡◌, ℕ, suc, Bool, true, false, ◌&&◌, not, List, [], ◌∷◌, ◌++◌, filter, Option, Some, None, ℤ, refl}
use Rattle.std.specs.List.{flat_map}
use Rattle.std.specs.Coded.{Coded, code_by, coded×, coded_list, coded_option, coded_ℤ}
use Rattle.std.specs.Ordering.{int_eq}
use Rattle.std.specs.FinMap as map
use Rattle.std.specs.FinSet as set
use Rattle.table_model.specs.Name.{name_cmp, row_name_cmp, coded_name, coded_row_name}
use Rattle.table_model.specs.declared.names.BatchName.{BatchName}
use Rattle.table_model.specs.declared.names.RowName.{RowName}

-- a row: for each column a whole number, or null
abbrev pub Cells : Type 0
Cells = List (Option ℤ)

-- the rows of a batch, in order of ordinal
abbrev pub Batch : Type 0
Batch = List Cells

-- a batch by the codes of its cells
abbrev pub coded_batch : Coded Batch
coded_batch = coded_list (coded_list (coded_option coded_ℤ))

-- whether two cells are the same
abbrev pub same_cell : Option ℤ → Option ℤ → Bool
same_cell None None = true
same_cell None (Some y) = false
same_cell (Some x) None = false
same_cell (Some x) (Some y) = int_eq x y

-- whether two rows are the same, cell for cell
abbrev pub same_cells : Cells → Cells → Bool
same_cells [] [] = true
same_cells [] (y ∷ ys) = false
same_cells (x ∷ xs) [] = false
same_cells (x ∷ xs) (y ∷ ys) = same_cell x y && same_cells xs ys

-- whether two lists of rows are the same, row for row
abbrev pub same_rows : Batch → Batch → Bool
same_rows [] [] = true
same_rows [] (y ∷ ys) = false
same_rows (x ∷ xs) [] = false
same_rows (x ∷ xs) (y ∷ ys) = same_cells x y && same_rows xs ys

-- the rows of each batch, and the names of deleted rows; a deleted name need not be a row of a batch that is there
pub record State : Type 0 where
  pub batches : map.FinMap name_cmp Batch
  pub deleted : set.FinSet row_name_cmp

-- a state by its map and its set
abbrev pub coded_state : Coded State
coded_state = code_by (map.FinMap name_cmp Batch × set.FinSet row_name_cmp) (coded× (map.code coded_name coded_batch) (set.code coded_row_name)) (λ s. (s.batches, s.deleted)) (λ p. record { batches = p.0; deleted = p.1 }) (λ _. refl)

-- the state with no batch and no deletion
abbrev pub empty_state : State
empty_state = record { batches = map.empty; deleted = set.empty }

-- two states agree where each batch name in both has the same rows
abbrev pub Agree : State → State → Type 0
Agree s t = (name : BatchName) (a b : Batch) → map.get s.batches name ≡ Some a → map.get t.batches name ≡ Some b → a ≡ b

-- what either map has; where both have a name, what the first has there
unfoldable pub union_of : {X : Type 0} → map.FinMap name_cmp X → map.FinMap name_cmp X → map.FinMap name_cmp X
union_of m n = map.from_entries (map.entries m ++ map.entries n)

-- the join of two states that agree: all batches of both, and all deletions of both
abbrev pub join : State → State → State
join s t = record { batches = union_of s.batches t.batches; deleted = set.union s.deleted t.deleted }

-- the rows of a batch with their names, the first having the ordinal n
abbrev pub named_from : BatchName → ℕ → Batch → List (RowName × Cells)
named_from name n [] = []
named_from name n (row ∷ rows) = let named : RowName × Cells = (record { batch = name; ordinal = n }, row) in named ∷ named_from name (suc n) rows

-- all rows of all batches, in ascending order of row name
abbrev pub named_rows : State → List (RowName × Cells)
named_rows s = flat_map (λ (e : BatchName × Batch). named_from e.0 0 e.1) (map.entries s.batches)

-- the live rows: those whose names aren't deleted, in ascending order of row name
unfoldable pub live_rows : State → List (RowName × Cells)
live_rows s = filter (λ (r : RowName × Cells). not (set.contains s.deleted r.0)) (named_rows s)

-- to join is the same in both orders, in both bracketings, and a second time
pub record JoinLaws : Type 0 where
  pub commutative : (s t : State) → Agree s t → join s t ≡ join t s
  pub associative : (s t u : State) → join (join s t) u ≡ join s (join t u)
  pub idempotent : (s : State) → join s s ≡ s
  pub again : (s t : State) → join (join s t) t ≡ join s t
  pub agree : (s t : State) → Agree s t → Agree (join s t) t
