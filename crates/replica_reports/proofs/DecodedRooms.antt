-- A cell that is decoded, and one column more of a vector.
use Rattle.std.specs.Prelude.{◌≡◌, ℕ, ◌+◌, ◌<◌, ◌≤◌, Bool, cond, List, [], ◌∷◌, ◌++◌, length, Option, Some, None, ℤ, pos}
use Rattle.std.proofs.Common.{sym, ap, ◌∙◌, get_or, set, take}
use Rattle.std.proofs.lemmas.List.{map-append, take_more, take_more_set, take_all}
use Rattle.table_model.specs.Answer.{whole}
use Rattle.table_model.specs.Condition.{is_null}
use Rattle.table_model.specs.Group.{cell}
use Rattle.table_model.specs.State.{State, Cells}
use Rattle.transpose_order.specs.Mask.{has, rows_of}
use Rattle.transpose_order.specs.MaskWords.{has-rows_of}
use Rattle.query_eval.specs.Vector.{cell_at, row_at, vector_of}
use Rattle.query_eval.specs.declared.columns.VectorId.{VectorId}
use Rattle.live_columns.specs.Columns.{number_at}
use Rattle.replica_reports.specs.DumpRooms.{room_cell, room_cells}
use Rattle.replica_reports.specs.Dumps.{cells_at}
use Rattle.replica_reports.specs.declared.dump_rooms.ColumnRoom.{ColumnRoom}

-- the first rooms have the cells of the first columns
abbrev pub AreDecoded : State → VectorId → List ℕ → ℕ → List ColumnRoom → Type 0
AreDecoded s id places i rooms = (n : ℕ) → n < 1024 → room_cells (take i rooms) n ≡ cells_at (take i places) (row_at (vector_of s id) n)

pub rooms_more : (s r : State) (id : VectorId) (places : List ℕ) (rooms : List ColumnRoom) (room : ColumnRoom) (i : ℕ) → r ≡ s → i < length rooms → i < length places
    → ((n : ℕ) → n < 1024 → room_cell room n ≡ cell_at (vector_of r id) (get_or places i 0) n) → AreDecoded s id places i rooms → AreDecoded s id places (i + 1) (set rooms i room)
rooms_more s r id places rooms room i same l m here before = λ n k.
    let row : Cells = row_at (vector_of s id) n in
    let front : Cells = room_cells (take i rooms) n in
    ap (λ (x : List ColumnRoom). room_cells x n) (take_more_set rooms i room l)
    ∙ map-append (λ (x : ColumnRoom). room_cell x n) (take i rooms) (room ∷ [])
    ∙ ap (λ c. front ++ c ∷ []) (here n k ∙ ap (λ (x : State). cell_at (vector_of x id) (get_or places i 0) n) same)
    ∙ ap (λ (x : Cells). x ++ cell row (get_or places i 0) ∷ []) (before n k)
    ∙ sym (ap (cells_at_row row) (take_more places i 0 m) ∙ map-append (cell row) (take i places) (get_or places i 0 ∷ []))
  where
    cells_at_row : Cells → List ℕ → Cells
    cells_at_row row x = cells_at x row

pub rooms_all : (s : State) (id : VectorId) (places : List ℕ) (rooms : List ColumnRoom) (i : ℕ) → length places ≤ i → length rooms ≤ i → AreDecoded s id places i rooms → (n : ℕ) → n < 1024 → room_cells rooms n ≡ cells_at places (row_at (vector_of s id) n)
rooms_all s id places rooms i l m h = λ n k.
    sym (ap (λ (x : List ColumnRoom). room_cells x n) (take_all i rooms m)) ∙ h n k ∙ ap (λ (x : List ℕ). cells_at x (row_at (vector_of s id) n)) (take_all i places l)

-- ---- one cell

cell_is : (o : Option ℤ) (b : Bool) (z : ℤ) → b ≡ is_null (whole o) → z ≡ number_at o → cond b None (Some z) ≡ o
cell_is None b z null number = ap (λ (t : Bool). cond t None (Some z)) null
cell_is (Some y) b z null number = ap (λ (t : Bool). cond t None (Some z)) null ∙ ap (λ (x : ℤ). let found : Option ℤ = Some x in found) number

-- a number and whether it is null are the cell that they were decoded of
pub room_of : (room : ColumnRoom) (cells : ℕ → Option ℤ) → ((n : ℕ) → n < 1024 → get_or room.numbers n (pos 0) ≡ number_at (cells n)) → room.nulls ≡ rows_of (λ n. is_null (whole (cells n))) → (n : ℕ) → n < 1024 → room_cell room n ≡ cells n
room_of room cells numbers nulls = λ n l.
    cell_is (cells n) (has room.nulls n) (get_or room.numbers n (pos 0)) (ap (λ (m : List Bool). has m n) nulls ∙ has-rows_of (λ k. is_null (whole (cells k))) n l) (numbers n l)
