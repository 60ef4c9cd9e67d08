-- Rows that lie one after another in a list of cells, each told by where it ends.
use Rattle.std.specs.Prelude.{◌≡◌, ℕ, ◌≤◌, List, [], ◌∷◌}
use Rattle.std.specs.List.{slice_range}
use Rattle.table_model.specs.State.{Cells, Batch}

-- the rows from a place among the cells on, each up to its end
abbrev pub rows_from : ℕ → List ℕ → Cells → Batch
rows_from start [] cells = []
rows_from start (end ∷ ends) cells = slice_range cells start end ∷ rows_from end ends cells

-- the ends ascend from a place on, and the last one is the number of cells
abbrev pub AreEnds : ℕ → List ℕ → ℕ → Type 0
AreEnds start [] count = start ≡ count
AreEnds start (end ∷ ends) count = (start ≤ end) × AreEnds end ends count
