-- Vectors with a mask each: their rows one after another, and how many they are.
use Rattle.std.proofs.Common.{◌≡◌, ℕ, zero, suc, ◌+◌, ◌<◌, ◌≤◌, Bool, true, false, not, get_or, take, List, [], ◌∷◌, ◌++◌, map, filter, length, Option, Some, None, count_by, sum_by, refl, sym, ap, ◌∙◌, arith, append_assoc, append-nil}
use Rattle.std.specs.FinSet as set
use Rattle.std.specs.List.{All, flat_map}
use Rattle.std.proofs.lemmas.Grind.{flat_map-append}
use Rattle.std.proofs.lemmas.List.{length-append, take_more}
use Rattle.std.proofs.lemmas.List.Elements.{All-append}
use Rattle.std.proofs.lemmas.List.Sums.{sum_by-cons, length-filter, count_by-le-length}
use Rattle.table_model.specs.Formula.{Formula}
use Rattle.table_model.specs.Group.{cell, state_row_limit}
use Rattle.table_model.specs.Meaning.{at_row, is_kept}
use Rattle.table_model.specs.State.{State, Cells, named_rows, live_rows}
use Rattle.table_model.specs.Table.{Table}
use Rattle.table_model.specs.declared.names.RowName.{RowName}
use Rattle.query_eval.specs.Vector.{IsWithin, IsThere, cell_at, vector_of}
use Rattle.query_eval.specs.declared.filter.kept_rows.KeptVector.{KeptVector}
use Rattle.query_eval.specs.declared.columns.VectorId.{VectorId}
use Rattle.query_eval.proofs.ColumnLemmas.{length-masked}
use Rattle.live_columns.specs.Chosen.{AreThere, IsMasked, cells_in, kept_in, named_at, picked, rows_in, rows_where}
use Rattle.live_columns.proofs.Picked.{picked-map}

-- the cells of a column at the rows of a vector
pub cells-kept : (s : State) (column : ℕ) (kept : KeptVector) → cells_in column (kept_in s kept) ≡ picked kept.rows (cell_at (vector_of s kept.id) column)
unfolding kept_in
cells-kept s column kept = sym (picked-map (λ (row : RowName × Cells). cell row.1 column) kept.rows (named_at s kept.id) (cell_at (vector_of s kept.id) column) (λ n l. refl))

-- as many as the mask has
pub length-kept : (s : State) (kept : KeptVector) → length kept.rows ≡ 1024 → length (kept_in s kept) ≡ count_by (λ row. row) kept.rows
unfolding kept_in
length-kept s kept long = length-masked kept.rows (named_at s kept.id) long

-- one vector more
pub rows-push : (s : State) (vectors : List KeptVector) (kept : KeptVector) → rows_in s (vectors ++ kept ∷ []) ≡ rows_in s vectors ++ kept_in s kept
rows-push s vectors kept = flat_map-append (kept_in s) vectors (kept ∷ []) ∙ ap (λ l. rows_in s vectors ++ l) (append-nil (kept_in s kept))

pub rows-counted : (s : State) (vectors : List KeptVector) → AreThere s vectors → sum_by (λ kept. count_by (λ row. row) kept.rows) vectors ≡ length (rows_in s vectors)
rows-counted s [] h = refl
rows-counted s (kept ∷ vectors) h =
    omega (
      arith,
      sum_by-cons (λ (k : KeptVector). count_by (λ row. row) k.rows) kept vectors,
      rows-counted s vectors (λ k d l. h (suc k) d (omega (arith, l))),
      length-kept s kept (h 0 kept (omega arith)).mask,
      length-append (kept_in s kept) (rows_in s vectors),
    )

-- one vector more is there
pub there-push : (s : State) (vectors : List KeptVector) (kept : KeptVector) → IsMasked s kept → AreThere s vectors → AreThere s (vectors ++ kept ∷ [])
there-push s vectors kept one h = All-append (IsMasked s) vectors (kept ∷ []) h (alone one)
  where
    alone : IsMasked s kept → (k : ℕ) (d : KeptVector) → k < length (kept ∷ []) → IsMasked s (get_or (kept ∷ []) k d)
    alone is zero d l = is
    alone is (suc k) d l = absurd (omega (arith, l))

-- the rows of the first vectors, one vector more
pub rows-more : (s : State) (vectors : List KeptVector) (i : ℕ) (kept : KeptVector) → i < length vectors → kept ≡ get_or vectors i kept → rows_in s (take (i + 1) vectors) ≡ rows_in s (take i vectors) ++ kept_in s kept
rows-more s vectors i kept l is =
    ap (rows_in s) (take_more vectors i kept l) ∙ rows-push s (take i vectors) (get_or vectors i kept) ∙ ap (λ (k : KeptVector). rows_in s (take i vectors) ++ kept_in s k) (sym is)
