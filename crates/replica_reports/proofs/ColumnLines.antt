-- The lines of columns, one after another.
use Rattle.std.proofs.Common.{◌≡◌, ◌∙◌, ℕ, ◌+◌, ◌≤◌, List, [], ◌∷◌, ◌++◌, length, drop, Some, sym, ap, append_assoc, append-nil}
use Rattle.std.specs.Prelude.{slice_get}
use Rattle.std.proofs.lemmas.List.{drop_all}
use Rattle.table_model.specs.Table.{ColumnShape}
use Rattle.replica_store.specs.Segments.{StoreForm}
use Rattle.replica_reports.specs.ColumnFigures.{column_line, column_lines}
use Rattle.replica_reports.proofs.CountedBatches.{drop_at}

-- one line more
pub lines_next : (s : StoreForm) (columns : List ColumnShape) (i : ℕ) (column : ColumnShape) (old new : List (List (List ℕ))) (line : List (List ℕ)) (whole : List (List (List ℕ)))
    → slice_get columns i ≡ Some column → line ≡ column_line s i column → new ≡ old ++ (line ∷ []) → old ++ column_lines s i (drop i columns) ≡ whole → new ++ column_lines s (i + 1) (drop (i + 1) columns) ≡ whole
lines_next s columns i column old new line whole is told pushed before =
    let rest : List (List (List ℕ)) = column_lines s (i + 1) (drop (i + 1) columns) in
    ap (λ (t : List (List (List ℕ))). t ++ rest) pushed
    ∙ append_assoc old (line ∷ []) rest
    ∙ ap (λ (t : List (List ℕ)). old ++ (t ∷ rest)) told
    ∙ ap (λ (left : List ColumnShape). old ++ column_lines s i left) (sym (drop_at columns i column is))
    ∙ before

-- and none is left at the end
pub lines_end : (s : StoreForm) (columns : List ColumnShape) (i : ℕ) (lines whole : List (List (List ℕ))) → length columns ≤ i → lines ++ column_lines s i (drop i columns) ≡ whole → lines ≡ whole
lines_end s columns i lines whole end told = sym (append-nil lines) ∙ ap (λ (left : List ColumnShape). lines ++ column_lines s i left) (sym (drop_all i columns end)) ∙ told
