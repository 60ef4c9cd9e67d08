-- A batch has no fault exactly where it has from 1 to 65,536 rows, and each cell of each row fits.
use Rattle.std.specs.Prelude.{◌≡◌, ℕ, suc, ◌≤◌, true, false, cond, ◌==◌, List, [], ◌∷◌, length, Option, Some, None, ℤ, int_le}
use Rattle.std.proofs.Common.{refl, ap, ◌∙◌, arith}
use Rattle.std.specs.Int.Signed.{le_z_yes}
use Rattle.std.proofs.lemmas.Bool.{and_parts}
use Rattle.std.proofs.lemmas.Bool.Decides.{nat_tests}
use Rattle.std.specs.Bool.{passes}
use Rattle.table_model.specs.State.{Cells, Batch}
use Rattle.table_model.specs.Table.{Table, ColumnShape, least_of, greatest_of, fits, cells_fault, row_fault, first_fault, or_else, Fits, IsRow, AreRows, IsBatch, row_limit}
use Rattle.table_model.specs.declared.refusal.Refusal.TheVariants.{WrongArity, OutOfType}
use Rattle.table_model.proofs.Passed.{true_from_T, both_of}

Fits-fits : (c : ColumnShape) (v : Option ℤ) → fits c v ≡ true → Fits c v
Fits-fits c None e = tt
Fits-fits c (Some z) e =
    let both = and_parts (int_le (least_of c.column_type) z) (int_le z (greatest_of c.column_type)) e in
    (le_z_yes (passes _ both.0), le_z_yes (passes _ both.1))

fits-Fits : (c : ColumnShape) (v : Option ℤ) → Fits c v → fits c v ≡ true
fits-Fits c None h = refl
fits-Fits c (Some z) h = true_from_T _ (both_of _ _ h.0.le h.1.le)

-- a row with one cell for each column, none of them at fault
IsRow-cells : (row column : ℕ) (columns : List ColumnShape) (cells : Cells) → length cells ≡ length columns → cells_fault row column columns cells ≡ None → IsRow columns cells
IsRow-cells row column [] [] same e = tt
IsRow-cells row column [] (v ∷ vs) same e = absurd (omega arith)
IsRow-cells row column (c ∷ cs) [] same e = absurd (omega arith)
IsRow-cells row column (c ∷ cs) (v ∷ vs) same e =
    elim (fits c v) as (λ b. fits c v ≡ b → cond b (cells_fault row (suc column) cs vs) (Some (OutOfType row column)) ≡ None → Fits c v × IsRow cs vs) [
      | true ↦ λ t left. (Fits-fits c v t, IsRow-cells row (suc column) cs vs (omega arith) left)
      | false ↦ λ t left. cc
    ] refl e

cells-IsRow : (row column : ℕ) (columns : List ColumnShape) (cells : Cells) → IsRow columns cells → cells_fault row column columns cells ≡ None
cells-IsRow row column [] [] h = refl
cells-IsRow row column [] (v ∷ vs) h = absurd h
cells-IsRow row column (c ∷ cs) [] h = absurd h
cells-IsRow row column (c ∷ cs) (v ∷ vs) h = ap (λ b. cond b (cells_fault row (suc column) cs vs) (Some (OutOfType row column))) (fits-Fits c v h.0) ∙ cells-IsRow row (suc column) cs vs h.1

-- a row has one cell for each column
pub row_length : (columns : List ColumnShape) (cells : Cells) → IsRow columns cells → length cells ≡ length columns
row_length [] [] h = refl
row_length [] (v ∷ vs) h = absurd h
row_length (c ∷ cs) [] h = absurd h
row_length (c ∷ cs) (v ∷ vs) h = ap suc (row_length cs vs h.1)

IsRow-fault : (columns : List ColumnShape) (row : ℕ) (cells : Cells) → row_fault columns row cells ≡ None → IsRow columns cells
IsRow-fault columns row cells e =
    elim (length cells == length columns) as (λ b. (length cells == length columns) ≡ b → cond b (cells_fault row 0 columns cells) (Some (WrongArity row)) ≡ None → IsRow columns cells) [
      | true ↦ λ same left. IsRow-cells row 0 columns cells (grind (arith, nat_tests)) left
      | false ↦ λ same left. cc
    ] refl e

fault-IsRow : (columns : List ColumnShape) (row : ℕ) (cells : Cells) → IsRow columns cells → row_fault columns row cells ≡ None
fault-IsRow columns row cells h =
    let lengths = row_length columns cells h in
    let same : (length cells == length columns) ≡ true = grind (arith, nat_tests) in
    ap (λ b. cond b (cells_fault row 0 columns cells) (Some (WrongArity row))) same ∙ cells-IsRow row 0 columns cells h

none_first : {X : Type 0} (a b : Option X) → or_else a b ≡ None → (a ≡ None) × (b ≡ None)
none_first None b e = (refl, e)
none_first (Some x) b e = cc

AreRows-fault : (columns : List ColumnShape) (row : ℕ) (rows : Batch) → first_fault columns row rows ≡ None → AreRows columns rows
AreRows-fault columns row [] e = tt
AreRows-fault columns row (cells ∷ rows) e =
    let both = none_first (row_fault columns row cells) (first_fault columns (suc row) rows) e in
    (IsRow-fault columns row cells both.0, AreRows-fault columns (suc row) rows both.1)

fault-AreRows : (columns : List ColumnShape) (row : ℕ) (rows : Batch) → AreRows columns rows → first_fault columns row rows ≡ None
fault-AreRows columns row [] h = refl
fault-AreRows columns row (cells ∷ rows) h = ap (λ o. or_else o (first_fault columns (suc row) rows)) (fault-IsRow columns row cells h.0) ∙ fault-AreRows columns (suc row) rows h.1

pub IsBatch-fault : (table : Table) (rows : Batch) → 1 ≤ length rows → length rows ≤ row_limit → first_fault table.columns 0 rows ≡ None → IsBatch table rows
IsBatch-fault table rows some limit e = record { some = some; limit = limit; rows_fit = AreRows-fault table.columns 0 rows e }

pub fault-IsBatch : (table : Table) (rows : Batch) → IsBatch table rows → first_fault table.columns 0 rows ≡ None
fault-IsBatch table rows h = fault-AreRows table.columns 0 rows h.rows_fit
