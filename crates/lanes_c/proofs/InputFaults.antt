-- The first fault of rows, part after part.
use Rattle.std.specs.Prelude.{◌≡◌, ℕ, suc, ◌+◌, ◌<◌, ◌≤◌, Bool, true, false, cond, ◌==◌, List, [], ◌∷◌, ◌++◌, length, Option, Some, None}
use Rattle.std.proofs.Common.{refl, sym, ap, ◌∙◌, arith}
use Rattle.table_model.specs.State.{Batch, Cells}
use Rattle.table_model.specs.Table.{ColumnShape, cells_fault, first_fault, fits, or_else, row_fault}
use Rattle.table_model.specs.declared.refusal.Refusal.{Refusal}
use Rattle.table_model.specs.declared.refusal.Refusal.TheVariants.{OutOfType, WrongArity}
use Rattle.lanes_c.specs.InputColumns.{RowIsBelow, later}

or_else_assoc : (a b d : Option Refusal) → or_else (or_else a b) d ≡ or_else a (or_else b d)
or_else_assoc (Some x) b d = refl
or_else_assoc None b d = refl

-- rows after rows: the fault of the first ones, else that of the others, which come later
pub faults_append : (columns : List ColumnShape) (n m : ℕ) (a b : Batch) → n + length a ≡ m → first_fault columns n (a ++ b) ≡ or_else (first_fault columns n a) (first_fault columns m b)
faults_append columns n m [] b e = let same : n ≡ m = omega (arith, e) in ap (λ (k : ℕ). first_fault columns k b) same
faults_append columns n m (row ∷ a) b e =
    ap (or_else (row_fault columns n row)) (faults_append columns (suc n) m a b (omega (arith, e)))
    ∙ sym (or_else_assoc (row_fault columns n row) (first_fault columns (suc n) a) (first_fault columns m b))

-- ---- rows that come later

-- the same fault of rows that come later, if there is one
abbrev pub later_of : ℕ → Option Refusal → Option Refusal
later_of n None = None
later_of n (Some e) = Some (later n e)

pick_later : (n : ℕ) (b : Bool) (x x' y y' : Option Refusal) → x ≡ later_of n x' → y ≡ later_of n y' → cond b x y ≡ later_of n (cond b x' y')
pick_later n true x x' y y' p q = p
pick_later n false x x' y y' p q = q

or_later : (n : ℕ) (x x' y y' : Option Refusal) → x ≡ later_of n x' → y ≡ later_of n y' → or_else x y ≡ later_of n (or_else x' y')
or_later n x (Some e) y y' p q = ap (λ (o : Option Refusal). or_else o y) p
or_later n x None y y' p q = ap (λ (o : Option Refusal). or_else o y) p ∙ q

cells_later : (n row m column : ℕ) (columns : List ColumnShape) (cells : Cells) → row + n ≡ m → cells_fault m column columns cells ≡ later_of n (cells_fault row column columns cells)
cells_later n row m column [] cells e = refl
cells_later n row m column (d ∷ columns) [] e = refl
cells_later n row m column (d ∷ columns) (v ∷ cells) e =
    let there : Option Refusal = Some (OutOfType m column) in
    let here : Option Refusal = Some (OutOfType row column) in
    pick_later n (fits d v) (cells_fault m (suc column) columns cells) (cells_fault row (suc column) columns cells) there here
    (cells_later n row m (suc column) columns cells e) (ap (λ (k : ℕ). let o : Option Refusal = Some (OutOfType k column) in o) (sym e))

row_later : (n row m : ℕ) (columns : List ColumnShape) (cells : Cells) → row + n ≡ m → row_fault columns m cells ≡ later_of n (row_fault columns row cells)
row_later n row m columns cells e =
    let there : Option Refusal = Some (WrongArity m) in
    let here : Option Refusal = Some (WrongArity row) in
    pick_later n (length cells == length columns) (cells_fault m 0 columns cells) (cells_fault row 0 columns cells) there here
    (cells_later n row m 0 columns cells e) (ap (λ (k : ℕ). let o : Option Refusal = Some (WrongArity k) in o) (sym e))

pub faults_later : (n row m : ℕ) (columns : List ColumnShape) (rows : Batch) → row + n ≡ m → first_fault columns m rows ≡ later_of n (first_fault columns row rows)
faults_later n row m columns [] e = refl
faults_later n row m columns (cells ∷ rows) e =
    or_later n (row_fault columns m cells) (row_fault columns row cells) (first_fault columns (suc m) rows) (first_fault columns (suc row) rows)
    (row_later n row m columns cells e) (faults_later n (suc row) (suc m) columns rows (omega (arith, e)))

-- ---- which row has it

-- the row of a fault is one of the first ones, if there is one
abbrev pub IsBelow : ℕ → Option Refusal → Type 0
IsBelow n None = Unit {0}
IsBelow n (Some e) = RowIsBelow n e

pick_below : (n : ℕ) (b : Bool) (x y : Option Refusal) → IsBelow n x → IsBelow n y → IsBelow n (cond b x y)
pick_below n true x y p q = p
pick_below n false x y p q = q

or_below : (n : ℕ) (x y : Option Refusal) → IsBelow n x → IsBelow n y → IsBelow n (or_else x y)
or_below n (Some e) y p q = p
or_below n None y p q = q

cells_below : (n row column : ℕ) (columns : List ColumnShape) (cells : Cells) → row < n → IsBelow n (cells_fault row column columns cells)
cells_below n row column [] cells h = tt
cells_below n row column (d ∷ columns) [] h = tt
cells_below n row column (d ∷ columns) (v ∷ cells) h =
    let here : Option Refusal = Some (OutOfType row column) in
    pick_below n (fits d v) (cells_fault row (suc column) columns cells) here (cells_below n row (suc column) columns cells h) h

pub faults_below : (n row : ℕ) (columns : List ColumnShape) (rows : Batch) → row + length rows ≤ n → IsBelow n (first_fault columns row rows)
faults_below n row columns [] h = tt
faults_below n row columns (cells ∷ rows) h =
    let this : row < n = omega (arith, h) in
    let here : Option Refusal = Some (WrongArity row) in
    or_below n (row_fault columns row cells) (first_fault columns (suc row) rows)
    (pick_below n (length cells == length columns) (cells_fault row 0 columns cells) here (cells_below n row 0 columns cells this) this)
    (faults_below n (suc row) columns rows (omega (arith, h)))
