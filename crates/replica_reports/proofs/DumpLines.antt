-- A dump is written line by line: a front of the rows, and then one row or one vector more.
use Rattle.std.specs.Prelude.{◌≡◌, ℕ, zero, suc, ◌+◌, ◌-◌, ◌*◌, ◌<◌, ◌≤◌, Bool, true, false, cond, List, [], ◌∷◌, ◌++◌, map, length, Option, Some, None, Result, Ok, Err}
use Rattle.std.proofs.Common.{refl, sym, ap, subst, ◌∙◌, arith, append_assoc, drop, get_or, take}
use Rattle.std.proofs.lemmas.Grind.{flat_map-append}
use Rattle.std.proofs.lemmas.List.{append-nil, map-append, take-append-drop}
use Rattle.std.specs.List.{flat_map}
use Rattle.std.specs.Io.KnownBytes.{Appends}
use Rattle.table_model.specs.Counted.{one_more}
use Rattle.table_model.specs.Faults.{AppendsFront}
use Rattle.table_model.specs.State.{State, Cells}
use Rattle.table_model.specs.declared.names.BatchName.{BatchName}
use Rattle.table_model.specs.declared.names.RowName.{RowName}
use Rattle.table_model.specs.declared.refusal.Refusal.{Refusal}
use Rattle.table_model.specs.declared.refusal.Refusal.TheVariants.{Memory, WriteFault}
use Rattle.table_model.proofs.Written.{appends_both}
use Rattle.transpose_order.specs.Mask.{has}
use Rattle.query_eval.specs.Vector.{batch_at, row_at, vector_of}
use Rattle.query_eval.specs.declared.filter.kept_rows.KeptVector.{KeptVector}
use Rattle.live_columns.specs.Chosen.{kept_in, named_at, picked, rows_in}
use Rattle.live_columns.proofs.Picked.{picked-map, picked_all, picked_below, picked_more}
use Rattle.live_columns.proofs.RowLemmas.{rows-more}
use Rattle.replica_store.specs.Replica.{Replica}
use Rattle.live_columns.specs.Choices.{ChoiceForm}
use Rattle.csv_rows.specs.Written.{WritesText}
use Rattle.replica_reports.specs.DumpRooms.{room_cells}
use Rattle.replica_reports.specs.Dumps.{WritesLines, cells_at, dumped_rows, dumping_where, heading_at, in_columns, row_text}
use Rattle.replica_reports.specs.declared.dump_rooms.ColumnRoom.{ColumnRoom}

pub lines_none : (known : Option (List ℕ)) (w : ℕ) → WritesLines (Ok tt) known known w w []
lines_none None w = (tt, refl)
lines_none (Some xs) w = (sym (append-nil xs), refl)

front_none : (known : Option (List ℕ)) (text : List ℕ) → AppendsFront known known text
front_none known text = ([], text, refl, (lines_none known 0).0)

-- want of memory before anything is written
pub lines_lack : (e : Refusal) (known : Option (List ℕ)) (w : ℕ) (text : List ℕ) → e ≡ Memory → WritesLines (Err e) known known w w text
lines_lack e known w text is = let P : Refusal → Type 0 = λ x. WritesLines (Err x) known known w w text in subst P (sym is) (front_none known text, refl)

-- a line of CSV
pub text_lines : (result : Result (Unit {0}) Refusal) (old new : Option (List ℕ)) (w w' : ℕ) (text : List ℕ) → WritesText result old new w w' text → WritesLines result old new w w' text
text_lines (Ok done) old new w w' text h = h
text_lines (Err Memory) old new w w' text h = (([], text, refl, h.0), h.1)
text_lines (Err WriteFault) old new w w' text h = h
text_lines (Err other) old new w w' text h = absurd h

front_both : (a b c : Option (List ℕ)) (x y : List ℕ) → Appends a b x → AppendsFront b c y → AppendsFront a c (x ++ y)
front_both a b c x y h k = (x ++ k.0, k.1, ap (λ (t : List ℕ). x ++ t) k.2 ∙ sym (append_assoc x k.0 k.1), appends_both a b c x k.0 h k.3)

front_longer : (a b : Option (List ℕ)) (x y : List ℕ) → AppendsFront a b x → AppendsFront a b (x ++ y)
front_longer a b x y h = (h.0, h.1 ++ y, ap (λ (t : List ℕ). t ++ y) h.2 ∙ append_assoc h.0 h.1 y, h.3)

-- lines after lines
pub lines_both : (done : Unit {0}) (result : Result (Unit {0}) Refusal) (a b c : Option (List ℕ)) (w w' w'' : ℕ) (x y : List ℕ) → WritesLines (Ok done) a b w w' x → WritesLines result b c w' w'' y → WritesLines result a c w w'' (x ++ y)
lines_both done (Ok more) a b c w w' w'' x y h k = (appends_both a b c x y h.0 k.0, k.1 ∙ h.1)
lines_both done (Err Memory) a b c w w' w'' x y h k = (front_both a b c x y h.0 k.0, k.1 ∙ h.1)
lines_both done (Err WriteFault) a b c w w' w'' x y h k = (front_both a b c x y h.0 k.0, k.1 ∙ ap one_more h.1)
lines_both done (Err other) a b c w w' w'' x y h k = absurd k

-- lines that end before the rest
pub lines_end : (e : Refusal) (a b : Option (List ℕ)) (w w' : ℕ) (x y : List ℕ) → WritesLines (Err e) a b w w' x → WritesLines (Err e) a b w w' (x ++ y)
lines_end Memory a b w w' x y h = (front_longer a b x y h.0, h.1)
lines_end WriteFault a b w w' x y h = (front_longer a b x y h.0, h.1)
lines_end other a b w w' x y h = absurd h

-- ---- rows after rows

-- the lines of rows
abbrev pub rows_text : Bool → List (RowName × Cells) → List ℕ
rows_text has_names rows = flat_map (row_text has_names) rows

pub one_row : (has_names : Bool) (result : Result (Unit {0}) Refusal) (a b : Option (List ℕ)) (w w' : ℕ) (row : RowName × Cells) → WritesLines result a b w w' (row_text has_names row) → WritesLines result a b w w' (rows_text has_names (row ∷ []))
one_row has_names result a b w w' row h = let P : List ℕ → Type 0 = λ t. WritesLines result a b w w' t in subst P (sym (append-nil (row_text has_names row))) h

pub rows_both : (has_names was : Bool) (done : Unit {0}) (result : Result (Unit {0}) Refusal) (a b c : Option (List ℕ)) (w w' w'' : ℕ) (front here more : List (RowName × Cells)) → was ≡ has_names → more ≡ front ++ here
    → WritesLines (Ok done) a b w w' (rows_text has_names front) → WritesLines result b c w' w'' (rows_text was here) → WritesLines result a c w w'' (rows_text has_names more)
rows_both has_names was done result a b c w w' w'' front here more same is h k =
    let P : List ℕ → Type 0 = λ t. WritesLines result a c w w'' t in
    let Q : Bool → Type 0 = λ n. WritesLines result b c w' w'' (rows_text n here) in
    subst P (sym (ap (rows_text has_names) is ∙ flat_map-append (row_text has_names) front here)) (lines_both done result a b c w w' w'' (rows_text has_names front) (rows_text has_names here) h (subst Q same k))

pub rows_end : (has_names : Bool) (e : Refusal) (a b : Option (List ℕ)) (w w' : ℕ) (front rest all : List (RowName × Cells)) → all ≡ front ++ rest → WritesLines (Err e) a b w w' (rows_text has_names front) → WritesLines (Err e) a b w w' (rows_text has_names all)
rows_end has_names e a b w w' front rest all is h =
    let P : List ℕ → Type 0 = λ t. WritesLines (Err e) a b w w' t in
    subst P (sym (ap (rows_text has_names) is ∙ flat_map-append (row_text has_names) front rest)) (lines_end e a b w w' (rows_text has_names front) (rows_text has_names rest) h)

-- the same of other rows that are these
pub rows_are : (has_names : Bool) (result : Result (Unit {0}) Refusal) (a b : Option (List ℕ)) (w w' : ℕ) (rows all : List (RowName × Cells)) → rows ≡ all → WritesLines result a b w w' (rows_text has_names rows) → WritesLines result a b w w' (rows_text has_names all)
rows_are has_names result a b w w' rows all is h = let P : List (RowName × Cells) → Type 0 = λ x. WritesLines result a b w w' (rows_text has_names x) in subst P is h

-- ---- the rows of a mask

longer_by : {X : Type 0} (k j : ℕ) (mask : List Bool) (item : ℕ → X) → (rest : List X) × (picked_below (k + j) mask item ≡ picked_below k mask item ++ rest)
longer_by k zero mask item = ([], ap (λ n. picked_below n mask item) (let e : k + zero ≡ k = omega arith in e) ∙ sym (append-nil (picked_below k mask item)))
longer_by k (suc j) mask item =
    let before = longer_by k j mask item in (
      before.0 ++ cond (has mask (k + j)) (item (k + j) ∷ []) [],
      ap (λ n. picked_below n mask item) (let e : k + suc j ≡ (k + j) + 1 = omega arith in e) ∙ picked_more (k + j) mask item (has mask (k + j)) refl
          ∙ ap (λ l. l ++ cond (has mask (k + j)) (item (k + j) ∷ []) []) before.1 ∙ append_assoc (picked_below k mask item) before.0 (cond (has mask (k + j)) (item (k + j) ∷ []) []),
    )

-- those below a row are a front of all
pub picked_front : {X : Type 0} (k : ℕ) (mask : List Bool) (item : ℕ → X) → k ≤ 1024 → (rest : List X) × (picked mask item ≡ picked_below k mask item ++ rest)
picked_front k mask item l =
    let more = longer_by k (1024 - k) mask item in
    (more.0, sym (picked_all (k + (1024 - k)) mask item (let e : k + (1024 - k) ≡ 1024 = omega (arith, l) in e)) ∙ more.1)

-- one row of the mask more
pub picked_one : {X : Type 0} (k : ℕ) (mask : List Bool) (item : ℕ → X) → has mask k ≡ true → picked_below (k + 1) mask item ≡ picked_below k mask item ++ item k ∷ []
picked_one k mask item on = picked_more k mask item true on

-- a row that the mask does not have
pub picked_same : {X : Type 0} (k : ℕ) (mask : List Bool) (item : ℕ → X) → has mask k ≡ false → picked_below k mask item ≡ picked_below (k + 1) mask item
picked_same k mask item off = sym (picked_more k mask item false off ∙ append-nil (picked_below k mask item))

-- the rows of a vector that was decoded
abbrev pub decoded : BatchName → ℕ → List ColumnRoom → ℕ → RowName × Cells
decoded batch first rooms n = (record { batch = batch; ordinal = first + n }, room_cells rooms n)

-- ---- one vector more

pub vector_rows : (s : State) (kept : KeptVector) (places : List ℕ) (rooms : List ColumnRoom) (batch : BatchName) → batch ≡ (batch_at s kept.id.batch).0 → ((n : ℕ) → n < 1024 → room_cells rooms n ≡ cells_at places (row_at (vector_of s kept.id) n))
    → picked kept.rows (decoded batch (1024 * kept.id.vector) rooms) ≡ map (in_columns places) (kept_in s kept)
unfolding kept_in
vector_rows s kept places rooms batch named cells =
    picked-map (in_columns places) kept.rows (named_at s kept.id) (decoded batch (1024 * kept.id.vector) rooms)
    (λ n l. ap (λ (b : BatchName). let row : RowName × Cells = (record { batch = b; ordinal = 1024 * kept.id.vector + n }, room_cells rooms n) in row) named
    ∙ ap (λ (c : Cells). let row : RowName × Cells = (record { batch = (batch_at s kept.id.batch).0; ordinal = 1024 * kept.id.vector + n }, c) in row) (cells n l))

-- the rows of the first vectors, in columns
abbrev pub front_of : State → List ℕ → List KeptVector → ℕ → List (RowName × Cells)
front_of s places vectors i = map (in_columns places) (rows_in s (take i vectors))

pub front_more : (s : State) (places : List ℕ) (vectors : List KeptVector) (i : ℕ) (kept : KeptVector) → i < length vectors → kept ≡ get_or vectors i kept → front_of s places vectors (i + 1) ≡ front_of s places vectors i ++ map (in_columns places) (kept_in s kept)
front_more s places vectors i kept l is =
    ap (map (in_columns places)) (rows-more s vectors i kept l is) ∙ map-append (in_columns places) (rows_in s (take i vectors)) (kept_in s kept)

pub front_rest : (s : State) (places : List ℕ) (vectors : List KeptVector) (i : ℕ) → map (in_columns places) (rows_in s vectors) ≡ front_of s places vectors i ++ map (in_columns places) (rows_in s (drop i vectors))
front_rest s places vectors i =
    ap (λ (l : List KeptVector). map (in_columns places) (rows_in s l)) (sym (take-append-drop i vectors))
    ∙ ap (map (in_columns places)) (flat_map-append (kept_in s) (take i vectors) (drop i vectors))
    ∙ map-append (in_columns places) (rows_in s (take i vectors)) (rows_in s (drop i vectors))

-- ---- the heading, and then the rows

pub dump_stops : (r : Replica) (choice : ChoiceForm) (e : Refusal) (before now : Option (List ℕ)) (w w' : ℕ) (has_names : Bool)
    → WritesLines (Err e) before now w w' (heading_at has_names r.schema choice.places) → WritesLines (Err e) before now w w' (dumping_where has_names choice r)
dump_stops r choice e before now w w' has_names wrote = lines_end e before now w w' (heading_at has_names r.schema choice.places) (rows_text has_names (dumped_rows choice r.schema r.state)) wrote

pub dump_goes : (r : Replica) (choice : ChoiceForm) (done : Unit {0}) (result : Result (Unit {0}) Refusal) (before now next : Option (List ℕ)) (w w' w'' : ℕ) (has_names was : Bool)
    → was ≡ has_names → WritesLines (Ok done) before now w w' (heading_at has_names r.schema choice.places)
    → WritesLines result now next w' w'' (rows_text was (dumped_rows choice r.schema r.state)) → WritesLines result before next w w'' (dumping_where has_names choice r)
dump_goes r choice done result before now next w w' w'' has_names was same head wrote =
    let rows : List (RowName × Cells) = dumped_rows choice r.schema r.state in
    let Q : Bool → Type 0 = λ b. WritesLines result now next w' w'' (rows_text b rows) in
    lines_both done result before now next w w' w'' (heading_at has_names r.schema choice.places) (rows_text has_names rows) head (subst Q same wrote)
