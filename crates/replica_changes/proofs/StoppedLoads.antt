-- A load that an error stopped: the full batches that were loaded are the first rows of the text, and the error is one that may stop it.
use Rattle.std.specs.Prelude.{◌≡◌, ◌⊎◌, ℕ, suc, ◌+◌, ◌≤◌, ◌==◌, nat_lt, Bool, true, false, cond, List, [], ◌∷◌, ◌++◌, length, Option, Some, None, Result, Ok, Err, IsOk}
use Rattle.std.proofs.Common.{refl, sym, ap, subst, ◌∙◌, inl, inr, arith}
use Rattle.std.proofs.lemmas.Bool.Decides.{nat_tests}
use Rattle.std.proofs.lemmas.List.{length-append}
use Rattle.table_model.specs.Counted.{one_more}
use Rattle.table_model.specs.State.{Batch, Cells}
use Rattle.table_model.specs.Table.{Table, ColumnShape, AreRows, IsBatch, row_limit, fits, cells_fault, row_fault, first_fault, rows_fault, or_else}
use Rattle.table_model.specs.declared.refusal.Refusal.{Refusal}
use Rattle.table_model.specs.declared.refusal.Refusal.TheVariants.{Memory, ReadFault, Full, EmptyBatch, BatchTooLong, WrongArity, OutOfType}
use Rattle.table_model.proofs.Batches.{fault-IsBatch}
use Rattle.csv_rows.specs.CsvText.{before_rows}
use Rattle.csv_rows.specs.Reading.{Reading, to_come, AsKnown, Gave, Came, Counts}
use Rattle.csv_rows.specs.declared.error.CsvError.{CsvError}
use Rattle.csv_rows.specs.declared.error.CsvError.TheVariants.{Refused, BadCsv, LineTooLong}
use Rattle.replica_store.specs.Replica.{batch_limit, unless_fault}
use Rattle.replica_changes.specs.Loads.{LoadForm, added_batch}
use Rattle.replica_changes.specs.CsvLoads.{rows_of, with_batches, IsNotAdded, MayStop, CountsText, AreFirst, StopsLoading}
use Rattle.replica_changes.proofs.CsvLoading.{LoadedSoFar}

-- ---- what a batch is refused as

-- a batch of the table has no fault
none_fault : (t : Table) (rows : Batch) → IsBatch t rows → rows_fault t rows ≡ None
unfolding rows_fault
none_fault t rows h =
    let some : (length rows == 0) ≡ false = grind (arith, nat_tests, h.some) in
    let short : nat_lt row_limit (length rows) ≡ false = grind (arith, nat_tests, h.limit) in
    ap (λ (b : Bool). cond b (Some EmptyBatch) (cond (nat_lt row_limit (length rows)) (Some BatchTooLong) (first_fault t.columns 0 rows))) some
    ∙ ap (λ (b : Bool). cond b (Some BatchTooLong) (first_fault t.columns 0 rows)) short
    ∙ fault-IsBatch t rows h

-- a fault of rows is no failed read
abbrev NoRead : Option Refusal → Type 0
NoRead (Some ReadFault) = ⊥
NoRead other = Unit {0}

one_of : (b : Bool) (x y : Option Refusal) → NoRead x → NoRead y → NoRead (cond b x y)
one_of true x y h k = h
one_of false x y h k = k

first_of : (x y : Option Refusal) → NoRead x → NoRead y → NoRead (or_else x y)
first_of (Some e) y h k = h
first_of None y h k = k

cells_no_read : (row column : ℕ) (columns : List ColumnShape) (cells : Cells) → NoRead (cells_fault row column columns cells)
cells_no_read row column [] cells = tt
cells_no_read row column (c ∷ cs) [] = tt
cells_no_read row column (c ∷ cs) (v ∷ vs) = one_of (fits c v) (cells_fault row (suc column) cs vs) (Some (OutOfType row column)) (cells_no_read row (suc column) cs vs) tt

rows_no_read : (columns : List ColumnShape) (row : ℕ) (rows : Batch) → NoRead (first_fault columns row rows)
rows_no_read columns row [] = tt
rows_no_read columns row (cells ∷ rows) =
    first_of (row_fault columns row cells) (first_fault columns (suc row) rows)
    (one_of (length cells == length columns) (cells_fault row 0 columns cells) (Some (WrongArity row)) (cells_no_read row 0 columns cells) tt)
    (rows_no_read columns (suc row) rows)

fault_no_read : (t : Table) (rows : Batch) → NoRead (rows_fault t rows)
unfolding rows_fault
fault_no_read t rows =
    one_of (length rows == 0) (Some EmptyBatch) (cond (nat_lt row_limit (length rows)) (Some BatchTooLong) (first_fault t.columns 0 rows)) tt
    (one_of (nat_lt row_limit (length rows)) (Some BatchTooLong) (first_fault t.columns 0 rows) tt (rows_no_read t.columns 0 rows))

-- one more batch of a load, by its fault and whether there is room
abbrev Added : Type 0
Added = Result (Unit {0} × LoadForm) Refusal

no_read_of : (x : Option Refusal) (b : Bool) (more : Unit {0} × LoadForm) → NoRead x → ◌≡◌ {A = Added} (unless_fault x (cond b (Ok more) (Err Full))) (Err ReadFault) → ⊥
no_read_of (Some e) b more h is = let same : e ≡ ReadFault = cc in let P : Refusal → Type 0 = λ r. NoRead (Some r) in subst P same h
no_read_of None true more h is = cc
no_read_of None false more h is = cc

added_no_read : (load : LoadForm) (rows : Batch) → added_batch load rows ≡ Err ReadFault → ⊥
added_no_read load rows is = no_read_of (rows_fault load.schema rows) (nat_lt (length load.batches) batch_limit) (tt, with_batches load (rows ∷ [])) (fault_no_read load.schema rows) is

full_of : (x : Option Refusal) (b : Bool) (more : Unit {0} × LoadForm) (e : Refusal) → x ≡ None → ◌≡◌ {A = Added} (unless_fault x (cond b (Ok more) (Err Full))) (Err e) → (b ≡ false) × (e ≡ Full)
full_of (Some fault) b more e none is = let no : ⊥ = cc in absurd no
full_of None true more e none is = let no : ⊥ = cc in absurd no
full_of None false more e none is = let same : e ≡ Full = cc in (refl, same)

may_full : (load : LoadForm) (e : Refusal) → nat_lt (length load.batches) batch_limit ≡ false → e ≡ Full → MayStop load (Refused e)
may_full load e room is =
    let P : Refusal → Type 0 = λ r. MayStop load (Refused r) in
    let full : batch_limit ≤ length load.batches = grind (arith, nat_tests, room) in
    subst P (sym is) full

-- a batch of the load's own table is refused if the load is full, or for memory
batch_may_stop : (load : LoadForm) (rows : Batch) (e : Refusal) → IsBatch load.schema rows → (added_batch load rows ≡ Err e) ⊎ (e ≡ Memory) → MayStop load (Refused e)
batch_may_stop load rows e fit (inl is) =
    let why = full_of (rows_fault load.schema rows) (nat_lt (length load.batches) batch_limit) (tt, with_batches load (rows ∷ [])) e (none_fault load.schema rows fit) is in
    may_full load e why.0 why.1
batch_may_stop load rows e fit (inr is) = let P : Refusal → Type 0 = λ r. MayStop load (Refused r) in subst P (sym is) tt

-- what a load answers to rows that it doesn't take
pub not_added : (load : LoadForm) (rows : Batch) (e : Refusal) → 1 ≤ length rows → (added_batch load rows ≡ Err e) ⊎ ((e ≡ Memory) × IsOk (added_batch load rows)) → IsNotAdded load rows (Refused e)
not_added load rows e some (inl is) = (e, refl, some, inl is)
not_added load rows e some (inr lack) = (e, refl, some, inr lack.0)

-- ---- the first rows of the text

front_of : (xs rows : Batch) (made : Result Batch CsvError) → before_rows xs made ≡ Ok rows → (rest : Batch) × (made ≡ Ok rest) × (rows ≡ xs ++ rest)
front_of xs rows (Ok rest) is = let same : rows ≡ xs ++ rest = cc in (rest, refl, same)
front_of xs rows (Err e) is = let no : ⊥ = cc in absurd no

-- if the load was full, there are rows to come
abbrev pub HasMore : Reading → CsvError → Option (List ℕ) → Type 0
HasMore now e after = (left : List ℕ) (rest : Batch) → after ≡ Some left → to_come now left ≡ Ok rest → e ≡ Refused Full → 1 ≤ length rest

are_first : (start now : Reading) (e : CsvError) (before after : Option (List ℕ)) (full : List Batch) → AsKnown (λ bytes left. to_come start bytes ≡ before_rows (rows_of full) (to_come now left)) before after
    → HasMore now e after → AreFirst start e before full
are_first start now e None after full h more = λ bytes rows known come. let no : ⊥ = cc in absurd no
are_first start now e (Some a) None full h more = λ bytes rows known come. absurd h
are_first start now e (Some a) (Some b) full h more = λ bytes rows known come.
    let same : a ≡ bytes = cc in
    let p = front_of (rows_of full) rows (to_come now b) (sym h ∙ ap (to_come start) same ∙ come) in
    (p.0, p.2, λ is. more b p.0 refl p.1 is)

stops : (start now : Reading) (e : CsvError) (before after : Option (List ℕ)) (old load : LoadForm) → LoadedSoFar start now before after old load → HasMore now e after
    → (old.schema ≡ start.table → MayStop load e) → StopsLoading start before old load e
stops start now e before after old load so more may = record {
  full = so.full;
  are_full = so.are_full;
  loaded = so.loaded;
  first = are_first start now e before after so.full so.rest more;
  may_stop = may;
}

-- ---- refused as the next rows are read

refused_reading : (refusal : Refusal) (now : Reading) (after : Option (List ℕ)) (load : LoadForm) (many : Type 0) (r r' : ℕ) → Counts many (Refused refusal) r r' → HasMore now (Refused refusal) after × MayStop load (Refused refusal)
refused_reading Memory now after load many r r' h = (λ left rest known come is. let no : ⊥ = cc in absurd no, tt)
refused_reading ReadFault now after load many r r' h = (λ left rest known come is. let no : ⊥ = cc in absurd no, tt)
refused_reading other now after load many r r' h = absurd h

pub reading_stops : (start now : Reading) (e : CsvError) (before after : Option (List ℕ)) (old load : LoadForm) (many : Type 0) (r r' : ℕ) → LoadedSoFar start now before after old load → Counts many e r r'
    → StopsLoading start before old load e
reading_stops start now (Refused refusal) before after old load many r r' so h =
    let why = refused_reading refusal now after load many r r' h in
    stops start now (Refused refusal) before after old load so why.0 (λ same. why.1)
reading_stops start now (BadCsv line column) before after old load many r r' so h =
    stops start now (BadCsv line column) before after old load so (λ left rest known come is. let no : ⊥ = cc in absurd no) (λ same. tt)
reading_stops start now (LineTooLong line) before after old load many r r' so h =
    stops start now (LineTooLong line) before after old load so (λ left rest known come is. let no : ⊥ = cc in absurd no) (λ same. tt)

refusal_counts : (refusal : Refusal) (many : Type 0) (first r r' : ℕ) → r ≡ first → Counts many (Refused refusal) r r' → CountsText many (Refused refusal) first r'
refusal_counts ReadFault many first r r' same (inl is) = inl (is ∙ ap one_more same)
refusal_counts ReadFault many first r r' same (inr h) = inr (h.0, h.1 ∙ same)
refusal_counts Memory many first r r' same h = h ∙ same
refusal_counts other many first r r' same h = absurd h

pub reading_counts : (e : CsvError) (many : Type 0) (first r r' : ℕ) → r ≡ first → Counts many e r r' → CountsText many e first r'
reading_counts (Refused refusal) many first r r' same h = refusal_counts refusal many first r r' same h
reading_counts (BadCsv line column) many first r r' same h = h ∙ same
reading_counts (LineTooLong line) many first r r' same h = h ∙ same

-- ---- refused as rows are added

has_more : (now next : Reading) (rows : Batch) (e : CsvError) (after later : Option (List ℕ)) → Gave now next rows after later → 1 ≤ length rows → HasMore now e after
has_more now next rows e None later gave some = λ left rest known come is. let no : ⊥ = cc in absurd no
has_more now next rows e (Some a) None gave some = λ left rest known come is. absurd gave
has_more now next rows e (Some a) (Some b) gave some = λ left rest known come is.
    let same : a ≡ left = cc in
    let p = front_of rows rest (to_come next b) (sym gave ∙ ap (to_come now) same ∙ come) in
    let long : length rest ≡ length rows + length p.0 = ap length p.2 ∙ length-append rows p.0 in
    omega (arith, some)

pub adding_stops : (start now next : Reading) (e : CsvError) (before after later : Option (List ℕ)) (old load load' : LoadForm) (rows : Batch) → LoadedSoFar start now before after old load → Gave now next rows after later → load' ≡ load
    → now.table ≡ start.table → AreRows now.table.columns rows → length rows ≤ row_limit → IsNotAdded load rows e → StopsLoading start before old load' e
adding_stops start now next e before after later old load load' rows so gave kept table fit short (refusal, is, some, why) =
    let P : LoadForm → Type 0 = λ l. StopsLoading start before old l e in
    let Q : CsvError → Type 0 = λ x. MayStop load x in
    let R : Table → Type 0 = λ t. AreRows t.columns rows in
    let may : old.schema ≡ start.table → MayStop load e = λ same.
    let own : load.schema ≡ now.table = ap (λ (l : LoadForm). l.schema) so.loaded ∙ same ∙ sym table in
    subst Q (sym is) (batch_may_stop load rows refusal (record { some = some; limit = short; rows_fit = subst R (sym own) fit }) why) in
    subst P (sym kept) (stops start now e before after old load so (has_more now next rows e after later gave some) may)

uncounted : (refusal : Refusal) (many : Type 0) (first r : ℕ) → (refusal ≡ ReadFault → ⊥) → r ≡ first → CountsText many (Refused refusal) first r
uncounted ReadFault many first r unread same = absurd (unread refl)
uncounted other many first r unread same = same

refused_no_read : (load : LoadForm) (rows : Batch) (refusal : Refusal) → (added_batch load rows ≡ Err refusal) ⊎ (refusal ≡ Memory) → refusal ≡ ReadFault → ⊥
refused_no_read load rows refusal (inl is) read = let same : added_batch load rows ≡ Err ReadFault = is ∙ ap (λ (r : Refusal). let made : Added = Err r in made) read in added_no_read load rows same
refused_no_read load rows refusal (inr is) read = cc

pub adding_counts : (load : LoadForm) (rows : Batch) (e : CsvError) (many : Type 0) (first r r' : ℕ) → IsNotAdded load rows e → r ≡ first → r' ≡ r → CountsText many e first r'
adding_counts load rows e many first r r' (refusal, is, some, why) same kept =
    let P : CsvError → Type 0 = λ x. CountsText many x first r' in
    subst P (sym is) (uncounted refusal many first r' (refused_no_read load rows refusal why) (kept ∙ same))

-- ---- the bytes that came

pub came_start : (given : ℕ) (a : Option (List ℕ)) → Came given given a a
came_start given None = tt
came_start given (Some a) = refl

pub came_on : (g0 g1 g2 : ℕ) (a b c : Option (List ℕ)) → Came g0 g1 a b → Came g1 g2 b c → Came g0 g2 a c
came_on g0 g1 g2 None b c p q = tt
came_on g0 g1 g2 (Some a) None c p q = absurd p
came_on g0 g1 g2 (Some a) (Some b) None p q = absurd q
came_on g0 g1 g2 (Some a) (Some b) (Some c) p q = omega (arith, p, q)
