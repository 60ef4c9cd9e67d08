-- A load of columns, batch after batch.
use Rattle.std.specs.Prelude.{◌≡◌, ◌⊎◌, ℕ, zero, suc, ◌+◌, ◌-◌, ◌*◌, ◌<◌, ◌≤◌, min, Bool, true, false, cond, ◌==◌, nat_lt, List, [], ◌∷◌, ◌++◌, length, map, Option, Some, None, Result, Ok, Err, IsOk}
use Rattle.std.proofs.Common.{refl, sym, ap, subst, ◌∙◌, inl, inr, arith}
use Rattle.std.proofs.lemmas.Bool.Decides.{nat_tests}
use Rattle.std.proofs.lemmas.List.FromFn.{length-map-range_with_len, map-range_with_len_more}
use Rattle.std.specs.List.{range_with_len}
use Rattle.table_model.specs.State.{Batch, Cells}
use Rattle.table_model.specs.Table.{ColumnShape, Table as Schema, first_fault, or_else, row_limit, rows_fault}
use Rattle.table_model.specs.declared.refusal.Refusal.{Refusal}
use Rattle.table_model.specs.declared.refusal.Refusal.TheVariants.{BatchTooLong, EmptyBatch, Full, Memory}
use Rattle.replica_store.specs.Replica.{batch_limit, unless_fault}
use Rattle.replica_changes.proofs.ArrayLoads.{rows_first}
use Rattle.replica_changes.specs.Loads.{LoadForm, added_batch}
use Rattle.lanes_c.specs.InputColumns.{InputForm, IsNotAdded, RowIsBelow, all_rows, batch_count, input_batch, input_batches, input_load, input_row, input_rows}
use Rattle.lanes_c.proofs.InputFaults.{IsBelow, faults_append, faults_below, faults_later, later_of}

-- ---- rows in parts

split : (f : ℕ → Cells) (a n m k : ℕ) → a + n ≡ k → map f (range_with_len a (n + m)) ≡ map f (range_with_len a n) ++ map f (range_with_len k m)
split f a zero m k e =
    let same : a ≡ k = omega (arith, e) in
    let none : 0 + m ≡ m = omega arith in
    ap (λ (n : ℕ). map f (range_with_len a n)) none ∙ ap (λ (x : ℕ). map f (range_with_len x m)) same
split f a (suc n) m k e =
    let size : suc n + m ≡ suc (n + m) = omega arith in
    ap (λ (x : ℕ). map f (range_with_len a x)) size ∙ ap (λ (rest : Batch). f a ∷ rest) (split f (a + 1) n m k (omega (arith, e)))

pub rows_split : (input : InputForm) (a n m k : ℕ) → a + n ≡ k → input_rows input a (n + m) ≡ input_rows input a n ++ input_rows input k m
rows_split input a n m k e = split (input_row input) a n m k e

-- ---- why rows aren't added

rows_below : (table : Schema) (rows : Batch) → IsBelow row_limit (rows_fault table rows)
unfolding rows_fault
rows_below table rows = empty (length rows == 0)
  where
    long : (b : Bool) → nat_lt row_limit (length rows) ≡ b → IsBelow row_limit (cond b (Some BatchTooLong) (first_fault table.columns 0 rows))
    long true is = tt
    long false is = faults_below row_limit 0 table.columns rows (grind (arith, nat_tests, is))

    empty : (b : Bool) → IsBelow row_limit (cond b (Some EmptyBatch) (cond (nat_lt row_limit (length rows)) (Some BatchTooLong) (first_fault table.columns 0 rows)))
    empty true = tt
    empty false = long (nat_lt row_limit (length rows)) refl

-- what is refused is refused for a fault of the rows, or because a load has no room for one more batch
not_added : (load : LoadForm) (rows : Batch) (e : Refusal) → added_batch load rows ≡ Err e → (rows_fault load.schema rows ≡ Some e) ⊎ ((e ≡ Full) × (batch_limit ≤ length load.batches))
not_added load rows e is = go (rows_fault load.schema rows) (nat_lt (length load.batches) batch_limit) refl refl is
  where
    go : (o : Option Refusal) (b : Bool) → rows_fault load.schema rows ≡ o → nat_lt (length load.batches) batch_limit ≡ b
        → unless_fault o (cond b (let r : Result (Unit {0} × LoadForm) Refusal = Ok (tt, record { schema = load.schema; batches = load.batches ++ (rows ∷ []) }) in r) (Err Full)) ≡ Err e
        → (rows_fault load.schema rows ≡ Some e) ⊎ ((e ≡ Full) × (batch_limit ≤ length load.batches))
    go (Some f) b fault room made = let same : f ≡ e = cc in inl (fault ∙ ap (λ (x : Refusal). Some x) same)
    go None true fault room made = absurd cc
    go None false fault room made = let same : e ≡ Full = cc in inr (same, grind (arith, nat_tests, room))

pub refusal_below : (load : LoadForm) (rows : Batch) (e : Refusal) → (e ≡ Memory) ⊎ (added_batch load rows ≡ Err e) → RowIsBelow row_limit e
refusal_below load rows e (inl lack) = subst (RowIsBelow row_limit) (sym lack) tt
refusal_below load rows e (inr is) = go (not_added load rows e is)
  where
    go : (rows_fault load.schema rows ≡ Some e) ⊎ ((e ≡ Full) × (batch_limit ≤ length load.batches)) → RowIsBelow row_limit e
    go (inl fault) = subst (IsBelow row_limit) fault (rows_below load.schema rows)
    go (inr full) = subst (RowIsBelow row_limit) (sym full.0) tt

-- ---- batch after batch

-- the first batches were added, and no row of them has a fault
pub record HasFirst (table : Schema) (input : InputForm) (index : ℕ) (load : LoadForm) : Type 0 where
  pub schema : load.schema ≡ table
  pub batches : load.batches ≡ input_batches input index
  pub fits : first_fault table.columns 0 (input_rows input 0 (min (index * row_limit) input.rows)) ≡ None

pub none_yet : (table : Schema) (input : InputForm) (load : LoadForm) → load.schema ≡ table → load.batches ≡ [] → HasFirst table input 0 load
none_yet table input load same none =
    let zero : min (0 * row_limit) input.rows ≡ 0 = omega arith in
    record { schema = same; batches = none; fits = ap (λ (n : ℕ). first_fault table.columns 0 (input_rows input 0 n)) zero }

-- what was added
added : (load new : LoadForm) (rows : Batch) → added_batch load rows ≡ Ok (tt, new) → (rows_fault load.schema rows ≡ None) × (new ≡ record { schema = load.schema; batches = load.batches ++ (rows ∷ []) })
added load new rows is = go (rows_fault load.schema rows) (nat_lt (length load.batches) batch_limit) refl is
  where
    made_load : Result (Unit {0} × LoadForm) Refusal → LoadForm
    made_load (Ok p) = p.1
    made_load (Err e) = new

    go : (o : Option Refusal) (b : Bool) → rows_fault load.schema rows ≡ o
        → unless_fault o (cond b (let r : Result (Unit {0} × LoadForm) Refusal = Ok (tt, record { schema = load.schema; batches = load.batches ++ (rows ∷ []) }) in r) (Err Full)) ≡ Ok (tt, new)
        → (rows_fault load.schema rows ≡ None) × (new ≡ record { schema = load.schema; batches = load.batches ++ (rows ∷ []) })
    go (Some f) b fault made = absurd cc
    go None true fault made = (fault, sym (ap made_load made))
    go None false fault made = absurd cc

row_count_is : (input : InputForm) (first count : ℕ) → length (input_rows input first count) ≡ count
row_count_is input first count = length-map-range_with_len (input_row input) first count

-- the fault of some more rows, where those before them have none
part_fault : (columns : List ColumnShape) (input : InputForm) (start count : ℕ) → first_fault columns 0 (input_rows input 0 start) ≡ None
    → first_fault columns 0 (input_rows input 0 (start + count)) ≡ later_of start (first_fault columns 0 (input_rows input start count))
part_fault columns input start count none =
    let before : Batch = input_rows input 0 start in
    let more : Batch = input_rows input start count in
    ap (first_fault columns 0) (rows_split input 0 start count start (omega arith))
    ∙ faults_append columns 0 start before more (omega (arith, row_count_is input 0 start))
    ∙ ap (λ (o : Option Refusal). or_else o (first_fault columns start more)) none
    ∙ faults_later start 0 start columns more (omega arith)

-- the fault of all rows is that of the first ones, if they have one
whole_fault : (columns : List ColumnShape) (input : InputForm) (count : ℕ) (e : Refusal) → count ≤ input.rows → first_fault columns 0 (input_rows input 0 count) ≡ Some e → first_fault columns 0 (all_rows input) ≡ Some e
whole_fault columns input count e few fault =
    let left : ℕ = input.rows - count in
    let front : Batch = input_rows input 0 count in
    let rest : Batch = input_rows input count left in
    let size : input.rows ≡ count + left = omega (arith, few) in
    ap (λ (n : ℕ). first_fault columns 0 (input_rows input 0 n)) size
    ∙ ap (first_fault columns 0) (rows_split input 0 count left count (omega arith))
    ∙ faults_append columns 0 count front rest (omega (arith, row_count_is input 0 count))
    ∙ ap (λ (o : Option Refusal). or_else o (first_fault columns count rest)) fault

-- the rows before a batch
before_fits : (table : Schema) (input : InputForm) (index : ℕ) (load : LoadForm) → index * row_limit < input.rows → HasFirst table input index load → first_fault table.columns 0 (input_rows input 0 (index * row_limit)) ≡ None
before_fits table input index load there h =
    let whole : index * row_limit ≡ min (index * row_limit) input.rows = omega (arith, there) in
    ap (λ (n : ℕ). first_fault table.columns 0 (input_rows input 0 n)) whole ∙ h.fits

-- the fault of a batch as rows
batch_first : (table : Schema) (input : InputForm) (index : ℕ) (load : LoadForm) → index * row_limit < input.rows → load.schema ≡ table → rows_fault load.schema (input_batch input index) ≡ first_fault table.columns 0 (input_batch input index)
batch_first table input index load there same =
    let size : length (input_batch input index) ≡ min row_limit (input.rows - index * row_limit) = row_count_is input (index * row_limit) (min row_limit (input.rows - index * row_limit)) in
    ap (λ (t : Schema). rows_fault t (input_batch input index)) same
    ∙ rows_first table (input_batch input index) (omega (arith, size, there)) (omega (arith, size))

pub one_more : (table : Schema) (input : InputForm) (index : ℕ) (load new : LoadForm) → index * row_limit < input.rows → HasFirst table input index load → added_batch load (input_batch input index) ≡ Ok (tt, new)
    → HasFirst table input (index + 1) new
one_more table input index load new there h made =
    let start : ℕ = index * row_limit in
    let count : ℕ = min row_limit (input.rows - index * row_limit) in
    let done = added load new (input_batch input index) made in
    let none : first_fault table.columns 0 (input_rows input start count) ≡ None = sym (batch_first table input index load there h.schema) ∙ done.0 in
    let size : min ((index + 1) * row_limit) input.rows ≡ start + count = omega (arith, there) in
    record {
      schema = ap (λ (l : LoadForm). l.schema) done.1 ∙ h.schema;
      batches =
          ap (λ (l : LoadForm). l.batches) done.1
          ∙ ap (λ (batches : List Batch). batches ++ (input_batch input index ∷ [])) h.batches
          ∙ sym (map-range_with_len_more (input_batch input) 0 index index (omega arith));
      fits =
          ap (λ (n : ℕ). first_fault table.columns 0 (input_rows input 0 n)) size
          ∙ part_fault table.columns input start count (before_fits table input index load there h)
          ∙ ap (later_of start) none;
    }

pub refused_at : (table : Schema) (input : InputForm) (index : ℕ) (load : LoadForm) (e : Refusal) → input.rows ≤ batch_limit * row_limit → index * row_limit < input.rows → HasFirst table input index load → IsNotAdded input index load e
    → (first_fault table.columns 0 (all_rows input) ≡ Some e) ⊎ (e ≡ Memory)
refused_at table input index load e few there h (inl lack) = inr lack
refused_at table input index load e few there h (inr (refusal, made, is)) = go (not_added load (input_batch input index) refusal made)
  where
    start : ℕ
    start = index * row_limit

    count : ℕ
    count = min row_limit (input.rows - index * row_limit)

    go : (rows_fault load.schema (input_batch input index) ≡ Some refusal) ⊎ ((refusal ≡ Full) × (batch_limit ≤ length load.batches)) → (first_fault table.columns 0 (all_rows input) ≡ Some e) ⊎ (e ≡ Memory)
    go (inl fault) =
        let here : first_fault table.columns 0 (input_rows input start count) ≡ Some refusal = sym (batch_first table input index load there h.schema) ∙ fault in
        let told : first_fault table.columns 0 (input_rows input 0 (start + count)) ≡ Some e =
        part_fault table.columns input start count (before_fits table input index load there h) ∙ ap (later_of start) here ∙ ap (λ (x : Refusal). let o : Option Refusal = Some x in o) (sym is) in
        inl (whole_fault table.columns input (start + count) e (omega (arith, there)) told)
    go (inr full) =
        let size : length load.batches ≡ index = ap length h.batches ∙ length-map-range_with_len (input_batch input) 0 index in
        absurd (omega (arith, size, full.1, few, there))

pub all_added : (table : Schema) (input : InputForm) (count : ℕ) (load : LoadForm) → count ≡ batch_count input → HasFirst table input count load → (first_fault table.columns 0 (all_rows input) ≡ None) × (load ≡ input_load table input)
all_added table input count load is h =
    let whole : input.rows ≡ min (count * row_limit) input.rows = omega (arith, is) in
    let batches : load.batches ≡ input_batches input (batch_count input) = h.batches ∙ ap (input_batches input) is in
    (ap (λ (n : ℕ). first_fault table.columns 0 (input_rows input 0 n)) whole ∙ h.fits, λ i. record { schema = h.schema i; batches = batches i })
