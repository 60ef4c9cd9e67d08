-- The counts of a state are those of its batches, one after another.
use Rattle.std.proofs.Common.{◌≡◌, ℕ, zero, suc, ◌+◌, ◌<◌, ◌≤◌, Bool, not, List, [], ◌∷◌, ◌++◌, length, filter, map as each, drop, Some, refl, sym, ap, ◌∙◌, arith, append_assoc, append-nil, length-append}
use Rattle.std.specs.Prelude.{slice_get}
use Rattle.std.specs.List.{flat_map}
use Rattle.std.specs.Option.{option_map}
use Rattle.std.specs.FinMap as map
use Rattle.std.specs.FinSet as set
use Rattle.std.proofs.lemmas.List.{drop_all, length-map}
use Rattle.std.proofs.lemmas.List.Elements.{filter-append}
use Rattle.std.proofs.lemmas.Option.{slice_get-map}
use Rattle.table_model.specs.Name.{row_name_cmp}
use Rattle.table_model.specs.State.{State, Batch, Cells, named_from, named_rows, live_rows}
use Rattle.table_model.specs.declared.names.BatchName.{BatchName}
use Rattle.table_model.specs.declared.names.RowName.{RowName}
use Rattle.transpose_order.specs.Mask.{count_below}
use Rattle.replica_store.specs.Forgets.{batches_of, row_count}
use Rattle.replica_reports.specs.declared.batch_counts.BatchCounts.{BatchCounts}
use Rattle.replica_reports.specs.Counts.{is_live_at, live_rows_of, counted, batch_counts}
use Rattle.replica_reports.proofs.BatchCounting.{live_counted}

abbrev Entry : Type 0
Entry = BatchName × Batch

abbrev Deleted : Type 0
Deleted = set.FinSet row_name_cmp

-- what is left from a place on begins with what is there
pub drop_at : {X : Type 0} (xs : List X) (i : ℕ) (x : X) → slice_get xs i ≡ Some x → drop i xs ≡ x ∷ drop (i + 1) xs
drop_at [] i x is = cc
drop_at {X = X} (y ∷ ys) zero x is =
    let same : y ≡ x = cc in ap (λ (z : X). z ∷ ys) same
drop_at (y ∷ ys) (suc i) x is =
    let one : suc (i + 1) ≡ suc i + 1 = omega arith in
    drop_at ys i x is ∙ ap (λ (n : ℕ). x ∷ drop n (y ∷ ys)) one

-- there is one at each place below their number
pub has_one : {X : Type 0} (xs : List X) (i : ℕ) → i < length xs → (x : X) × (slice_get xs i ≡ Some x)
has_one [] i below = absurd (omega (arith, below))
has_one (x ∷ xs) zero below = (x, refl)
has_one (x ∷ xs) (suc i) below = has_one xs i (omega (arith, below))

-- the counts of the batch at a place
pub counted_at : (s : State) (i : ℕ) (e : Entry) (c : BatchCounts) → slice_get (map.entries s.batches) i ≡ Some e → c ≡ counted s.deleted e → slice_get (batch_counts s) i ≡ Some c
counted_at s i e c is same =
    slice_get-map (counted s.deleted) (map.entries s.batches) i
    ∙ ap (option_map (counted s.deleted)) is
    ∙ ap (λ (x : BatchCounts). Some x) (sym same)

-- the same, as they are counted
pub count_is : (s : State) (deleted : Deleted) (i : ℕ) (name : BatchName) (rows : Batch) (n live : ℕ)
    → slice_get (map.entries s.batches) i ≡ Some (name, rows) → n ≡ length rows → deleted ≡ s.deleted → live ≡ count_below (is_live_at deleted name n) n
    → slice_get (batch_counts s) i ≡ Some (record { name = name; rows = n; live = live })
count_is s deleted i name rows n live is many same told =
    let alive : live ≡ length (live_rows_of s.deleted (name, rows)) =
    told ∙ ap (λ (m : ℕ). count_below (is_live_at deleted name m) m) many
    ∙ ap (λ (d : Deleted). count_below (is_live_at d name (length rows)) (length rows)) same
    ∙ live_counted s.deleted name rows in
    counted_at s i (name, rows) (record { name = name; rows = n; live = live }) is (λ j. record { name = name; rows = many j; live = alive j })

same_counts : (a b : BatchCounts) → Some a ≡ Some b → a ≡ b
same_counts a b is = cc

-- the counts that are found there are the batch's
pub counts_are : (s : State) (i : ℕ) (e : Entry) (c : BatchCounts) → slice_get (map.entries s.batches) i ≡ Some e → slice_get (batch_counts s) i ≡ Some c → c ≡ counted s.deleted e
counts_are s i e c is told =
    same_counts c (counted s.deleted e) (sym told ∙ slice_get-map (counted s.deleted) (map.entries s.batches) i ∙ ap (option_map (counted s.deleted)) is)

-- ---- the list

-- one line more
pub lines_next : {X : Type 0} (line_of : X → List ℕ) (xs : List X) (i : ℕ) (x : X) (out line whole : List ℕ)
    → slice_get xs i ≡ Some x → line ≡ line_of x → out ++ flat_map line_of (drop i xs) ≡ whole → (out ++ line) ++ flat_map line_of (drop (i + 1) xs) ≡ whole
lines_next line_of xs i x out line whole is told before =
    let rest : List ℕ = flat_map line_of (drop (i + 1) xs) in
    append_assoc out line rest
    ∙ ap (λ (t : List ℕ). out ++ t) (ap (λ (t : List ℕ). t ++ rest) told ∙ sym (ap (flat_map line_of) (drop_at xs i x is)))
    ∙ before

-- and none is left at the end
pub lines_end : {X : Type 0} (line_of : X → List ℕ) (xs : List X) (i : ℕ) (out whole : List ℕ) → length xs ≤ i → out ++ flat_map line_of (drop i xs) ≡ whole → out ≡ whole
lines_end {X = X} line_of xs i out whole end told = sym (append-nil out) ∙ ap (λ (left : List X). out ++ flat_map line_of left) (sym (drop_all i xs end)) ∙ told

-- there are as many as there are batches
pub length-batch_counts : (s : State) → length (batch_counts s) ≡ map.len s.batches
length-batch_counts s = length-map (map.entries s.batches) (counted s.deleted) ∙ sym (map.len-entries s.batches)

-- ---- the rows of all batches

abbrev pub live_sum : List BatchCounts → ℕ
live_sum [] = 0
live_sum (c ∷ cs) = c.live + live_sum cs

-- the live rows of one batch more
pub live_next : (cs : List BatchCounts) (i : ℕ) (c : BatchCounts) → slice_get cs i ≡ Some c → live_sum (drop i cs) ≡ c.live + live_sum (drop (i + 1) cs)
live_next cs i c is = ap live_sum (drop_at cs i c is)

-- and none are left at the end
pub live_end : (cs : List BatchCounts) (i live : ℕ) → length cs ≤ i → live + live_sum (drop i cs) ≡ live_sum cs → live ≡ live_sum cs
live_end cs i live end told = omega (arith, told, ap live_sum (drop_all i cs end))

abbrev named : Entry → List (RowName × Cells)
named e = named_from e.0 0 e.1

live_of_all : (deleted : Deleted) (es : List Entry) → live_sum (each (counted deleted) es) ≡ length (filter (λ (row : RowName × Cells). not (set.contains deleted row.0)) (flat_map named es))
live_of_all deleted [] = refl
live_of_all deleted (e ∷ es) =
    let alive : RowName × Cells → Bool = λ row. not (set.contains deleted row.0) in
    let parts = ap length (filter-append alive (named e) (flat_map named es)) ∙ length-append (live_rows_of deleted e) (filter alive (flat_map named es)) in
    omega (arith, parts, live_of_all deleted es)

-- the live rows of all batches are those of the state
pub live-live_rows : (s : State) → live_sum (batch_counts s) ≡ length (live_rows s)
unfolding live_rows
live-live_rows s = live_of_all s.deleted (map.entries s.batches)

pub length-named_from : (name : BatchName) (n : ℕ) (rows : Batch) → length (named_from name n rows) ≡ length rows
length-named_from name n [] = refl
length-named_from name n (row ∷ rows) = ap suc (length-named_from name (suc n) rows)

rows_of_all : (es : List Entry) → row_count (batches_of es) ≡ length (flat_map named es)
rows_of_all [] = refl
rows_of_all (e ∷ es) = omega (arith, length-append (named e) (flat_map named es), length-named_from e.0 0 e.1, rows_of_all es)

-- and so are all rows
pub rows-named_rows : (s : State) → row_count (batches_of (map.entries s.batches)) ≡ length (named_rows s)
rows-named_rows s = rows_of_all (map.entries s.batches)
