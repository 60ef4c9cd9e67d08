-- The live rows of a batch are those of its vectors, one after another.
use Rattle.std.proofs.Common.{◌≡◌, ℕ, zero, suc, ◌+◌, ◌-◌, ◌*◌, ◌<◌, ◌≤◌, Bool, true, false, cond, not, ◌&&◌, min, nat_lt, List, [], ◌∷◌, filter, length, count_by, sym, ap, ◌∙◌, arith}
use Rattle.std.specs.FinSet as set
use Rattle.std.proofs.lemmas.Bool.Decides.{nat_tests}
use Rattle.table_model.specs.Name.{row_name_cmp}
use Rattle.table_model.specs.State.{Batch, Cells, named_from}
use Rattle.table_model.specs.declared.names.BatchName.{BatchName}
use Rattle.table_model.specs.declared.names.RowName.{RowName}
use Rattle.transpose_order.specs.Mask.{rows_of, count_below}
use Rattle.transpose_order.proofs.MaskLemmas.{count_below-zero, count_below-suc, count_below-le, count_below-same, count_below-add, count_by-rows_of}
use Rattle.catalogue_join.specs.LiveMask.{is_live}
use Rattle.replica_reports.specs.Counts.{is_live_at, live_rows_of}

abbrev Deleted : Type 0
Deleted = set.FinSet row_name_cmp

-- nothing counts nothing
count_below-none : (n : ℕ) → count_below (λ i. false) n ≡ 0
count_below-none zero = count_below-zero (λ i. false)
count_below-none (suc n) = count_below-suc (λ i. false) n ∙ omega (arith, count_below-none n)

-- the vector's places are its batch's
same_place : (rows v n : ℕ) → n < 1024 → nat_lt n (min (rows - 1024 * v) 1024) ≡ nat_lt (1024 * v + n) rows
same_place rows v n l = grind (arith, nat_tests)

-- the live rows of one vector more
pub live_next : (deleted : Deleted) (name : BatchName) (rows v : ℕ)
    → count_below (is_live_at deleted name rows) (1024 * (v + 1)) ≡ count_below (is_live_at deleted name rows) (1024 * v) + count_by (λ row. row) (rows_of (is_live deleted name v (min (rows - 1024 * v) 1024)))
live_next deleted name rows v =
    let next : 1024 * (v + 1) ≡ 1024 * v + 1024 = omega arith in
    ap (count_below (is_live_at deleted name rows)) next
    ∙ count_below-add (is_live_at deleted name rows) (1024 * v) 1024
    ∙ ap (λ x. count_below (is_live_at deleted name rows) (1024 * v) + x)
    (count_below-same (λ i. is_live_at deleted name rows (1024 * v + i)) (is_live deleted name v (min (rows - 1024 * v) 1024)) 1024
    (λ n l. ap (λ b. b && not (set.contains deleted (record { batch = name; ordinal = 1024 * v + n }))) (sym (same_place rows v n l)))
    ∙ sym (count_by-rows_of (is_live deleted name v (min (rows - 1024 * v) 1024))))

-- the same, as it is counted
pub live_more : (deleted : Deleted) (name : BatchName) (rows v live covered count : ℕ) (mask : List Bool)
    → live ≡ count_below (is_live_at deleted name rows) (1024 * v) → covered ≡ min (rows - 1024 * v) 1024 → mask ≡ rows_of (is_live deleted name v covered) → count ≡ count_by (λ row. row) mask
    → live + count ≡ count_below (is_live_at deleted name rows) (1024 * (v + 1))
live_more deleted name rows v live covered count mask before covers is counted =
    let more : count ≡ count_by (λ row. row) (rows_of (is_live deleted name v (min (rows - 1024 * v) 1024))) =
    counted ∙ ap (count_by (λ row. row)) (is ∙ ap (λ n. rows_of (is_live deleted name v n)) covers) in
    omega (arith, before, more, live_next deleted name rows v)

-- no more are live than there are
pub live_few : (deleted : Deleted) (name : BatchName) (rows v n : ℕ) → n ≡ count_below (is_live_at deleted name rows) (1024 * v) → n ≤ 1024 * v
live_few deleted name rows v n is = omega (arith, is, count_below-le (is_live_at deleted name rows) (1024 * v))

-- past its last row a batch has none
pub live_end : (deleted : Deleted) (name : BatchName) (rows m : ℕ) → rows ≤ m → count_below (is_live_at deleted name rows) m ≡ count_below (is_live_at deleted name rows) rows
live_end deleted name rows m end =
    let parts : m ≡ rows + (m - rows) = omega arith in
    let past : (n : ℕ) → n < m - rows → nat_lt (rows + n) rows ≡ false = λ n l. grind (arith, nat_tests) in
    ap (count_below (is_live_at deleted name rows)) parts
    ∙ count_below-add (is_live_at deleted name rows) rows (m - rows)
    ∙ ap (λ x. count_below (is_live_at deleted name rows) rows + x)
    (count_below-same (λ i. is_live_at deleted name rows (rows + i)) (λ i. false) (m - rows)
    (λ n l. ap (λ b. b && not (set.contains deleted (record { batch = name; ordinal = rows + n }))) (past n l))
    ∙ count_below-none (m - rows))
    ∙ omega arith

-- whether the row at a place behind an ordinal isn't deleted
abbrev alive_from : Deleted → BatchName → ℕ → ℕ → Bool
alive_from deleted name k i = not (set.contains deleted (record { batch = name; ordinal = k + i }))

abbrev alive_rows : Deleted → BatchName → ℕ → Batch → List (RowName × Cells)
alive_rows deleted name k rows = filter (λ (row : RowName × Cells). not (set.contains deleted row.0)) (named_from name k rows)

one_more : (alive : Bool) (row : RowName × Cells) (rows : List (RowName × Cells)) (n : ℕ) → n ≡ length rows → cond alive 1 0 + n ≡ length (cond alive (row ∷ rows) rows)
one_more true row rows n is = omega (arith, is)
one_more false row rows n is = omega (arith, is)

first_counted : (p : ℕ → Bool) → count_below p 1 ≡ cond (p 0) 1 0
first_counted p = count_below-suc p 0 ∙ omega (arith, count_below-zero p)

counted_from : (deleted : Deleted) (name : BatchName) (k : ℕ) (rows : Batch) → count_below (alive_from deleted name k) (length rows) ≡ length (alive_rows deleted name k rows)
counted_from deleted name k [] = count_below-zero (alive_from deleted name k)
counted_from deleted name k (row ∷ rows) =
    let next : suc (length rows) ≡ 1 + length rows = omega arith in
    let here : k + 0 ≡ k = omega arith in
    let after : (i : ℕ) → k + (1 + i) ≡ suc k + i = λ i. omega arith in
    let rest : count_below (λ i. alive_from deleted name k (1 + i)) (length rows) ≡ length (alive_rows deleted name (suc k) rows) =
    count_below-same (λ i. alive_from deleted name k (1 + i)) (alive_from deleted name (suc k)) (length rows)
    (λ i l. ap (λ (n : ℕ). not (set.contains deleted (record { batch = name; ordinal = n }))) (after i))
    ∙ counted_from deleted name (suc k) rows in
    ap (count_below (alive_from deleted name k)) next
    ∙ count_below-add (alive_from deleted name k) 1 (length rows)
    ∙ ap (λ n. n + count_below (λ i. alive_from deleted name k (1 + i)) (length rows)) (first_counted (alive_from deleted name k) ∙ ap (λ (n : ℕ). cond (not (set.contains deleted (record { batch = name; ordinal = n }))) 1 0) here)
    ∙ one_more (not (set.contains deleted (record { batch = name; ordinal = k }))) (record { batch = name; ordinal = k }, row) (alive_rows deleted name (suc k) rows) (count_below (λ i. alive_from deleted name k (1 + i)) (length rows)) rest

-- the rows of a batch that aren't deleted, counted by their ordinals
pub live_counted : (deleted : Deleted) (name : BatchName) (rows : Batch) → count_below (is_live_at deleted name (length rows)) (length rows) ≡ length (live_rows_of deleted (name, rows))
live_counted deleted name rows =
    let within : (n : ℕ) → n < length rows → nat_lt n (length rows) ≡ true = λ n l. grind (arith, nat_tests) in
    let from_zero : (n : ℕ) → n ≡ 0 + n = λ n. omega arith in
    count_below-same (is_live_at deleted name (length rows)) (alive_from deleted name 0) (length rows)
    (λ n l. ap (λ b. b && not (set.contains deleted (record { batch = name; ordinal = n }))) (within n l)
    ∙ ap (λ (m : ℕ). not (set.contains deleted (record { batch = name; ordinal = m }))) (from_zero n))
    ∙ counted_from deleted name 0 rows
