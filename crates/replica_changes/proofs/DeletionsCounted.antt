-- The rows of batches that are deleted, counted as those that are not live.
use Rattle.std.specs.Prelude.{◌≡◌, ℕ, suc, ◌+◌, ◌-◌, ◌<◌, Bool, true, false, cond, not, List, [], ◌∷◌, filter, length}
use Rattle.std.proofs.Common.{refl, sym, ap, ◌∙◌, arith, drop, get_or}
use Rattle.std.proofs.lemmas.List.{drop_more}
use Rattle.std.specs.FinSet as set
use Rattle.table_model.specs.Name.{row_name_cmp}
use Rattle.table_model.specs.State.{Batch, Cells, named_from}
use Rattle.table_model.specs.declared.names.BatchName.{BatchName}
use Rattle.table_model.specs.declared.names.RowName.{RowName}
use Rattle.transpose_order.specs.Mask.{count_below}
use Rattle.catalogue_join.specs.Run.{name_at}
use Rattle.segment_core.specs.Segment.{SegmentForm}
use Rattle.replica_changes.specs.Loads.{batches_in, deleted_among, numbered_from}
use Rattle.replica_reports.specs.Counts.{is_live_at, live_rows_of}
use Rattle.replica_reports.proofs.BatchCounting.{live_counted}
use Rattle.replica_reports.proofs.CountedBatches.{length-named_from}

-- what passes and what does not are all
both_counted : {X : Type 0} (p : X → Bool) (xs : List X) → length (filter p xs) + length (filter (λ (x : X). not (p x)) xs) ≡ length xs
both_counted p [] = refl
both_counted {X = X} p (x ∷ xs) = by (p x) (both_counted p xs)
  where
    by : (b : Bool) → length (filter p xs) + length (filter (λ (y : X). not (p y)) xs) ≡ length xs
        → length (cond b (x ∷ filter p xs) (filter p xs)) + length (cond (not b) (x ∷ filter (λ (y : X). not (p y)) xs) (filter (λ (y : X). not (p y)) xs)) ≡ suc (length xs)
    by true rest = omega (arith, rest)
    by false rest = omega (arith, rest)

-- the rows of a batch that are not live are deleted
pub deleted_is : (deleted : set.FinSet row_name_cmp) (name : BatchName) (rows : Batch) (live : ℕ) → live ≡ count_below (is_live_at deleted name (length rows)) (length rows)
    → length rows - live ≡ length (filter (λ (row : RowName × Cells). set.contains deleted row.0) (named_from name 0 rows))
deleted_is deleted name rows live is =
    let alive : live ≡ length (live_rows_of deleted (name, rows)) = is ∙ live_counted deleted name rows in
    let all = both_counted (λ (row : RowName × Cells). set.contains deleted row.0) (named_from name 0 rows) in
    let count = length-named_from name 0 rows in
    omega (arith, alive, all, count)

-- the rows of one segment more are counted
pub deleted_then : (deleted : set.FinSet row_name_cmp) (first : BatchName) (n at : ℕ) (segments : List SegmentForm) (s : SegmentForm) (rows live count total : ℕ)
    → at < length segments → s ≡ get_or segments at s → rows ≡ length s.rows
    → live ≡ count_below (is_live_at deleted (name_at first.origin (n + at)) rows) rows
    → count + deleted_among deleted (numbered_from first (n + at) (batches_in (drop at segments))) ≡ total
    → count + (rows - live) + deleted_among deleted (numbered_from first (n + (at + 1)) (batches_in (drop (at + 1) segments))) ≡ total
deleted_then deleted first n at segments s rows live count total there is many counted so =
    let more : List SegmentForm = drop (at + 1) segments in
    let here : drop at segments ≡ s ∷ more = drop_more segments at s there ∙ ap (λ (x : SegmentForm). x ∷ more) (sym is) in
    let name : BatchName = name_at first.origin (n + at) in
    let gone : List (RowName × Cells) = filter (λ (row : RowName × Cells). set.contains deleted row.0) (named_from name 0 s.rows) in
    let next : n + at + 1 ≡ n + (at + 1) = omega arith in
    let now : deleted_among deleted (numbered_from first (n + at) (batches_in (drop at segments))) ≡ length gone + deleted_among deleted (numbered_from first (n + (at + 1)) (batches_in more)) =
    ap (λ (xs : List SegmentForm). deleted_among deleted (numbered_from first (n + at) (batches_in xs))) here
    ∙ ap (λ (m : ℕ). length gone + deleted_among deleted (numbered_from first m (batches_in more))) next in
    let mine : length s.rows - live ≡ length gone = deleted_is deleted name s.rows live (counted ∙ ap (λ (r : ℕ). count_below (is_live_at deleted name r) r) many) in
    omega (arith, so, now, mine, many)
