-- The live rows of some batches: one batch more, how many they are, and how many passes they take.
use Rattle.std.proofs.Common.{◌≡◌, ℕ, zero, suc, ◌+◌, ◌-◌, ◌*◌, ◌<◌, ◌≤◌, Bool, not, min, List, [], ◌∷◌, ◌++◌, filter, length, take, drop, get_or, Option, sum_by, count_by, refl, sym, ap, subst, ◌∙◌, arith, append-nil}
use Rattle.std.specs.FinMap as finite
use Rattle.std.specs.FinSet as set
use Rattle.std.specs.Global.{Vec}
use Rattle.std.specs.List.{flat_map}
use Rattle.std.proofs.lemmas.Grind.{flat_map-append}
use Rattle.std.proofs.lemmas.List.{get_or-drop, length-append, length-drop, take-append-drop, take_all, take_min, take_more}
use Rattle.std.proofs.lemmas.List.Elements.{filter-append}
use Rattle.std.proofs.lemmas.List.Sums.{length-filter, count_by-le-length}
use Rattle.table_model.specs.Formula.{Formula}
use Rattle.table_model.specs.Group.{state_row_limit}
use Rattle.table_model.specs.Meaning.{at_row, is_kept}
use Rattle.table_model.specs.State.{Batch, Cells, State, live_rows, named_from, named_rows}
use Rattle.table_model.specs.Table.{Table}
use Rattle.table_model.specs.declared.names.BatchName.{BatchName}
use Rattle.table_model.specs.declared.names.RowName.{RowName}
use Rattle.query_eval.specs.Kept.{batch_rows, live_vectors_below, live_vectors_in}
use Rattle.query_eval.specs.Vector.{IsWithin, batch_at, batch_count}
use Rattle.query_eval.specs.declared.filter.kept_rows.KeptVector.{KeptVector}
use Rattle.live_columns.specs.Between.{batches_between, live_between, live_vectors_between, rows_between, rows_of_batches}
use Rattle.live_columns.specs.Chosen.{AreThere, IsChosen, rows_in, rows_where}
use Rattle.live_columns.specs.Walk.{rows_of_batch}
use Rattle.live_columns.proofs.RowLemmas.{rows-counted}

-- one batch more
pub between-more : (table : Table) (condition : Option Formula) (s : State) (first k : ℕ) → first + k < batch_count s → rows_between table condition s first (k + 1) ≡ rows_between table condition s first k ++ rows_of_batch table condition s (first + k)
unfolding batch_at batch_rows
between-more table condition s first k h =
    let d : BatchName × Batch = (record { origin = record { 0 = 0 }; number = record { 0 = 0 } }, []) in
    let es : List (BatchName × Batch) = finite.entries s.batches in
    let named : BatchName × Batch → List (RowName × Cells) = λ e. named_from e.0 0 e.1 in
    let is_there : RowName × Cells → Bool = λ row. not (set.contains s.deleted row.0) in
    let test : RowName × Cells → Bool = λ row. is_kept condition (at_row table.columns row.1) in
    let front : List (BatchName × Batch) = take k (drop first es) in
    let last : BatchName × Batch = get_or es (first + k) d in
    let one : take (k + 1) (drop first es) ≡ front ++ last ∷ [] = take_more (drop first es) k d (omega (arith, h, length-drop first es)) ∙ ap (λ (e : BatchName × Batch). front ++ e ∷ []) (get_or-drop first es k d) in
    ap (λ (l : List (BatchName × Batch)). filter test (filter is_there (flat_map named l))) one
    ∙ ap (λ (rows : List (RowName × Cells)). filter test (filter is_there rows)) (flat_map-append named front (last ∷ []) ∙ ap (λ (rows : List (RowName × Cells)). flat_map named front ++ rows) (append-nil (named last)))
    ∙ ap (filter test) (filter-append is_there (flat_map named front) (named last))
    ∙ filter-append test (filter is_there (flat_map named front)) (filter is_there (named last))

-- not more batches than there are
pub between-all : (table : Table) (condition : Option Formula) (s : State) (first count left k : ℕ) → left ≡ length (drop first (finite.entries s.batches)) → k ≡ min count left → rows_between table condition s first k ≡ rows_between table condition s first count
between-all table condition s first count left k is least =
    let es : List (BatchName × Batch) = drop first (finite.entries s.batches) in
    let same : take k es ≡ take count es = ap (λ n. take n es) (least ∙ ap (min count) is) ∙ take_min count es in
    ap (λ (l : List (BatchName × Batch)). filter (λ (row : RowName × Cells). is_kept condition (at_row table.columns row.1)) (filter (λ (row : RowName × Cells). not (set.contains s.deleted row.0)) (rows_of_batches l))) same

-- all batches have all live rows
pub between-whole : (table : Table) (condition : Option Formula) (s : State) (count : ℕ) → count ≡ finite.len s.batches → rows_between table condition s 0 count ≡ rows_where table condition s
unfolding rows_where live_rows
between-whole table condition s count is =
    let es : List (BatchName × Batch) = finite.entries s.batches in
    ap (λ (l : List (BatchName × Batch)). filter (λ (row : RowName × Cells). is_kept condition (at_row table.columns row.1)) (filter (λ (row : RowName × Cells). not (set.contains s.deleted row.0)) (rows_of_batches l)))
    (take_all count es (omega (arith, is, finite.len-entries s.batches)))

-- no more rows than a state may have
pub between-few : (table : Table) (condition : Option Formula) (s : State) (first count : ℕ) → IsWithin table s → length (rows_between table condition s first count) ≤ state_row_limit
between-few table condition s first count h =
    let named : BatchName × Batch → List (RowName × Cells) = λ e. named_from e.0 0 e.1 in
    let es : List (BatchName × Batch) = finite.entries s.batches in
    let rest : List (BatchName × Batch) = drop first es in
    let some : List (BatchName × Batch) = take count rest in
    let is_there : RowName × Cells → Bool = λ row. not (set.contains s.deleted row.0) in
    let test : RowName × Cells → Bool = λ row. is_kept condition (at_row table.columns row.1) in
    let whole : length (flat_map named (take first es)) + length (flat_map named rest) ≡ length (flat_map named es) =
    sym (length-append (flat_map named (take first es)) (flat_map named rest)) ∙ ap length (sym (flat_map-append named (take first es) rest)) ∙ ap (λ (l : List (BatchName × Batch)). length (flat_map named l)) (take-append-drop first es) in
    let part : length (flat_map named some) + length (flat_map named (drop count rest)) ≡ length (flat_map named rest) =
    sym (length-append (flat_map named some) (flat_map named (drop count rest))) ∙ ap length (sym (flat_map-append named some (drop count rest))) ∙ ap (λ (l : List (BatchName × Batch)). length (flat_map named l)) (take-append-drop count rest) in
    omega (arith, h.rows, whole, part, length-filter test (live_between s first count), count_by-le-length test (live_between s first count), length-filter is_there (flat_map named some), count_by-le-length is_there (flat_map named some))

-- one batch more of the walk
pub between-step : (table t : Table) (condition : Option Formula) (s r : State) (first k at : ℕ) (now next : List KeptVector) → first + k < batch_count s → at ≡ first + k → t ≡ table → r ≡ s →
    rows_in s now ≡ rows_between table condition s first k → rows_in r next ≡ rows_in r now ++ rows_of_batch t condition r at → rows_in s next ≡ rows_between table condition s first (k + 1)
between-step table t condition s r first k at now next within place same_table same_state before here =
    let step : rows_in s next ≡ rows_in s now ++ rows_of_batch table condition s (first + k) =
    subst (λ (n : ℕ). rows_in s next ≡ rows_in s now ++ rows_of_batch table condition s n) place
    (subst (λ (x : State). rows_in x next ≡ rows_in x now ++ rows_of_batch table condition x at) same_state
    (subst (λ (y : Table). rows_in r next ≡ rows_in r now ++ rows_of_batch y condition r at) same_table here)) in
    step ∙ ap (λ l. l ++ rows_of_batch table condition s (first + k)) before ∙ sym (between-more table condition s first k within)

-- how many rows masks have is how many rows are chosen
pub between-count : (table : Table) (condition : Option Formula) (s : State) (vectors : List KeptVector) (first k : ℕ) → AreThere s vectors → rows_in s vectors ≡ rows_between table condition s first k →
    sum_by (λ kept. count_by (λ row. row) kept.rows) vectors ≡ length (rows_between table condition s first k)
between-count table condition s vectors first k there rows = rows-counted s vectors there ∙ ap length rows

pub between-chosen : (table : Table) (condition : Option Formula) (s : State) (vectors : Vec KeptVector) (first count left k found : ℕ) → IsWithin table s → left ≡ length (drop first (finite.entries s.batches)) → k ≡ min count left → AreThere s vectors.items
    → rows_in s vectors.items ≡ rows_between table condition s first k → found ≡ sum_by (λ kept. count_by (λ row. row) kept.rows) vectors.items → IsChosen s (rows_between table condition s first count) (record { vectors = vectors; count = found })
between-chosen table condition s vectors first count left k found within is least there rows counted =
    let all : rows_in s vectors.items ≡ rows_between table condition s first count = rows ∙ between-all table condition s first count left k is least in
    let many : found ≡ length (rows_between table condition s first count) = counted ∙ between-count table condition s vectors.items first count there all in
    record {
      there = there;
      are = all;
      count = many;
      few = omega (arith, many, between-few table condition s first count within);
    }

-- ---- passes
-- one batch more
live-more : (s : State) (first k : ℕ) → live_vectors_between s first (k + 1) ≡ live_vectors_between s first k + live_vectors_in s (first + k)
unfolding live_vectors_between
live-more s first k = ap (live_vectors_between s first) (let e : k + 1 ≡ suc k = omega arith in e)

-- more batches have no fewer
live-fewer : (s : State) (first k d : ℕ) → live_vectors_between s first k ≤ live_vectors_between s first (k + d)
live-fewer s first k zero = omega (arith, ap (live_vectors_between s first) (let e : k + 0 ≡ k = omega arith in e))
live-fewer s first k (suc d) = omega (arith, live-fewer s first k d, live-more s first (k + d), ap (live_vectors_between s first) (let e : k + suc d ≡ (k + d) + 1 = omega arith in e))

-- all batches have all of them
live-whole : (s : State) (count : ℕ) → live_vectors_between s 0 count ≡ live_vectors_below s count
unfolding live_vectors_between live_vectors_below
live-whole s zero = refl
live-whole s (suc count) = ap (λ n. n + live_vectors_in s (0 + count)) (live-whole s count) ∙ ap (λ n. live_vectors_below s count + live_vectors_in s n) (let e : 0 + count ≡ count = omega arith in e)

scaled : (M a e b : ℕ) → b ≡ a + e → M * a ≤ M * b
scaled M a e b is = omega (arith, ap (λ n. M * n) is)

-- the passes of one batch more
pub passes-between : (s r : State) (first k M p0 p q : ℕ) → r ≡ s → p ≤ p0 + M * live_vectors_between s first k → q ≤ p + M * live_vectors_in r (first + k) → q ≤ p0 + M * live_vectors_between s first (k + 1)
passes-between s r first k M p0 p q same before here =
    let moved : M * live_vectors_in r (first + k) ≡ M * live_vectors_in s (first + k) = ap (λ (x : State). M * live_vectors_in x (first + k)) same in
    let more : M * live_vectors_between s first (k + 1) ≡ M * (live_vectors_between s first k + live_vectors_in s (first + k)) = ap (λ n. M * n) (live-more s first k) in
    omega (arith, moved, more, before, here)

-- those of the batches that there are, as of all that are asked for
pub passes-least : (s : State) (first count left k M p0 p : ℕ) → k ≡ min count left → p ≤ p0 + M * live_vectors_between s first k → p ≤ p0 + M * live_vectors_between s first count
passes-least s first count left k M p0 p least before =
    let rest : count ≡ k + (count - k) = omega (arith, least) in
    let few : live_vectors_between s first k ≤ live_vectors_between s first count = omega (arith, live-fewer s first k (count - k), ap (live_vectors_between s first) rest) in
    omega (arith, before, scaled M (live_vectors_between s first k) (live_vectors_between s first count - live_vectors_between s first k) (live_vectors_between s first count) (omega (arith, few)))

-- all batches have all vectors
pub passes-whole : (s : State) (count : ℕ) → count ≡ batch_count s → live_vectors_between s 0 count ≡ live_vectors_below s (batch_count s)
passes-whole s count is = live-whole s count ∙ ap (live_vectors_below s) is
