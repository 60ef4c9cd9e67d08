-- The rows of one vector, or of one batch, more among those that are taken in.
use Rattle.std.proofs.Common.{◌≡◌, ℕ, suc, ◌+◌, ◌*◌, ◌≤◌, ◌<◌, Bool, true, false, not, cond, List, [], ◌++◌, Option, Some, None, count_by, refl, sym, ap, subst, ◌∙◌, arith, append_assoc, append-nil}
use Rattle.std.proofs.lemmas.Bool.{ne_eqb}
use Rattle.table_model.specs.Formula.{Formula}
use Rattle.table_model.specs.State.{Cells, State}
use Rattle.table_model.specs.Table.{Table}
use Rattle.transpose_order.specs.Mask.{rows_of, has, count_below}
use Rattle.query_eval.specs.Finished.{PlanShape}
use Rattle.query_eval.specs.Kept.{kept_mask, has_live, live_vectors_in, live_vectors_below, rows_at, rows_kept, batch_alive}
use Rattle.query_eval.specs.Taken.{AreTaken}
use Rattle.query_eval.specs.Vector.{Vector, vector_at, row_at, is_live, batch_count, vector_count}
use Rattle.query_eval.specs.declared.answers.taken_rows.Taken.{Taken}
use Rattle.query_eval.proofs.KeptLemmas.{no_true, kept-nowhere}
use Rattle.query_eval.proofs.Lifted.{none_present, front_kept, front_kept-more, first_alive, first_alive-more, rows_kept-append}

-- ---- the rows of a mask
rows_at-none : (v : Vector) (mask : List Bool) → count_by (λ b. b) mask ≡ 0 → rows_at v mask ≡ []
unfolding rows_at
rows_at-none v mask h = none_present (λ n. cond (has mask n) (Some (row_at v n)) None) (λ n l. ap (λ b. cond b (Some (row_at v n)) None) (no_true mask n h))

-- where a row is kept, there is a live one
pub kept-live : (table : Table) (condition : Option Formula) (v : Vector) (mask : List Bool) → mask ≡ kept_mask table condition v → (count_by (λ b. b) mask ≡ 0 → ⊥) → has_live v ≡ true
unfolding has_live
kept-live table condition v mask e ne =
    ap not
    (ne_eqb (count_by (λ b. b) (rows_of (is_live v))) 0
    (λ none. ne (ap (count_by (λ b. b)) (e ∙ sym (kept-nowhere table condition v (rows_of (is_live v)) refl none)) ∙ none)))

-- ---- one vector
pub nothing-kept : (plan : PlanShape) (table : Table) (condition : Option Formula) (v : Vector) (mask : List Bool) (taken : Taken) → mask ≡ kept_mask table condition v → count_by (λ b. b) mask ≡ 0 → (rows : List Cells) → AreTaken plan rows taken → AreTaken plan (rows ++ rows_at v (kept_mask table condition v)) taken
nothing-kept plan table condition v mask taken e none rows h =
    subst (λ (l : List Cells). AreTaken plan l taken) (sym (ap (λ l. rows ++ l) (ap (rows_at v) (sym e) ∙ rows_at-none v mask none) ∙ append-nil rows)) h

pub passes-kept : (b : Bool) (W P p q : ℕ) → q ≤ p + cond b W 0 → q ≤ p + cond b (W + P) 0
passes-kept true W P p q h = omega (arith, h)
passes-kept false W P p q h = h

pub passes-taken : (b : Bool) (W P p q r : ℕ) → b ≡ true → q ≤ p + cond b W 0 → r ≤ q + P → r ≤ p + cond b (W + P) 0
passes-taken true W P p q r e h k = omega (arith, h, k)
passes-taken false W P p q r e h k = absurd cc

-- ---- one vector more of a batch
pub vector-more : (plan : PlanShape) (table t : Table) (condition : Option Formula) (s r : State) (batch vector : ℕ) (taken : Taken) → vector < vector_count s batch → t ≡ table → r ≡ s → (rows : List Cells) → AreTaken plan ((rows ++ front_kept table condition s batch vector) ++ rows_at (vector_at r batch vector) (kept_mask t condition (vector_at r batch vector))) taken → AreTaken plan (rows ++ front_kept table condition s batch (vector + 1)) taken
vector-more plan table t condition s r batch vector taken within same_table same_state rows h =
    let front : List Cells = rows ++ front_kept table condition s batch vector in
    let here = subst (λ (x : State). AreTaken plan (front ++ rows_at (vector_at x batch vector) (kept_mask table condition (vector_at x batch vector))) taken) same_state (subst (λ (x : Table). AreTaken plan (front ++ rows_at (vector_at r batch vector) (kept_mask x condition (vector_at r batch vector))) taken) same_table h) in
    subst (λ (l : List Cells). AreTaken plan l taken)
    (append_assoc rows (front_kept table condition s batch vector) (rows_at (vector_at s batch vector) (kept_mask table condition (vector_at s batch vector)))
    ∙ ap (λ l. rows ++ l) (sym (front_kept-more table condition s batch vector within)))
    here

counted-more : (p : ℕ → Bool) (n : ℕ) → count_below p (n + 1) ≡ count_below p n + cond (p n) 1 0
unfolding count_below
counted-more p n = ap (count_below p) (let e : n + 1 ≡ suc n = omega arith in e)

by_live : (b : Bool) (M p0 p n : ℕ) → p ≤ p0 + M * n → (q : ℕ) → q ≤ p + cond b M 0 → q ≤ p0 + M * (n + cond b 1 0)
by_live true M p0 p n h q k = omega (arith, h, k)
by_live false M p0 p n h q k = omega (arith, h, k)

pub passes-more : (s r : State) (batch vector M p0 p q : ℕ) → r ≡ s → p ≤ p0 + M * count_below (λ v. has_live (vector_at s batch v)) vector → q ≤ p + cond (has_live (vector_at r batch vector)) M 0 → q ≤ p0 + M * count_below (λ v. has_live (vector_at s batch v)) (vector + 1)
passes-more s r batch vector M p0 p q same h k =
    let moved : cond (has_live (vector_at r batch vector)) M 0 ≡ cond (has_live (vector_at s batch vector)) M 0 = ap (λ (x : State). cond (has_live (vector_at x batch vector)) M 0) same in
    let more : M * count_below (λ v. has_live (vector_at s batch v)) (vector + 1) ≡ M * (count_below (λ v. has_live (vector_at s batch v)) vector + cond (has_live (vector_at s batch vector)) 1 0) = ap (λ n. M * n) (counted-more (λ v. has_live (vector_at s batch v)) vector) in
    omega (arith, more, by_live (has_live (vector_at s batch vector)) M p0 p (count_below (λ v. has_live (vector_at s batch v)) vector) h q (omega (arith, moved, k)))

-- ---- one batch more
below-more : (s : State) (batch : ℕ) → live_vectors_below s (batch + 1) ≡ live_vectors_below s batch + live_vectors_in s batch
unfolding live_vectors_below
below-more s batch = ap (live_vectors_below s) (let e : batch + 1 ≡ suc batch = omega arith in e)

pub batch-more : (plan : PlanShape) (table t : Table) (condition : Option Formula) (s r : State) (batch : ℕ) (taken : Taken) → batch < batch_count s → t ≡ table → r ≡ s → AreTaken plan (rows_kept table condition (first_alive s batch) ++ rows_kept t condition (batch_alive r batch)) taken → AreTaken plan (rows_kept table condition (first_alive s (batch + 1))) taken
batch-more plan table t condition s r batch taken within same_table same_state h =
    let front : List Cells = rows_kept table condition (first_alive s batch) in
    let here = subst (λ (x : State). AreTaken plan (front ++ rows_kept table condition (batch_alive x batch)) taken) same_state (subst (λ (x : Table). AreTaken plan (front ++ rows_kept x condition (batch_alive r batch)) taken) same_table h) in
    subst (λ (l : List Cells). AreTaken plan l taken) (sym (ap (rows_kept table condition) (first_alive-more s batch within) ∙ rows_kept-append table condition (first_alive s batch) (batch_alive s batch))) here

pub passes-batch : (s r : State) (batch M p0 p q : ℕ) → r ≡ s → p ≤ p0 + M * live_vectors_below s batch → q ≤ p + M * live_vectors_in r batch → q ≤ p0 + M * live_vectors_below s (batch + 1)
passes-batch s r batch M p0 p q same h k =
    let moved : M * live_vectors_in r batch ≡ M * live_vectors_in s batch = ap (λ (x : State). M * live_vectors_in x batch) same in
    let more : M * live_vectors_below s (batch + 1) ≡ M * (live_vectors_below s batch + live_vectors_in s batch) = ap (λ n. M * n) (below-more s batch) in
    omega (arith, moved, more, h, k)
