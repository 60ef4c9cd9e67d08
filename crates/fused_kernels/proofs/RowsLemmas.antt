-- A set function of a vector's rows looked at, from the values that its coding has.
use Rattle.std.proofs.Common.{◌≡◌, ◌<◌, ℕ, Bool, cond, ℤ, pos, ◌+ℤ◌, List, Some, None, sym, ap, ◌∙◌}
use Rattle.transpose_order.specs.Mask.{rows_of, has}
use Rattle.transpose_order.specs.MaskWords.{has-rows_of}
use Rattle.bit_interleave.specs.Range.{value_at}
use Rattle.table_model.specs.Values.{total}
use Rattle.segment_core.specs.Coded.{value_in}
use Rattle.segment_core.specs.CodedVector.{VectorForm}
use Rattle.segment_core.proofs.CodedLemmas.{value_at-values_of}
use Rattle.native_lanes.specs.Folds.{fold_to}
use Rattle.table_model.specs.declared.extreme.Extreme.{Extreme}
use Rattle.table_model.specs.Extreme.{extreme_of, further}
use Rattle.native_lanes.specs.Extremes.{extreme_at}
use Rattle.fused_kernels.specs.Seen.{LanesSeen, looked_at, looked_cell, values_looked_at}
use Rattle.fused_kernels.specs.VectorSeen.{vector_seen}
use Rattle.native_lanes.proofs.FoldLemmas.{fold_to-same}
use Rattle.fused_kernels.proofs.ExtremeLemmas.{extreme-looked_at}
use Rattle.fused_kernels.proofs.SumLemmas.{term_of, term_of_cell, total-looked_at}

pub sum_of_rows : (v : VectorForm) (mask rows : List Bool) (value : ℕ → ℤ) → rows ≡ rows_of (looked_at (vector_seen v 0) mask) → ((n : ℕ) → value_in v.coded n ≡ value n) → fold_to ◌+ℤ◌ (pos 0) 1024 (λ n. cond (has rows n) (value n) (pos 0)) ≡ total (values_looked_at (vector_seen v 0) mask)
sum_of_rows v mask rows value is same =
    let s : LanesSeen = vector_seen v 0 in
    fold_to-same ◌+ℤ◌ (pos 0) 1024 (λ n. cond (has rows n) (value n) (pos 0)) (λ n. term_of (looked_cell s mask n))
    (λ n h.
    ap (λ (b : Bool). cond b (value n) (pos 0)) (ap (λ m. has m n) is ∙ has-rows_of (looked_at s mask) n h)
    ∙ ap (λ (z : ℤ). cond (looked_at s mask n) z (pos 0)) (sym (value_at-values_of v.coded n h ∙ same n)) ∙ sym (term_of_cell (looked_at s mask n) (value_at s.values n)))
    ∙ sym (total-looked_at s mask)

cells_of_rows : (v : VectorForm) (mask rows : List Bool) (value : ℕ → ℤ) → rows ≡ rows_of (looked_at (vector_seen v 0) mask) → ((n : ℕ) → value_in v.coded n ≡ value n) → (n : ℕ) → n < 1024 → cond (has rows n) (Some (value n)) None ≡ looked_cell (vector_seen v 0) mask n
cells_of_rows v mask rows value is same n h =
    let s : LanesSeen = vector_seen v 0 in
    ap (λ (b : Bool). cond b (Some (value n)) None) (ap (λ m. has m n) is ∙ has-rows_of (looked_at s mask) n h)
    ∙ ap (λ (z : ℤ). cond (looked_at s mask n) (Some z) None) (sym (value_at-values_of v.coded n h ∙ same n))

pub extreme_of_rows : (side : Extreme) (v : VectorForm) (mask rows : List Bool) (value : ℕ → ℤ) → rows ≡ rows_of (looked_at (vector_seen v 0) mask) → ((n : ℕ) → value_in v.coded n ≡ value n)
    → extreme_at side rows value ≡ extreme_of side (values_looked_at (vector_seen v 0) mask)
extreme_of_rows side v mask rows value is same =
    let s : LanesSeen = vector_seen v 0 in
    fold_to-same (further side) None 1024 (λ n. cond (has rows n) (Some (value n)) None) (looked_cell s mask) (cells_of_rows v mask rows value is same)
    ∙ sym (extreme-looked_at side s mask)
