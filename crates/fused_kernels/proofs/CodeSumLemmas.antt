-- Sums over the codes of a dictionary, step by step.
use Rattle.std.proofs.Common.{◌≡◌, ℕ, ◌^◌, ◌<◌, Bool, true, false, cond, ℤ, pos, ◌+ℤ◌, ◌-ℤ◌, ◌≤ℤ◌, ◌↔◌, ◌-◌, List, length, FitsSigned, to_z, of_z, inl, inr, refl, sym, ap, subst, ◌∙◌, arith}
use Rattle.std.specs.Int.{w32, w64}
use Rattle.std.proofs.lemmas.Int.{ints, to_z-of_z}
use Rattle.std.proofs.lemmas.List.{get_or_default}
use Rattle.transpose_order.specs.Place.{row_at}
use Rattle.transpose_order.proofs.PlaceLemmas.{lane_of-row_at}
use Rattle.bit_interleave.specs.Packing.{packed_value}
use Rattle.bit_interleave.specs.Range.{AreInRange, value_at}
use Rattle.run_dictionary.specs.Dict.{DictForm, IsAscending, IsDictForm, code_at}
use Rattle.run_dictionary.proofs.DictLemmas.{code_at-row_at}
use Rattle.native_lanes.specs.Folds.{fold_to}
use Rattle.native_lanes.proofs.WalkLemmas.{fold_to-lanes, fold_to-swap}
use Rattle.fused_kernels.proofs.CodeLemmas.{ascending_rises}
use Rattle.fused_kernels.proofs.SumLemmas.{sum_is_join}

-- the number of a step's lane is the code of its row
pub number_is_code : (form : DictForm) (width : ℕ) (words : List ℕ) (number lane step : ℕ) → lane < 64 → step < 16 → number ≡ packed_value 16 width words lane step → width ≡ form.width → words ≡ form.codes.numbers → number ≡ code_at form (row_at 16 lane step)
number_is_code form width words number lane step h s e w n =
    e ∙ ap (λ (k : ℕ). packed_value 16 k words lane step) w ∙ ap (λ (xs : List ℕ). packed_value 16 form.width xs lane step) n
    ∙ sym (code_at-row_at form lane step h s)

-- so it is a place in the dictionary
pub number_below : (form : DictForm) (number lane step : ℕ) → IsDictForm form → lane < 64 → step < 16 → number ≡ code_at form (row_at 16 lane step) → number < length form.values
number_below form number lane step is h s e =
    let inside = (lane_of-row_at 16 lane step (inr (inl refl)) h s).0 in
    let below = is.codes (row_at 16 lane step) inside in
    omega (arith, e, below)

-- the steps over their lanes are the rows
pub steps_are_rows : (term : ℕ → ℤ) → fold_to ◌+ℤ◌ (pos 0) 16 (λ s. fold_to ◌+ℤ◌ (pos 0) 64 (λ lane. term (row_at 16 lane s))) ≡ fold_to ◌+ℤ◌ (pos 0) 1024 term
steps_are_rows term =
    fold_to-swap ◌+ℤ◌ (pos 0) sum_is_join 16 64 (λ s lane. term (row_at 16 lane s))
    ∙ fold_to-lanes ◌+ℤ◌ (pos 0) sum_is_join 16 term (inr (inl refl))

-- a sum that 64 bits hold is not wrapped
pub sum_kept : (a b : ℤ) → FitsSigned w64 b → FitsSigned w64 (a +ℤ b) → to_z w64 (of_z w64 (a +ℤ to_z w64 (of_z w64 b))) ≡ a +ℤ b
sum_kept a b one both = ap (λ z. to_z w64 (of_z w64 (a +ℤ z))) (to_z-of_z w64 b one) ∙ to_z-of_z w64 (a +ℤ b) both

-- ---- values of 32 bits
pub narrow_from : (b : Bool) (v : ℤ) → FitsSigned w32 v → (pos 0 -ℤ pos (2 ^ 31)) ≤ℤ cond b v (pos 0)
narrow_from true v fits = omega (arith, ints)
narrow_from false v fits = omega (arith, ints)

pub narrow_up_to : (b : Bool) (v : ℤ) → FitsSigned w32 v → cond b v (pos 0) ≤ℤ pos (2 ^ 31)
narrow_up_to true v fits = omega (arith, ints)
narrow_up_to false v fits = omega (arith, ints)

-- the greatest value of an ascending list decides, where the least is in the range
pub narrow_by_ends : (xs : List ℤ) → IsAscending xs → 0 < length xs → (pos 0 -ℤ pos (2 ^ 31)) ≤ℤ value_at xs 0 → (value_at xs (length xs - 1) ≤ℤ pos (2 ^ 31 - 1)) ↔ AreInRange 32 xs
narrow_by_ends xs ascends some low = (all, last)
  where
    all : value_at xs (length xs - 1) ≤ℤ pos (2 ^ 31 - 1) → AreInRange 32 xs
    all high = λ k d l.
        let rises = ascending_rises xs ascends in
        let from = rises 0 k (omega arith) l in
        let up_to = rises k (length xs - 1) (omega (arith, l)) (omega (arith, some)) in
        subst (λ (z : ℤ). FitsSigned w32 z) (get_or_default xs k (pos 0) d l) (omega (arith, ints, from, up_to, low, high))

    last : AreInRange 32 xs → value_at xs (length xs - 1) ≤ℤ pos (2 ^ 31 - 1)
    last fits = let one : FitsSigned w32 (value_at xs (length xs - 1)) = fits (length xs - 1) (pos 0) (omega (arith, some)) in omega (arith, ints, one)
