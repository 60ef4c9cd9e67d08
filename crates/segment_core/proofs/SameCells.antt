-- Cells that all have the same value: their filled vector, their canonical form and their canonical vector.
use Rattle.std.proofs.Common.{◌≡◌, ℕ, ◌<◌, ◌≤◌, ◌-◌, ◌/◌, ◌⊎◌, inl, inr, Bool, false, cond, ℤ, pos, List, length, Option, Some, None, sym, ◌∙◌, ap, arith}
use Rattle.std.proofs.lemmas.List.Elements.{All-from_get_or}
use Rattle.std.proofs.lemmas.List.Folds.{list_any_none}
use Rattle.std.proofs.lemmas.Bool.{cases_lt}
use Rattle.std.proofs.lemmas.List.{get_or_default}
use Rattle.transpose_order.specs.Mask.{has}
use Rattle.transpose_order.specs.Place.{IsLaneWidth}
use Rattle.bit_interleave.specs.Range.{value_at}
use Rattle.frame_delta.specs.Frame.{least_frame, frame_width}
use Rattle.frame_delta.proofs.SameValues.{width_same}
use Rattle.segment_core.specs.Fill.{filled_at, filled, AreSame}
use Rattle.segment_core.specs.Choice.{choice, canonical_form, least_bytes}
use Rattle.segment_core.specs.CodedVector.{VectorForm, canonical_vector, is_null_cell, null_rows, null_mask}
use Rattle.segment_core.specs.declared.coding.Coding.{Coding}
use Rattle.segment_core.specs.declared.coding.Coding.TheVariants.{For as ByFrame}
use Rattle.segment_core.specs.declared.coded.Coded.TheVariants.{For}
use Rattle.segment_core.specs.Coded.{least_form}
use Rattle.segment_core.proofs.ChoiceLemmas.{bare_frame_is_first}
use Rattle.segment_core.proofs.FillLemmas.{length-filled, value_at-filled, filled_at-some, filled_past}
use Rattle.segment_core.proofs.VectorLemmas.{length-null_rows, has-null_rows, null_past}

module _ (rows : ℕ) (value : ℤ) (cells : List (Option ℤ)) (some : 1 ≤ rows) (h : AreSame rows value cells) where
  past_same : (n : ℕ) → rows ≤ n → filled_at cells n ≡ value
  past_same n l =
      let count = h.count in
      filled_past cells n (omega arith) ∙ sym (filled_past cells (rows - 1) (omega arith))
      ∙ filled_at-some cells (rows - 1) value (omega arith) (h.each (rows - 1) (omega arith))

  filled_same_at : (n : ℕ) → (n < rows) ⊎ (rows ≤ n) → filled_at cells n ≡ value
  filled_same_at n (inl l) = let count = h.count in filled_at-some cells n value (omega arith) (h.each n l)
  filled_same_at n (inr l) = past_same n l

  pub filled_same : (n : ℕ) → n < 1024 → value_at (filled cells) n ≡ value
  filled_same n l = value_at-filled cells n l ∙ filled_same_at n (cases_lt n rows)

  bytes_same : (t : ℕ) → least_bytes t (filled cells) ByFrame ≡ t / 8
  unfolding least_frame
  bytes_same t = let w : frame_width (filled cells) ≡ 0 = width_same (filled cells) value filled_same in omega (arith, w)

  pub form_same : (t : ℕ) → IsLaneWidth t → canonical_form t (filled cells) ≡ For (least_frame t (filled cells))
  unfolding choice
  form_same t w = ap (λ (k : Coding). least_form k t (filled cells)) (bare_frame_is_first t (filled cells) w (length-filled cells) (bytes_same t))

  null_at : (n : ℕ) → n < 1024 → (n < rows) ⊎ (rows ≤ n) → has (null_rows cells) n ≡ false
  null_at n l (inl m) = let count = h.count in has-null_rows cells n l ∙ ap is_null_cell (get_or_default cells n (Some (pos 0)) None (omega arith) ∙ h.each n m)
  null_at n l (inr m) = let count = h.count in null_past cells n (omega arith) (inl l)

  no_nulls : None ≡ null_mask cells
  no_nulls =
      ap (λ b. cond b (Some (null_rows cells)) None)
      (sym (list_any_none (λ row. row) (null_rows cells) (All-from_get_or (λ (b : Bool). b ≡ false) (null_rows cells) false (λ n l. let m : n < 1024 = omega (arith, length-null_rows cells) in null_at n m (cases_lt n rows)))))

  -- the canonical vector is the frame of the one value
  pub vector_same : (t : ℕ) (vector : VectorForm) → IsLaneWidth t → vector.rows ≡ rows → vector.nulls ≡ None → vector.coded ≡ For (least_frame t (filled cells)) → vector ≡ canonical_vector t cells
  vector_same t vector w of_rows of_nulls of_coded =
      let wide : vector.rows ≡ length cells = of_rows ∙ sym h.count in
      let nulls : vector.nulls ≡ null_mask cells = of_nulls ∙ no_nulls in
      let coded : vector.coded ≡ canonical_form t (filled cells) = of_coded ∙ sym (form_same t w) in
      λ i. record { rows = wide i; nulls = nulls i; coded = coded i }
