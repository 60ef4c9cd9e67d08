-- Each row that is looked at has one value.
use Rattle.std.proofs.Common.{◌≡◌, ℕ, zero, suc, ◌+◌, Bool, true, false, cond, ℤ, List, [], ◌∷◌, map, length, Option, Some, None, refl, sym, ap, ◌∙◌, length-append}
use Rattle.std.specs.List.{range_with_len}
use Rattle.table_model.specs.Values.{present}
use Rattle.transpose_order.specs.Mask.{rows_of, count_below}
use Rattle.transpose_order.proofs.MaskLemmas.{count_below-zero, count_below-suc}
use Rattle.bit_interleave.specs.Range.{value_at}
use Rattle.fused_kernels.specs.Seen.{LanesSeen, looked_at, values_looked_at}
use Rattle.fused_kernels.proofs.SumLemmas.{present-more}

one_value : (b : Bool) (v : ℤ) → length (present (cond b (Some v) None ∷ [])) ≡ cond b 1 0
one_value true v = refl
one_value false v = refl

length-cells : (look : ℕ → Bool) (v : ℕ → ℤ) (n : ℕ) → length (present (map (λ k. cond (look k) (Some (v k)) None) (range_with_len 0 n))) ≡ count_below look n
length-cells look v zero = sym (count_below-zero look)
length-cells look v (suc n) =
    let f : ℕ → Option ℤ = λ k. cond (look k) (Some (v k)) None in
    ap length (present-more f n) ∙ length-append (present (map f (range_with_len 0 n))) (present (f n ∷ []))
    ∙ ap (λ k. k + length (present (f n ∷ []))) (length-cells look v n) ∙ ap (λ k. count_below look n + k) (one_value (look n) (v n))
    ∙ sym (count_below-suc look n)

pub length-looked_at : (s : LanesSeen) (mask : List Bool) → length (values_looked_at s mask) ≡ count_below (looked_at s mask) 1024
unfolding values_looked_at rows_of
length-looked_at s mask = length-cells (looked_at s mask) (value_at s.values) 1024
