-- Packed sums, one row more.
use Rattle.std.proofs.Common.{◌≡◌, ℕ, ◌+◌, ◌^◌, Bool, true, false, cond, List, [], ◌∷◌, length, get_or, ℤ, pos, ◌+ℤ◌, ◌-ℤ◌, ◌*ℤ◌, ◌≤ℤ◌, ◌<ℤ◌, sym, ap, subst, ◌∙◌, arith, append-nil, length-append}
use Rattle.std.proofs.lemmas.Int.{ints}
use Rattle.table_model.proofs.Appended.{total-append}
use Rattle.table_model.specs.Values.{total}
use Rattle.transpose_order.specs.Mask.{has}
use Rattle.query_eval.specs.Packed.{ArePackable, ArePacked, AreSummable, IsPackable, packed_sum}
use Rattle.query_eval.specs.Slices.{values_below}
use Rattle.query_eval.proofs.MaskedLemmas.{values_more}
use Rattle.query_eval.proofs.TallyLemmas.{one_total}

-- ---- packed values
small_packed : (b : Bool) (z : ℤ) → IsPackable z → ((pos 0 -ℤ pos (2 ^ 52)) ≤ℤ cond b (pos 2048 *ℤ z +ℤ pos 1) (pos 0)) × (cond b (pos 2048 *ℤ z +ℤ pos 1) (pos 0) <ℤ pos (2 ^ 52))
small_packed true z h = (omega (arith, ints, h.0), omega (arith, ints, h.1))
small_packed false z h = (omega (arith, ints), omega (arith, ints))

pub packed_summable : (rows : List Bool) (values packed : List ℤ) → ArePackable values → ArePacked rows values packed → AreSummable packed
packed_summable rows values packed small are = λ n l.
    subst (λ (z : ℤ). ((pos 0 -ℤ pos (2 ^ 52)) ≤ℤ z) × (z <ℤ pos (2 ^ 52))) (sym (are n l)) (small_packed (has rows n) (get_or values n (pos 0)) (small n l))

pub packed_more : (k : ℕ) (rows : List Bool) (values : List ℤ) (b : Bool) (s x : ℤ) → has rows k ≡ b → s ≡ packed_sum (values_below k rows values) → x ≡ cond b (pos 2048 *ℤ get_or values k (pos 0) +ℤ pos 1) (pos 0) → s +ℤ x ≡ packed_sum (values_below (k + 1) rows values)
packed_more k rows values true s x on before is =
    let z : ℤ = get_or values k (pos 0) in
    let now = values_more k rows values true on in
    let sum : total (values_below (k + 1) rows values) ≡ total (values_below k rows values) +ℤ z = ap total now ∙ total-append (values_below k rows values) (z ∷ []) ∙ ap (λ y. total (values_below k rows values) +ℤ y) (one_total z) in
    let long : length (values_below (k + 1) rows values) ≡ length (values_below k rows values) + 1 = ap length now ∙ length-append (values_below k rows values) (z ∷ []) in
    omega (arith, ints, before, is, sum, long)
packed_more k rows values false s x on before is =
    let none : s +ℤ x ≡ s = omega (arith, ints, is) in
    none ∙ before ∙ ap packed_sum (sym (values_more k rows values false on ∙ append-nil (values_below k rows values)))
