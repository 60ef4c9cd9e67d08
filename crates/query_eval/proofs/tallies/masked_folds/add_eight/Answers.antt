-- The lanes that are taken are added: their sum is that of eight rows.
use Rattle.std.proofs.Common.{◌≡◌, ◌==◌, ◌+◌, ◌*◌, ◌^◌, ◌<◌, ◌≤◌, ℕ, Bool, true, false, List, cond, length, get_or, ℤ, pos, ◌+ℤ◌, w64, refl, sym, ap, subst, ◌∙◌, arith}
use Rattle.std.specs.Int.{bit_at}
use Rattle.std.specs.Simd.Lanes.{sum_l, zip2}
use Rattle.std.proofs.lemmas.Simd.{Each1-from_get_or, adds_fit, sum_bound, sum-zip2, length-zip2}
use Rattle.transpose_order.specs.Mask.{has}
use Rattle.query_eval.specs.Slices.{IsRaised}
use Rattle.query_eval.proofs.MaskedLemmas.{raised_lanes}
use Rattle.query_eval.proofs.tallies.masked_folds.add_eight.Goals as goal

most : (b : Bool) (n : ℕ) → n < 2 ^ 53 → cond b n 0 ≤ 2 ^ 53
most true n h = omega (arith, h)
most false n h = omega arith

few : (bits : ℕ) (taken numbers : List ℕ) → length taken ≡ 8 → ((lane : ℕ) → lane < 8 → get_or taken lane 0 ≡ cond (bit_at bits lane == 1) (get_or numbers lane 0) 0) → ((lane : ℕ) → lane < 8 → get_or numbers lane 0 < 2 ^ 53) → sum_l taken ≤ 2 ^ 53 * 8
few bits taken numbers long value below =
    let each = Each1-from_get_or (λ (n : ℕ). n ≤ 2 ^ 53) taken 0 (λ i h. let l : i < 8 = omega (arith, h, long) in subst (λ (n : ℕ). n ≤ 2 ^ 53) (sym (value i l)) (most (bit_at bits i == 1) (get_or numbers i 0) (below i l))) in
    omega (arith, sum_bound (2 ^ 53) taken each, ap (λ (n : ℕ). 2 ^ 53 * n) long)

both : (sums taken : List ℕ) → length sums ≡ 8 → length taken ≡ 8 → sum_l (zip2 (λ a b. a + b) sums taken) ≡ sum_l sums + sum_l taken
both sums taken long also = sum-zip2 sums taken (long ∙ sym also)

pub overflow_add-result : goal.overflow_add-result
overflow_add-result c =
    adds_fit w64 c.args.sums c.lanes_if-taken.result (omega (arith, c.requires.sum, c.requires.first, few c.args.bits c.lanes_if-taken.result c.raised_eight-raised.result c.lanes_if-taken.ensures.long c.lanes_if-taken.ensures.value c.raised_eight-raised.ensures.below))

pub returns-clause-long : goal.returns-clause-long
returns-clause-long c =
    length-zip2 (λ (a b : ℕ). a + b) c.args.sums c.lanes_if-taken.result (c.requires.long ∙ sym c.lanes_if-taken.ensures.long) ∙ c.requires.long

pub returns-clause-sum : goal.returns-clause-sum
returns-clause-sum c = subst (λ (n : ℕ). n ≤ 2 ^ 53 * (c.args.first + 8)) (sym (both c.args.sums c.lanes_if-taken.result c.requires.long c.lanes_if-taken.ensures.long)) (omega (arith, c.requires.sum, few c.args.bits c.lanes_if-taken.result c.raised_eight-raised.result c.lanes_if-taken.ensures.long c.lanes_if-taken.ensures.value c.raised_eight-raised.ensures.below))

pub returns-clause-value : goal.returns-clause-value
returns-clause-value c = λ rows on before.
    let values = c.args.values.now in
    let taken = c.lanes_if-taken.result in
    let each : (lane : ℕ) → lane < length taken → pos (get_or taken lane 0) ≡ cond (has rows (c.args.first + lane)) (get_or values (c.args.first + lane) (pos 0) +ℤ pos (2 ^ 52)) (pos 0) =
    λ lane h.
    let l : lane < 8 = omega (arith, h, c.lanes_if-taken.ensures.long) in
    ap pos (c.lanes_if-taken.ensures.value lane l) ∙ by_bit (bit_at c.args.bits lane == 1) (get_or c.raised_eight-raised.result lane 0) _ (c.raised_eight-raised.ensures.value lane l) ∙ ap (λ b. cond b (get_or values (c.args.first + lane) (pos 0) +ℤ pos (2 ^ 52)) (pos 0)) (on lane l) in
    let more = raised_lanes (2 ^ 52) c.args.first (sum_l c.args.sums) taken rows values before each in
    let place : c.args.first + length taken ≡ c.args.first + 8 = ap (λ (n : ℕ). c.args.first + n) c.lanes_if-taken.ensures.long in
    subst (λ (n : ℕ). IsRaised (2 ^ 52) n rows values (sum_l (zip2 (λ a b. a + b) c.args.sums taken))) place (subst (IsRaised (2 ^ 52) (c.args.first + length taken) rows values) (sym (both c.args.sums c.lanes_if-taken.result c.requires.long c.lanes_if-taken.ensures.long)) more)
  where
    by_bit : (b : Bool) (n : ℕ) (z : ℤ) → pos n ≡ z → pos (cond b n 0) ≡ cond b z (pos 0)
    by_bit true n z e = e
    by_bit false n z e = refl
