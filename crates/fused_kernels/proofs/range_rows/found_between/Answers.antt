-- No value is past the numbers of 64 bits, and a bound beyond them is as good as the last of them.
use Rattle.std.proofs.Common.{rules, ◌≡◌, ℕ, ◌-◌, ◌^◌, ◌&&◌, true, false, ℤ, pos, negsuc, int_lt, int_le, FitsSigned, to_z, of_z, sym, ap, ◌∙◌, arith}
use Rattle.std.specs.Int.{w64, w128}
use Rattle.std.proofs.lemmas.Int.{ints, to_z-of_z}
use Rattle.transpose_order.specs.MaskWords.{rows_of-like}
use Rattle.segment_core.specs.Coded.{value_in}
use Rattle.fused_kernels.specs.Seen.{between}
use Rattle.fused_kernels.proofs.RangeLemmas.{past_greatest, before_least}
use Rattle.fused_kernels.proofs.VectorLemmas.{value_in_fits}
use Rattle.fused_kernels.proofs.range_rows.found_between.Goals.{then-from-low-via-then-from-low, then-from-low-via-else-from-low+then-high-from}
use Rattle.fused_kernels.proofs.range_rows.found_between.Goals as goal

pub returns-then-from-low-clause-rows : goal.returns-then-from-low-clause-rows
returns-then-from-low-clause-rows c =
    let outside : (value : ℤ) → FitsSigned w64 value → between c.args.low c.args.high value ≡ false =
    elim c.then-from-low.branch [
      | then-from-low-via-then-from-low w ↦ λ value fits. let past : int_lt (pos (2 ^ 63 - 1)) c.args.low ≡ true = grind (arith, ints, to_z-of_z, w.if-from-low.true, c.from.ensures) in past_greatest c.args.low c.args.high value past fits
      | then-from-low-via-else-from-low+then-high-from w ↦ λ value fits. let before : int_lt c.args.high (negsuc (2 ^ 63 - 1)) ≡ true = grind (arith, ints, to_z-of_z, w.if-high-from.true, w.from-else-from-low.ensures) in before_least c.args.low c.args.high value before fits
    ] in
    c.none.ensures
    ∙ rows_of-like (λ _. false) (λ n. between c.args.low c.args.high (value_in c.args.coded.now n)) (λ n h. sym (outside (value_in c.args.coded.now n) (value_in_fits c.args.coded.now n c.keeps_its_rule.ensures h)))

pub returns-clause-rows : goal.returns-clause-rows
returns-clause-rows c =
    let first : ℤ = to_z w64 (of_z w64 c.first_from.result) in
    let last : ℤ = to_z w64 (of_z w64 c.last_up_to.result) in
    let first_fits : FitsSigned w64 c.first_from.result = search rules in
    let last_fits : FitsSigned w64 c.last_up_to.result = search rules in
    let value : ℕ → ℤ = value_in c.args.coded.now in
    c.in_ok-found.ensures.rows
    ∙ rows_of-like (λ n. between first last (value n)) (λ n. between c.args.low c.args.high (value n))
    (λ n h.
    let fits = value_in_fits c.args.coded.now n c.keeps_its_rule.ensures h in
    ap (λ b. b && int_le (value n) last) (ap (λ x. int_le x (value n)) (to_z-of_z w64 c.first_from.result first_fits) ∙ c.first_from.ensures (value n) fits ∙ ap (λ x. int_le x (value n)) (to_z-of_z w128 c.args.low c.ranges.low))
    ∙ ap (λ b. int_le c.args.low (value n) && b) (ap (λ x. int_le (value n) x) (to_z-of_z w64 c.last_up_to.result last_fits) ∙ c.last_up_to.ensures (value n) fits ∙ ap (λ x. int_le (value n) x) (to_z-of_z w128 c.args.high c.ranges.high)))
