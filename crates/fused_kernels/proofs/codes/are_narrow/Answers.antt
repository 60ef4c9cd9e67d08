-- The greatest value decides, where the least is in the range.
use Rattle.std.proofs.Common.{rules, ◌-◌, ◌^◌, ℕ, pos, ◌-ℤ◌, ◌≤ℤ◌, length, FitsSigned, ap, ◌∙◌, arith}
use Rattle.std.specs.Int.{w64}
use Rattle.std.proofs.lemmas.Int.{ints, to_z-of_z}
use Rattle.bit_interleave.specs.LaneValues.{LaneValues}
use Rattle.bit_interleave.specs.Range.{value_at}
use Rattle.fused_kernels.proofs.CodeSumLemmas.{narrow_by_ends}
use Rattle.fused_kernels.proofs.codes.are_narrow.Goals as goal

pub returns-then-get-ge-LEAST_NARROW : goal.returns-then-get-ge-LEAST_NARROW
returns-then-get-ge-LEAST_NARROW c =
    let values = c.args.form.now.values in
    let same = c.values-values.ensures.value in
    let first_fits : FitsSigned w64 c.get.result = search rules in
    let last_fits : FitsSigned w64 c.get-then-get-ge-LEAST_NARROW.result = search rules in
    let count = c.len.ensures ∙ ap (λ (x : LaneValues). length x.values) same in
    let first_kept = to_z-of_z w64 c.get.result first_fits ∙ c.get.ensures.value ∙ ap (λ (x : LaneValues). value_at x.values 0) same in
    let last_kept = to_z-of_z w64 c.get-then-get-ge-LEAST_NARROW.result last_fits ∙ c.get-then-get-ge-LEAST_NARROW.ensures.value ∙ ap (λ (x : LaneValues). value_at x.values (c.len.result - 1)) same ∙ ap (λ (n : ℕ). value_at values (n - 1)) count in
    let low : (pos 0 -ℤ pos (2 ^ 31)) ≤ℤ value_at values 0 = omega (arith, ints, c.if-get-ge-LEAST_NARROW.true, first_kept) in
    let ends = narrow_by_ends values c.values-values.ensures.form.rises c.values-values.ensures.some low in (
      (λ t. ends.0 (grind (arith, ints, t, last_kept))),
      (λ r. let high = ends.1 r in grind (arith, ints, high, last_kept)),
    )
