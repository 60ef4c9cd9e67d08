-- One value more.
use Rattle.std.proofs.Common.{◌≡◌, ◌+◌, ◌^◌, ◌<◌, ◌≤◌, ◌⊎◌, inl, inr, ℕ, bit_or, get_or, pos, FitsSigned, w64, rules, sym, subst, arith}
use Rattle.std.proofs.lemmas.Int.{ints, to_z-of_z}
use Rattle.std.proofs.lemmas.Nat.{or_lt, le_or_l, le_or_r}
use Rattle.std.proofs.lemmas.Bool.{cases_lt}
use Rattle.query_eval.specs.Slices.{IsShort}
use Rattle.query_eval.proofs.tallies.masked_folds.are_short.Goals as goal

pub loop-row-preserved : goal.loop-row-preserved
loop-row-preserved c = record {
  all = λ short. or_lt 53 c.loop-row.bits c.raised-bits.result (c.loop-row.invariant.all short) (below (short row inside));
  short = λ few n h. by_row n h few (cases_lt n row);
}
  where
    row : ℕ
    row = c.loop-row.row

    inside : row < 1024
    inside = c.loop-row-test.true

    fits : FitsSigned w64 (get_or c.args.values.now row (pos 0))
    fits = search rules

    below : IsShort (get_or c.args.values.now row (pos 0)) → c.raised-bits.result < 2 ^ 53
    below one =
        let passed = to_z-of_z w64 (get_or c.args.values.now row (pos 0)) fits in
        let is = c.raised-bits.ensures.value (subst IsShort (sym passed) one) in
        omega (arith, ints, is, passed, one.is, one.below)

    by_row : (n : ℕ) → n < row + 1 → bit_or c.loop-row.bits c.raised-bits.result < 2 ^ 53 → (n < row) ⊎ (row ≤ n) → IsShort (get_or c.args.values.now n (pos 0))
    by_row n h few (inl l) = c.loop-row.invariant.short (omega (arith, few, le_or_l c.loop-row.bits c.raised-bits.result)) n l
    by_row n h few (inr l) =
        let same : row ≡ n = omega arith in
        subst (λ (k : ℕ). IsShort (get_or c.args.values.now k (pos 0))) same
        (subst IsShort (to_z-of_z w64 (get_or c.args.values.now row (pos 0)) fits) (c.raised-bits.ensures.short (omega (arith, few, le_or_r c.loop-row.bits c.raised-bits.result))))
