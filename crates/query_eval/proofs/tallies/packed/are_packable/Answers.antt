-- One value more.
use Rattle.std.proofs.Common.{◌≡◌, ◌+◌, ◌^◌, ◌<◌, ◌≤◌, ◌⊎◌, inl, inr, ℕ, bit_or, get_or, pos, FitsSigned, w64, rules, subst, arith}
use Rattle.std.proofs.lemmas.Int.{to_z-of_z}
use Rattle.std.proofs.lemmas.Nat.{le_or_l, le_or_r}
use Rattle.std.proofs.lemmas.Bool.{cases_lt}
use Rattle.query_eval.specs.Packed.{IsPackable}
use Rattle.query_eval.proofs.tallies.packed.are_packable.Goals as goal

pub loop-row-preserved : goal.loop-row-preserved
loop-row-preserved c = λ few n h. by_row n h few (cases_lt n row)
  where
    row : ℕ
    row = c.loop-row.row

    fits : FitsSigned w64 (get_or c.args.values.now row (pos 0))
    fits = search rules

    by_row : (n : ℕ) → n < row + 1 → bit_or c.loop-row.bits c.raised-bits.result < 2 ^ 42 → (n < row) ⊎ (row ≤ n) → IsPackable (get_or c.args.values.now n (pos 0))
    by_row n h few (inl l) = c.loop-row.invariant (omega (arith, few, le_or_l c.loop-row.bits c.raised-bits.result)) n l
    by_row n h few (inr l) =
        let same : row ≡ n = omega arith in
        subst (λ (k : ℕ). IsPackable (get_or c.args.values.now k (pos 0))) same
        (subst IsPackable (to_z-of_z w64 (get_or c.args.values.now row (pos 0)) fits) (c.raised-bits.ensures (omega (arith, few, le_or_r c.loop-row.bits c.raised-bits.result))))
