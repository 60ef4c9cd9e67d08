-- One row more.
use Rattle.std.proofs.Common.{◌≡◌, ◌≢◌, ◌+◌, ◌*◌, ◌^◌, ◌<◌, ◌≤◌, ◌⊎◌, inl, inr, ℕ, Bool, List, ℤ, get_or, set, length-set, pos, ◌+ℤ◌, ◌-ℤ◌, ◌≤ℤ◌, ◌<ℤ◌, FitsSigned, w64, to_z, of_z, refl, sym, ap, subst, ◌∙◌, arith, get_or-set_same, get_or-set_other}
use Rattle.std.proofs.lemmas.Bool.{cases_lt}
use Rattle.std.proofs.lemmas.Int.{ints, to_z-of_z}
use Rattle.transpose_order.specs.Mask.{has}
use Rattle.query_eval.specs.Packed.{ArePacked, IsSmallSum, packed_sum}
use Rattle.query_eval.specs.Slices.{values_below}
use Rattle.query_eval.proofs.FormLemmas.{packed_more}
use Rattle.query_eval.proofs.tallies.running_sums.sum_up.Goals as goal

pub loop-row-preserved : goal.loop-row-preserved
loop-row-preserved c = record { long = length-set old row z ∙ c.loop-row.invariant.long; low = low; high = high; rest = λ n h l. other n (let e : n ≢ row = omega (arith, h) in e) ∙ c.loop-row.invariant.rest n (omega (arith, h)) l; small = λ n l. small n l (cases_lt n row); sum = sum; sums = λ rows values are n l. sums rows values are n l (cases_lt n row) }
  where
    row : ℕ
    row = c.loop-row.row

    old : List ℤ
    old = c.loop-row.packed

    s : ℤ
    s = to_z w64 c.loop-row.sum-bits

    x : ℤ
    x = get_or old row (pos 0)

    z : ℤ
    z = to_z w64 (of_z w64 (s +ℤ to_z w64 (of_z w64 x)))

    same : x ≡ get_or c.args.packed.now row (pos 0)
    same = c.loop-row.invariant.rest row (omega arith) c.loop-row-test.true

    bounds : ((pos 0 -ℤ pos (2 ^ 52)) ≤ℤ x) × (x <ℤ pos (2 ^ 52))
    bounds = subst (λ (z : ℤ). ((pos 0 -ℤ pos (2 ^ 52)) ≤ℤ z) × (z <ℤ pos (2 ^ 52))) (sym same) (c.requires row c.loop-row-test.true)

    fits : FitsSigned w64 x
    fits = omega (arith, ints, bounds.0, bounds.1)

    passed : to_z w64 (of_z w64 x) ≡ x
    passed = to_z-of_z w64 x fits

    within : FitsSigned w64 (s +ℤ to_z w64 (of_z w64 x))
    within = omega (arith, ints, passed, bounds.0, bounds.1, c.loop-row.invariant.low, c.loop-row.invariant.high, c.loop-row-test.true)

    added : z ≡ s +ℤ x
    added = to_z-of_z w64 (s +ℤ to_z w64 (of_z w64 x)) within ∙ ap (λ y. s +ℤ y) passed

    low : (pos 0 -ℤ pos (2 ^ 52 * (row + 1))) ≤ℤ z
    low = rw added (omega (arith, ints, bounds.0, c.loop-row.invariant.low))

    high : (z +ℤ pos (row + 1)) ≤ℤ pos (2 ^ 52 * (row + 1))
    high = rw added (omega (arith, ints, bounds.1, c.loop-row.invariant.high))

    other : (n : ℕ) → n ≢ row → get_or (set old row z) n (pos 0) ≡ get_or old n (pos 0)
    other n ne = rw get_or-set_other

    here : get_or (set old row z) row (pos 0) ≡ z
    here = get_or-set_same old row z (pos 0) (omega (arith, c.loop-row.invariant.long, c.loop-row-test.true))

    is_small : IsSmallSum z
    is_small = (omega (arith, ints, low, c.loop-row-test.true), omega (arith, ints, high, c.loop-row-test.true))

    small : (n : ℕ) → n < row + 1 → (n < row) ⊎ (row ≤ n) → IsSmallSum (get_or (set old row z) n (pos 0))
    small n l (inl below) = subst IsSmallSum (sym (other n (let e : n ≢ row = omega (arith, below) in e))) (c.loop-row.invariant.small n below)
    small n l (inr h) =
        let e : row ≡ n = omega (arith, l, h) in
        subst (λ (k : ℕ). IsSmallSum (get_or (set old row z) k (pos 0))) e (subst IsSmallSum (sym here) is_small)

    sum : (rows : List Bool) (values : List ℤ) → ArePacked rows values c.args.packed.now → z ≡ packed_sum (values_below (row + 1) rows values)
    sum rows values are = added ∙ packed_more row rows values (has rows row) s x refl (c.loop-row.invariant.sum rows values are) (same ∙ are row c.loop-row-test.true)

    sums : (rows : List Bool) (values : List ℤ) → ArePacked rows values c.args.packed.now → (n : ℕ) → n < row + 1 → (n < row) ⊎ (row ≤ n) → get_or (set old row z) n (pos 0) ≡ packed_sum (values_below (n + 1) rows values)
    sums rows values are n l (inl below) = other n (let e : n ≢ row = omega (arith, below) in e) ∙ c.loop-row.invariant.sums rows values are n below
    sums rows values are n l (inr h) =
        let e : row ≡ n = omega (arith, l, h) in
        subst (λ (k : ℕ). get_or (set old row z) k (pos 0) ≡ packed_sum (values_below (k + 1) rows values)) e (here ∙ sum rows values are)

pub returns-clause-small : goal.returns-clause-small
returns-clause-small c = λ n l. c.loop-row.invariant.small n (omega (arith, l, c.loop-row-test.false))

pub returns-clause-sums : goal.returns-clause-sums
returns-clause-sums c = λ rows values are n l. c.loop-row.invariant.sums rows values are n (omega (arith, l, c.loop-row-test.false))
