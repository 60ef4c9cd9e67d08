-- The sum below the end less that below the first row.
use Rattle.std.proofs.Common.{rules, ◌≡◌, ℤ, FitsSigned, w64, to_z, of_z, ◌-ℤ◌, arith}
use Rattle.std.proofs.lemmas.Int.{ints, to_z-of_z}
use Rattle.query_eval.proofs.SpanTallyLemmas.{between_sum}
use Rattle.query_eval.proofs.tallies.running_sums.sum_of_span.Goals as goal

-- the difference of two small sums needs no more than 64 bits
within : (c : goal.After-sum_below) → FitsSigned w64 (to_z w64 (of_z w64 c.sum_below-below.result) -ℤ to_z w64 (of_z w64 c.sum_below.result))
within c =
    let below : ℤ = c.sum_below-below.result in
    let before : ℤ = c.sum_below.result in
    let fits : FitsSigned w64 below = search rules in
    let also : FitsSigned w64 before = search rules in
    omega (arith, ints, to_z-of_z w64 below fits, to_z-of_z w64 before also, c.sum_below-below.ensures.small.0, c.sum_below-below.ensures.small.1, c.sum_below.ensures.small.0, c.sum_below.ensures.small.1)

pub overflow_sub-result : goal.overflow_sub-result
overflow_sub-result c = within c

pub returns : goal.returns
returns c = λ rows values are.
    let below : ℤ = c.sum_below-below.result in
    let before : ℤ = c.sum_below.result in
    let fits : FitsSigned w64 below = search rules in
    let also : FitsSigned w64 before = search rules in
    let all = c.sum_below-below.ensures.sum rows values are in
    let first = c.sum_below.ensures.sum rows values are in
    let span = between_sum rows c.args.first c.args.end c.requires.within c.requires.order values in
    let same : to_z w64 (of_z w64 (to_z w64 (of_z w64 below) -ℤ to_z w64 (of_z w64 before))) ≡ to_z w64 (of_z w64 below) -ℤ to_z w64 (of_z w64 before) = to_z-of_z w64 (to_z w64 (of_z w64 below) -ℤ to_z w64 (of_z w64 before)) (within c) in
    omega (arith, ints, same, to_z-of_z w64 below fits, to_z-of_z w64 before also, all, first, span)
