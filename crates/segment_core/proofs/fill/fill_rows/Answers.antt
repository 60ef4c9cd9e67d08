-- A row's filled value is the latest value once the row is seen.
use Rattle.std.proofs.Common.{◌≡◌, not, cond, ℤ, pos, get_or, w64, FitsSigned, to_z, of_z, rules, ◌∙◌, ap, arith, add-one}
use Rattle.std.proofs.lemmas.Int.{to_z-of_z}
use Rattle.transpose_order.specs.Mask.{has}
use Rattle.segment_core.proofs.FillLemmas.{filling_last, fill_row}
use Rattle.segment_core.proofs.fill.fill_rows.Goals as goal

pub loop-row-preserved : goal.loop-row-preserved
loop-row-preserved c =
    let z : ℤ = c.chosen-latest.result in
    let fits : FitsSigned w64 z = search rules in
    let own : FitsSigned w64 (get_or c.loop-row.values c.loop-row.row (pos 0)) = search rules in
    let is : z ≡ cond (not (has c.args.nulls.now c.loop-row.row)) (get_or c.loop-row.values c.loop-row.row (pos 0)) (to_z w64 c.loop-row.latest-bits) =
    c.chosen-latest.ensures
    ∙ ap (λ b. cond (not b) (to_z w64 (of_z w64 (get_or c.loop-row.values c.loop-row.row (pos 0)))) (to_z w64 c.loop-row.latest-bits)) c.get.ensures
    ∙ ap (λ x. cond (not (has c.args.nulls.now c.loop-row.row)) x (to_z w64 c.loop-row.latest-bits)) (to_z-of_z w64 _ own) in
    let back : to_z w64 (of_z w64 z) ≡ z = to_z-of_z w64 z fits in
    rw (add-one c.loop-row.row, back)
    (fill_row c.args.rows c.args.nulls.now c.args.values.now c.loop-row.values c.loop-row.row (to_z w64 c.loop-row.latest-bits) z c.requires.rows c.loop-row-test.true c.loop-row.invariant is)

pub returns-clause-filled : goal.returns-clause-filled
returns-clause-filled c = λ n h. let e = c.loop-row-test.false in c.loop-row.invariant.filled_so_far n (omega arith)

pub returns-clause-last : goal.returns-clause-last
returns-clause-last c =
    filling_last c.args.rows c.args.nulls.now c.args.values.now c.loop-row.values c.loop-row.row (to_z w64 c.loop-row.latest-bits) c.loop-row-test.false c.loop-row.invariant
