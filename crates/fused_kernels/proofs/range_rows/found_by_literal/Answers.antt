-- The comparison holds in the range or out of it.
use Rattle.std.proofs.Common.{rules, FitsSigned, not, if◌then◌else◌, sym, refl, ◌∙◌}
use Rattle.std.specs.Int.{w128}
use Rattle.table_model.specs.Truth.{compared}
use Rattle.transpose_order.specs.Mask.{has, rows_of}
use Rattle.transpose_order.specs.MaskWords.{rows_of-like, has-rows_of}
use Rattle.segment_core.specs.Coded.{value_in}
use Rattle.fused_kernels.proofs.FoundLemmas.{found_where, held_where}
use Rattle.fused_kernels.proofs.VectorLemmas.{value_in_fits}
use Rattle.fused_kernels.proofs.range_rows.found_by_literal.Goals as goal

pub returns-in-Some-clause-rows : goal.returns-in-Some-clause-rows
returns-in-Some-clause-rows c =
    let low = c.range_of-low.result.0 in
    let high = c.range_of-low.result.1 in
    let inside = c.range_of-low.result.2 in
    let fl : FitsSigned w128 low = search rules in
    let fh : FitsSigned w128 high = search rules in
    let coded = c.args.coded.now in
    c.held.ensures
    ∙ rows_of-like (λ n. if inside then has c.in-Some.found n else not (has c.in-Some.found n)) (λ n. compared c.args.op (value_in coded n) c.args.literal)
    (λ n h.
    sym (has-rows_of (λ n. if inside then has c.in-Some.found n else not (has c.in-Some.found n)) n h)
    ∙ held_where (rows_of (λ n. if inside then has c.in-Some.found n else not (has c.in-Some.found n))) c.in-Some.found inside c.args.op c.args.literal low high (value_in coded n) n refl h
    (found_where c.in-Some.found low high coded coded n fl fh refl c.in-Some.ensures.rows h) c.ranges.literal
    (c.range_of-low.ensures (value_in coded n) (value_in_fits coded n c.found_between.ensures.form h)))
