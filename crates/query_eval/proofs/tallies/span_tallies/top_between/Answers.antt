-- One row more.
use Rattle.std.proofs.Common.{rules, ◌≡◌, ◌+◌, ◌-◌, ◌<◌, ℤ, get_or, take, drop, map, pos, FitsSigned, w64, to_z, sym, ap, ◌∙◌, arith}
use Rattle.std.specs.Int.{int_max}
use Rattle.std.proofs.lemmas.Int.{to_z-of_z}
use Rattle.table_model.specs.Extreme.{turned}
use Rattle.query_eval.specs.Forms.{top_of}
use Rattle.query_eval.specs.Forms.{top_below}
use Rattle.query_eval.specs.Slices.{rows_between}
use Rattle.transpose_order.specs.Mask.{has}
use Rattle.query_eval.proofs.ExtremeLemmas.{top_more}
use Rattle.query_eval.proofs.SpanTallyLemmas.{between_all, between_first, between_has, part_at, part_end}
use Rattle.query_eval.proofs.tallies.span_tallies.top_between.Goals as goal

pub loop-value-init : goal.loop-value-init
loop-value-init c = λ extreme rows values are.
    let start : c.args.first ≡ c.args.first + 0 = omega arith in
    ap (λ zs. top_of (map (turned extreme) zs)) (sym (between_first rows c.args.first c.args.end c.requires.within c.requires.order values))
    ∙ ap (λ k. top_below extreme k (rows_between rows c.args.first c.args.end) values) start

pub loop-value-preserved : goal.loop-value-preserved
loop-value-preserved c = λ extreme rows values are.
    let first = c.args.first in
    let end = c.args.end in
    let i = c.loop-value.value-index in
    let top : ℤ = to_z w64 c.loop-value.top-bits in
    let x : ℤ = get_or (take (end - first) (drop first c.args.shown.now)) i (pos 0) in
    let there : (i < end - first) × (x ≡ get_or c.args.shown.now (first + i) (pos 0)) = part_at first end i c.args.shown.now c.loop-value-test.true in
    let row : first + i < 1024 = omega (arith, there.0, c.requires.order, c.requires.within) in
    let fits : FitsSigned w64 top = search rules in
    let also : FitsSigned w64 x = search rules in
    let now : FitsSigned w64 c.max-top.result = search rules in
    let has_row = between_has rows first end c.requires.within (first + i) (omega arith) (omega (arith, there.0, c.requires.order)) in
    let next : first + i + 1 ≡ first + (i + 1) = omega arith in
    to_z-of_z w64 c.max-top.result now ∙ c.max-top.ensures.value ∙ ap (int_max top) (to_z-of_z w64 x also)
    ∙ top_more extreme (first + i) (rows_between rows first end) values (has rows (first + i)) top x has_row fits also (c.loop-value.invariant extreme rows values are) (there.1 ∙ are (first + i) row)
    ∙ ap (λ k. top_below extreme k (rows_between rows first end) values) next

pub returns : goal.returns
returns c = λ extreme rows values are.
    let last = part_end c.args.first c.args.end c.loop-value.value-index c.args.shown.now c.told-shown c.requires.order c.requires.within c.loop-value-test.false c.loop-value.auto.value-index-end in
    c.loop-value.invariant extreme rows values are
    ∙ ap (λ k. top_below extreme k (rows_between rows c.args.first c.args.end) values) last
    ∙ ap (λ zs. top_of (map (turned extreme) zs)) (between_all rows c.args.first c.args.end c.requires.within values)
