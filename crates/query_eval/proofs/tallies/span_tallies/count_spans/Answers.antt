-- One span more: the rows below its end less those below its first.
use Rattle.std.proofs.Common.{◌≡◌, ◌+◌, ◌-◌, ◌<◌, ◌++◌, List, ℤ, length, get_or, refl, sym, subst, ◌∙◌, arith, append-nil, take}
use Rattle.table_model.specs.State.{Cells}
use Rattle.transpose_order.specs.Mask.{count_below, has}
use Rattle.query_eval.specs.Grouping.{IsHeld, aggregate_values}
use Rattle.query_eval.specs.Kept.{rows_at}
use Rattle.query_eval.specs.Slices.{rows_between, rows_sliced, slices_of_spans}
use Rattle.query_eval.proofs.SpanTallyLemmas.{count_span, counts_rise, held_span, held_spans}
use Rattle.query_eval.proofs.tallies.span_tallies.count_spans.Goals as goal

pub loop-covered-init : goal.loop-covered-init
loop-covered-init c = record {
  size = refl;
  held = λ a v kind nulls g t taken l h. subst (λ (rows : List Cells). IsHeld rows a (get_or c.args.tallies.now.items g t)) (sym (append-nil taken)) h;
}

pub overflow_sub-below : goal.overflow_sub-below
overflow_sub-below c =
    let span = c.within_vector-span.result in
    omega (arith, c.rows_below-below.ensures, c.rows_below-before.ensures, counts_rise (has c.and_not-rows.result) span.first span.end c.within_vector-span.ensures.order)

pub loop-covered-preserved : goal.loop-covered-preserved
loop-covered-preserved c =
    let inv = c.loop-covered.invariant in
    let kept = c.args.kept.now in
    let spans = c.args.spans.now in
    let span = c.within_vector-span.result in
    let rows = c.and_not-rows.result in
    let i = c.loop-covered.covered-index in
    record {
      size = c.count_more.ensures.size ∙ inv.size;
      held = λ a v kind nulls g t taken l h.
          let inside : g < length c.loop-covered.tallies.items = omega (arith, l, inv.size) in
          let before = inv.held a v kind nulls g t taken l h in
          let added : List ℤ = aggregate_values a (rows_at v (rows_between kept span.first span.end)) in
          let more = c.rows_below-below.result - c.rows_below-before.result in
          let counted : more + count_below (has rows) span.first ≡ count_below (has rows) span.end =
          omega (arith, c.rows_below-below.ensures, c.rows_below-before.ensures, counts_rise (has rows) span.first span.end c.within_vector-span.ensures.order) in
          let many : more ≡ length added = count_span a v kept c.args.nulls.now rows span.first span.end more nulls c.and_not-rows.ensures c.within_vector-span.ensures.order c.within_vector-span.ensures.within counted in
          held_span v kept spans i _ span g a taken (get_or c.loop-covered.tallies.items g t) (get_or c.count_more.new.tallies.items g t) added c.loop-covered-test.true (c.within_vector-span.ensures.same kept) refl
          (c.count_more.ensures.values added many g t (aggregate_values a (taken ++ rows_sliced v (take i (slices_of_spans kept spans)) g)) inside (before.kind ∙ kind) before.values) (c.count_more.ensures.kind g t inside) before;
    }

pub returns-clause-held : goal.returns-clause-held
returns-clause-held c = λ a v kind nulls g t taken l h.
    held_spans v c.args.kept.now c.args.spans.now c.loop-covered.covered-index g a taken (get_or c.loop-covered.tallies.items g t) c.loop-covered-test.false (c.loop-covered.invariant.held a v kind nulls g t taken l h)
