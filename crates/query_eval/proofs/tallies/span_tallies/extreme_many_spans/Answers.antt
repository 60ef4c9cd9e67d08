-- One span more.
use Rattle.std.proofs.Common.{rules, FitsSigned, w64, ◌<◌, ◌++◌, List, ℤ, length, get_or, refl, sym, subst, ◌∙◌, arith, append-nil, take}
use Rattle.std.proofs.lemmas.Int.{ints, to_z-of_z}
use Rattle.table_model.specs.State.{Cells}
use Rattle.query_eval.specs.Grouping.{IsHeld, aggregate_values}
use Rattle.query_eval.specs.Slices.{rows_between, rows_sliced, slices_of_spans, values_at}
use Rattle.query_eval.proofs.SpanTallyLemmas.{held_span, held_spans, values_span}
use Rattle.query_eval.proofs.tallies.span_tallies.extreme_many_spans.Goals as goal

pub loop-covered-init : goal.loop-covered-init
loop-covered-init c = record { size = refl; held = λ a v kind cells g t taken l h. subst (λ (rows : List Cells). IsHeld rows a (get_or c.args.tallies.now.items g t)) (sym (append-nil taken)) h }

pub loop-covered-preserved : goal.loop-covered-preserved
loop-covered-preserved c =
    let inv = c.loop-covered.invariant in
    let kept = c.args.kept.now in
    let spans = c.args.spans.now in
    let span = c.within_vector-span.result in
    let i = c.loop-covered.covered-index in
    record {
      size = c.take_extreme.ensures.size ∙ inv.size;
      held = λ a v kind cells g t taken l h.
          let inside : g < length c.loop-covered.tallies.items = omega (arith, l, inv.size) in
          let before = inv.held a v kind cells g t taken l h in
          let added : List ℤ = values_at (rows_between c.and_not-rows.result span.first span.end) c.args.values.now in
          held_span v kept spans i _ span g a taken (get_or c.loop-covered.tallies.items g t) (get_or c.take_extreme.new.tallies.items g t) added c.loop-covered-test.true (c.within_vector-span.ensures.same kept)
          (values_span a v kept c.args.nulls.now c.and_not-rows.result c.args.values.now span.first span.end cells c.and_not-rows.ensures)
          (c.take_extreme.ensures.values c.args.values.now c.write.ensures g t (aggregate_values a (taken ++ rows_sliced v (take i (slices_of_spans kept spans)) g)) inside (before.kind ∙ kind) before.values)
          (c.take_extreme.ensures.kind g t inside) before;
    }

pub returns-clause-held : goal.returns-clause-held
returns-clause-held c = λ a v kind cells g t taken l h.
    held_spans v c.args.kept.now c.args.spans.now c.loop-covered.covered-index g a taken (get_or c.loop-covered.tallies.items g t) c.loop-covered-test.false (c.loop-covered.invariant.held a v kind cells g t taken l h)

pub take_extreme-requires : goal.take_extreme-requires
take_extreme-requires c = record {
  order = c.within_vector-span.ensures.order;
  within = c.within_vector-span.ensures.within;
  bound = λ n h l.
      let fits : FitsSigned w64 c.span_bound-bound.result = search rules in
      omega (arith, ints, c.word_tops-tops.ensures n (omega (arith, l, c.within_vector-span.ensures.within)), c.span_bound-bound.ensures n h l, to_z-of_z w64 c.span_bound-bound.result fits);
}
