-- One span more, whose packed sum tells how many values there are and their sum.
use Rattle.std.proofs.Common.{rules, ◌<◌, ◌≤◌, ◌++◌, List, ℤ, length, get_or, refl, sym, subst, FitsSigned, w64, ◌∙◌, arith, append-nil, take}
use Rattle.std.specs.Int.{w128}
use Rattle.std.proofs.lemmas.Int.{to_z-of_z}
use Rattle.table_model.specs.State.{Cells}
use Rattle.query_eval.specs.Grouping.{IsHeld, aggregate_values}
use Rattle.query_eval.specs.Slices.{rows_between, rows_sliced, slices_of_spans, values_at}
use Rattle.query_eval.proofs.FormLemmas.{packed_summable}
use Rattle.query_eval.proofs.SpanTallyLemmas.{few_between, held_span, held_spans, values_span}
use Rattle.query_eval.proofs.tallies.span_tallies.sum_many_spans.Goals as goal

pub loop-covered-init : goal.loop-covered-init
loop-covered-init c = record { size = refl; held = λ a v kind cells g t taken l h. subst (λ (rows : List Cells). IsHeld rows a (get_or c.args.tallies.now.items g t)) (sym (append-nil taken)) h }

pub sum_up-requires : goal.sum_up-requires
sum_up-requires c = packed_summable c.and_not.result c.args.values.now c.pack.new.packed c.requires c.pack.ensures

pub loop-covered-preserved : goal.loop-covered-preserved
loop-covered-preserved c =
    let inv = c.loop-covered.invariant in
    let kept = c.args.kept.now in
    let spans = c.args.spans.now in
    let span = c.within_vector-span.result in
    let rows = c.and_not.result in
    let values = c.args.values.now in
    let i = c.loop-covered.covered-index in
    record {
      size = c.sum_more.ensures.size ∙ inv.size;
      held = λ a v kind cells g t taken l h.
          let inside : g < length c.loop-covered.tallies.items = omega (arith, l, inv.size) in
          let before = inv.held a v kind cells g t taken l h in
          let added : List ℤ = values_at (rows_between rows span.first span.end) values in
          let few : length added ≤ 1024 = few_between rows span.first span.end c.within_vector-span.ensures.within c.within_vector-span.ensures.order values in
          let fits : FitsSigned w64 c.sum_of_span.result = search rules in
          let packed = to_z-of_z w64 c.sum_of_span.result fits ∙ c.sum_of_span.ensures rows values (c.sum_up.ensures.sums rows values c.pack.ensures) in
          let whole : FitsSigned w128 c.unpacked-count.result.1 = search rules in
          held_span v kept spans i _ span g a taken (get_or c.loop-covered.tallies.items g t) (get_or c.sum_more.new.tallies.items g t) added c.loop-covered-test.true (c.within_vector-span.ensures.same kept)
          (values_span a v kept c.args.nulls.now rows values span.first span.end cells c.and_not.ensures)
          (c.sum_more.ensures.values added (c.unpacked-count.ensures.count added few packed) (to_z-of_z w128 c.unpacked-count.result.1 whole ∙ c.unpacked-count.ensures.sum added few packed) g t (aggregate_values a (taken ++ rows_sliced v (take i (slices_of_spans kept spans)) g)) inside (before.kind ∙ kind) before.values)
          (c.sum_more.ensures.kind g t inside) before;
    }

pub returns-clause-held : goal.returns-clause-held
returns-clause-held c = λ a v kind cells g t taken l h.
    held_spans v c.args.kept.now c.args.spans.now c.loop-covered.covered-index g a taken (get_or c.loop-covered.tallies.items g t) c.loop-covered-test.false (c.loop-covered.invariant.held a v kind cells g t taken l h)
