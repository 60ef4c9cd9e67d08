-- One slice more.
use Rattle.std.proofs.Common.{◌≡◌, ◌<◌, ◌++◌, ℤ, List, length, get_or, refl, sym, subst, ◌∙◌, arith, append-nil, take}
use Rattle.std.proofs.lemmas.List.{take_all}
use Rattle.table_model.specs.State.{Cells}
use Rattle.query_eval.specs.Grouping.{IsHeld, aggregate_values}
use Rattle.query_eval.specs.Kept.{rows_at}
use Rattle.query_eval.specs.Slices.{rows_sliced}
use Rattle.query_eval.specs.declared.grouping.split.Slice.{Slice}
use Rattle.query_eval.proofs.SharedLemmas.{count_slice, held_slice}
use Rattle.query_eval.proofs.tallies.slice_tallies.count_slices.Goals as goal

pub loop-slice-init : goal.loop-slice-init
loop-slice-init c = record { size = refl; held = λ a v kind nulls g t taken l h. subst (λ (rows : List Cells). IsHeld rows a (get_or c.args.tallies.now.items g t)) (sym (append-nil taken)) h }

pub loop-slice-preserved : goal.loop-slice-preserved
loop-slice-preserved c =
    let inv = c.loop-slice.invariant in
    let s = c.slice-item.result in
    let slices = c.args.slices.now in
    let i = c.loop-slice.slice-index in
    record {
      size = c.count_more.ensures.size ∙ inv.size;
      held = λ a v kind nulls g t taken l h.
          let inside : g < length c.loop-slice.tallies.items = omega (arith, l, inv.size) in
          let before = inv.held a v kind nulls g t taken l h in
          let added : List ℤ = aggregate_values a (rows_at v s.rows) in
          let many : c.count.result ≡ length added = count_slice a v s.rows c.args.nulls.now c.and_not-rows.result c.count.result nulls c.and_not-rows.ensures c.count.ensures in
          held_slice v slices i s g a taken (get_or c.loop-slice.tallies.items g t) (get_or c.count_more.new.tallies.items g t) added c.loop-slice-test.true c.slice-item.is refl
          (c.count_more.ensures.values added many g t (aggregate_values a (taken ++ rows_sliced v (take i slices) g)) inside (before.kind ∙ kind) before.values) (c.count_more.ensures.kind g t inside) before;
    }

pub returns-clause-held : goal.returns-clause-held
returns-clause-held c = λ a v kind nulls g t taken l h.
    subst (λ (ss : List Slice). IsHeld (taken ++ rows_sliced v ss g) a (get_or c.loop-slice.tallies.items g t)) (take_all c.loop-slice.slice-index c.args.slices.now (omega (arith, c.loop-slice-test.false))) (c.loop-slice.invariant.held a v kind nulls g t taken l h)
