-- The runs are not empty, and together have fewer names than 2 ^ 64.
use Rattle.std.proofs.Common.{◌≡◌, ◌∙◌, length, take, sym, ap, arith}
use Rattle.std.proofs.lemmas.List.{take_all}
use Rattle.std.specs.FinSet as set
use Rattle.catalogue_join.specs.Run.{names_listed}
use Rattle.catalogue_join.proofs.NameLists.{no_run, run_ordered, listed_count, listed_count_bound, len-names_in}
use Rattle.catalogue_join.proofs.held.Held.len.Goals as goal

pub len-count-requires : goal.len-count-requires
len-count-requires c = run_ordered c.as_slice-run-items.result.now c.loop-run.run-index no_run c.as_slice-run-items.ensures.maximal c.loop-run-test.true

pub overflow_add-count : goal.overflow_add-count
overflow_add-count c =
    let so_far : c.loop-run.count ≡ length (names_listed (take c.loop-run.run-index c.as_slice-run-items.result.now)) = c.loop-run.invariant in
    let bound = listed_count_bound c.as_slice-run-items.result.now c.loop-run.run-index no_run c.as_slice-run-items.ensures.maximal c.loop-run-test.true in
    omega (arith, c.len-count.ensures)

pub loop-run-preserved : goal.loop-run-preserved
loop-run-preserved c =
    let so_far : c.loop-run.count ≡ length (names_listed (take c.loop-run.run-index c.as_slice-run-items.result.now)) = c.loop-run.invariant in
    let more = listed_count c.as_slice-run-items.result.now c.loop-run.run-index no_run c.loop-run-test.true in
    omega (arith, c.len-count.ensures)

pub returns : goal.returns
returns c =
    c.loop-run.invariant
    ∙ ap (λ rs. length (names_listed rs)) (take_all c.loop-run.run-index c.as_slice-run-items.result.now c.loop-run-test.false ∙ c.as_slice-run-items.ensures.ranges)
    ∙ sym (len-names_in c.self.inside.runs c.self.invariant)
    ∙ ap (λ s. set.len s) c.self.view_is
