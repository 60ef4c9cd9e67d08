-- The name is in the run where the count of names passes the index.
use Rattle.std.proofs.Common.{◌≡◌, ◌∙◌, ◌+◌, ◌<◌, length, take, get_or, sym, ap, subst, arith}
use Rattle.std.proofs.lemmas.List.{take_all}
use Rattle.std.specs.FinSet as set
use Rattle.catalogue_join.specs.Run.{names_listed, names_in, run_length, name_at}
use Rattle.catalogue_join.specs.Held.{IsNameAt}
use Rattle.catalogue_join.proofs.NameLists.{no_run, run_ordered, run_bounded, listed_count, len-names_in, name_is_at}
use Rattle.catalogue_join.proofs.held.Held.name.Goals as goal

pub len-count-requires : goal.len-count-requires
len-count-requires c = run_ordered c.as_slice-run-items.result.now c.loop-run.run-index no_run c.as_slice-run-items.ensures.maximal c.loop-run-test.true

pub overflow_cast-result : goal.overflow_cast-result
overflow_cast-result c =
    let b = run_bounded c.as_slice-run-items.result.now c.loop-run.run-index no_run c.as_slice-run-items.ensures.maximal c.loop-run-test.true in
    let o = run_ordered c.as_slice-run-items.result.now c.loop-run.run-index no_run c.as_slice-run-items.ensures.maximal c.loop-run-test.true in
    omega (arith, c.len-count.ensures, c.if-left-count.true, b.last)

pub overflow_add-result : goal.overflow_add-result
overflow_add-result c =
    let b = run_bounded c.as_slice-run-items.result.now c.loop-run.run-index no_run c.as_slice-run-items.ensures.maximal c.loop-run-test.true in
    let o = run_ordered c.as_slice-run-items.result.now c.loop-run.run-index no_run c.as_slice-run-items.ensures.maximal c.loop-run-test.true in
    omega (arith, c.len-count.ensures, c.if-left-count.true, b.last)

pub returns-then-left-count : goal.returns-then-left-count
returns-then-left-count c =
    let rs = c.as_slice-run-items.result.now in
    let i = c.loop-run.run-index in
    let less : c.loop-run.left < run_length (get_or rs i no_run) = omega (arith, c.len-count.ensures, c.if-left-count.true) in
    let same = ap names_in c.as_slice-run-items.ensures.ranges ∙ c.self.view_is in
    subst (λ s. IsNameAt s c.args.index (name_at (get_or rs i no_run).first.origin ((get_or rs i no_run).first.number.0 + c.loop-run.left))) same
    (name_is_at rs i c.loop-run.left c.args.index no_run c.as_slice-run-items.ensures.maximal c.loop-run-test.true less c.loop-run.invariant)

pub loop-run-preserved : goal.loop-run-preserved
loop-run-preserved c =
    let so_far : c.args.index ≡ length (names_listed (take c.loop-run.run-index c.as_slice-run-items.result.now)) + c.loop-run.left = c.loop-run.invariant in
    let more = listed_count c.as_slice-run-items.result.now c.loop-run.run-index no_run c.loop-run-test.true in
    omega (arith, c.len-count.ensures, c.if-left-count.false)

pub unreachable-requires : goal.unreachable-requires
unreachable-requires c =
    let rs = c.as_slice-run-items.result.now in
    let so_far : c.args.index ≡ length (names_listed (take c.loop-run.run-index rs)) + c.loop-run.left = c.loop-run.invariant in
    let all : length (names_listed (take c.loop-run.run-index rs)) ≡ set.len c.args.self.now =
    ap (λ qs. length (names_listed qs)) (take_all c.loop-run.run-index rs c.loop-run-test.false ∙ c.as_slice-run-items.ensures.ranges) ∙ sym (len-names_in c.self.inside.runs c.self.invariant) ∙ ap (λ s. set.len s) c.self.view_is in
    let fits : c.args.index < set.len c.args.self.now = c.requires in
    omega arith
