-- Run by run.
use Rattle.std.proofs.Common.{◌+◌, List, Some, None, drop, get_or, sym, ap, ◌∙◌}
use Rattle.std.specs.FinSet as set
use Rattle.std.specs.List.{filter}
use Rattle.std.proofs.lemmas.List.{drop_more}
use Rattle.catalogue_join.specs.Run.{names_listed}
use Rattle.catalogue_join.specs.declared.run.Run.{Run}
use Rattle.catalogue_join.proofs.NameLists.{no_run}
use Rattle.partial_answers.specs.Between.{first_of}
use Rattle.partial_answers.proofs.SharedNames.{first_on, first_here, first_is, nothing_behind}
use Rattle.partial_answers.proofs.apart.first_shared.Goals as goal

pub returns-in-Some : goal.returns-in-Some
returns-in-Some c =
    let p = set.contains c.args.other.now in
    let rs = c.runs-run-items.result.now in
    let i = c.loop-run.run-index in
    let behind = drop_more rs i no_run c.loop-run-test.true in
    let whole = sym c.loop-run.invariant ∙ ap (λ (l : List Run). first_of (filter p (names_listed l))) behind ∙ first_here p (get_or rs i no_run) (drop (i + 1) rs) c.in-Some.name (sym c.first_in.ensures ∙ c.in-Some.is) in
    first_is c.args.one.now c.args.other.now (names_listed rs) (Some c.in-Some.name) c.runs-run-items.ensures.names (sym whole)

pub loop-run-preserved : goal.loop-run-preserved
loop-run-preserved c =
    let p = set.contains c.args.other.now in
    let rs = c.runs-run-items.result.now in
    let i = c.loop-run.run-index in
    let behind = drop_more rs i no_run c.loop-run-test.true in
    sym (first_on p (get_or rs i no_run) (drop (i + 1) rs) (sym c.first_in.ensures ∙ c.in_default.is))
    ∙ sym (ap (λ (l : List Run). first_of (filter p (names_listed l))) behind)
    ∙ c.loop-run.invariant

pub returns : goal.returns
returns c =
    let p = set.contains c.args.other.now in
    let rs = c.runs-run-items.result.now in
    let none = sym (ap (λ (l : List Run). first_of (filter p (names_listed l))) (nothing_behind rs c.loop-run.run-index c.loop-run-test.false)) ∙ c.loop-run.invariant in
    first_is c.args.one.now c.args.other.now (names_listed rs) None c.runs-run-items.ensures.names none
