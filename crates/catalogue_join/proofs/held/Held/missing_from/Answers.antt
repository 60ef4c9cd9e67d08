-- Run by run, the names that the other set lacks are those of the difference.
use Rattle.std.proofs.Common.{◌∙◌, List, ◌++◌, take, get_or, sym, ap, subst}
use Rattle.std.proofs.lemmas.List.{take_all}
use Rattle.std.proofs.lemmas.List.Elements.{filter-append}
use Rattle.std.specs.List.{filter}
use Rattle.std.specs.FinSet as set
use Rattle.table_model.specs.declared.names.BatchName.{BatchName}
use Rattle.catalogue_join.specs.Run.{names_listed, names_of, names_in}
use Rattle.catalogue_join.specs.Held.{lacks, IsListOf}
use Rattle.catalogue_join.proofs.NameLists.{no_run, listed_more, missing_listed}
use Rattle.catalogue_join.proofs.held.Held.missing_from.Goals as goal

pub loop-run-preserved : goal.loop-run-preserved
loop-run-preserved c =
    let p = lacks c.args.other.now in
    let rs = c.as_slice-run-items.result.now in
    let i = c.loop-run.run-index in
    c.in_ok-push_lacking.ensures
    ∙ ap (λ (xs : List BatchName). xs ++ filter p (names_of (get_or rs i no_run))) c.loop-run.invariant
    ∙ sym (ap (λ (xs : List BatchName). filter p xs) (listed_more rs i no_run c.loop-run-test.true) ∙ filter-append p (names_listed (take i rs)) (names_of (get_or rs i no_run)))

pub returns : goal.returns
returns c =
    let p = lacks c.args.other.now in
    let rs = c.as_slice-run-items.result.now in
    let all = c.loop-run.invariant ∙ ap (λ qs. filter p (names_listed qs)) (take_all c.loop-run.run-index rs c.loop-run-test.false ∙ c.as_slice-run-items.ensures.ranges) in
    let same = ap (λ s. set.difference s c.args.other.now) c.self.view_is in
    subst (λ s. IsListOf c.loop-run.missing.items s) same
    (subst (λ xs. IsListOf xs (set.difference (names_in c.self.inside.runs) c.args.other.now)) (sym all) (missing_listed c.self.inside.runs c.args.other.now c.self.invariant))
