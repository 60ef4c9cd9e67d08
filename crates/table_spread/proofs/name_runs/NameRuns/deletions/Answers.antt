-- Each range whose batch goes to the share adds its rows, and in the end all ranges were looked at.
use Rattle.std.specs.Prelude.{cond, take}
use Rattle.std.proofs.Common.{◌≡◌, ◌+◌, sym, ap, ◌∙◌, arith, get_or}
use Rattle.std.proofs.lemmas.List.{take_all}
use Rattle.std.specs.FinSet as set
use Rattle.table_model.specs.Name.{row_name_cmp}
use Rattle.catalogue_join.specs.RowRange.{RowRange, rows_between, rows_in}
use Rattle.catalogue_join.proofs.RowSets.{rows_in-nil}
use Rattle.table_spread.specs.Spread.{goes_to}
use Rattle.table_spread.proofs.Deletions.{given_at, ranges_of_names, deletions_in, kept_more}
use Rattle.table_spread.proofs.name_runs.NameRuns.deletions.Goals as goal
use Rattle.table_spread.proofs.name_runs.NameRuns.deletions.Goals.{then-goes_to+in_ok-insert, else-goes_to}

abbrev no_range : RowRange
no_range = (record { batch = record { origin = record { 0 = 0 }; number = record { 0 = 0 } }; ordinal = 0 }, 0)

pub loop-place-init : goal.loop-place-init
loop-place-init c = c.new-kept.ensures ∙ sym rows_in-nil

pub insert-requires-clause-proper : goal.insert-requires-clause-proper
insert-requires-clause-proper c = (given_at c.ranges-ranges.result.now c.loop-place.place no_range c.ranges-ranges.ensures.maximal c.loop-place-test.true).proper

pub insert-requires-clause-not_empty : goal.insert-requires-clause-not_empty
insert-requires-clause-not_empty c = (given_at c.ranges-ranges.result.now c.loop-place.place no_range c.ranges-ranges.ensures.maximal c.loop-place-test.true).not_empty

pub loop-place-preserved : goal.loop-place-preserved
loop-place-preserved c =
    let goes = goes_to c.args.self.now c.args.held.now c.args.index in
    let rs = c.ranges-ranges.result.now in
    let i = c.loop-place.place in
    let r = get_or rs i no_range in
    let front = rows_in (ranges_of_names goes (take i rs)) in
    let more = kept_more goes rs i no_range c.loop-place-test.true in
    elim c.if-goes_to.branch as (λ _. c.if-goes_to.kept ≡ rows_in (ranges_of_names goes (take (i + 1) rs))) [
      | then-goes_to+in_ok-insert w ↦
          w.kept-is ∙ w.in_ok-insert.ensures.ok
          ∙ ap (λ (s : set.FinSet row_name_cmp). set.union s (set.from_list (rows_between r.0 r.1))) c.loop-place.invariant
          ∙ sym (more ∙ ap (λ b. cond b (set.union front (set.from_list (rows_between r.0 r.1))) front) (sym c.goes_to.ensures ∙ w.if-goes_to.true))
      | else-goes_to w ↦
          w.kept-is ∙ c.loop-place.invariant ∙ sym (more ∙ ap (λ b. cond b (set.union front (set.from_list (rows_between r.0 r.1))) front) (sym c.goes_to.ensures ∙ w.if-goes_to.false))
    ]

pub returns : goal.returns
returns c =
    let goes = goes_to c.args.self.now c.args.held.now c.args.index in
    c.loop-place.invariant
    ∙ ap (λ rs. rows_in (ranges_of_names goes rs)) (take_all c.loop-place.place c.ranges-ranges.result.now (omega (arith, c.loop-place-test.false)))
    ∙ deletions_in goes c.ranges-ranges.result.now c.args.deleted.now c.ranges-ranges.ensures.rows
