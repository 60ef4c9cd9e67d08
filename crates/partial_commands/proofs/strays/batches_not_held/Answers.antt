-- A range's batch is passed by if it is held, and otherwise it is added.
use Rattle.std.proofs.Common.{◌≡◌, ◌∙◌, rules, sym, ap, true, false, get_or}
use Rattle.std.specs.FinSet as set
use Rattle.table_model.specs.Name.{name_cmp}
use Rattle.catalogue_join.specs.RowRange.{RowRange}
use Rattle.partial_answers.specs.Counted.{Names}
use Rattle.partial_commands.proofs.StrayNames.{proper_at, more_held, more_put}
use Rattle.partial_commands.proofs.strays.batches_not_held.Goals as goal
use Rattle.partial_commands.proofs.strays.batches_not_held.Goals.{then-not-holds+in_ok-insert, else-not-holds}

-- what is at a place past the end
abbrev none : RowRange
none = (record { batch = record { origin = record { 0 = 0 }; number = record { 0 = 0 } }; ordinal = 0 }, 0)

pub insert-requires : goal.insert-requires
insert-requires c = proper_at c.args.ranges.now c.loop-range.range-index none c.requires c.loop-range-test.true

pub loop-range-init : goal.loop-range-init
loop-range-init c = λ q. ap (λ (s : Names). set.contains s q) c.new-names.ensures ∙ set.contains-empty name_cmp q

pub loop-range-preserved : goal.loop-range-preserved
loop-range-preserved c = λ q.
    let ranges = c.args.ranges.now in
    let i = c.loop-range.range-index in
    let held : Names = c.args.held.now in
    let names : Names = c.loop-range.names in
    elim c.if-not-holds.branch [
      | then-not-holds+in_ok-insert w ↦
          let off : c.holds.result ≡ false = search rules in
          ap (λ (s : Names). set.contains s q) (w.names-is ∙ w.in_ok-insert.ensures.ok) ∙ more_put ranges i none held names q c.loop-range-test.true (c.loop-range.invariant q) (sym c.holds.ensures ∙ off)
      | else-not-holds w ↦
          let on : c.holds.result ≡ true = search rules in
          ap (λ (s : Names). set.contains s q) w.names-is ∙ more_held ranges i none held names q c.loop-range-test.true (c.loop-range.invariant q) (sym c.holds.ensures ∙ on)
    ]
