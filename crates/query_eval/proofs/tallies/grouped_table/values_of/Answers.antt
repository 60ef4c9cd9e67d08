-- One field more.
use Rattle.std.proofs.Common.{refl, get_or, sym, subst, ◌∙◌, arith}
use Rattle.query_eval.specs.Grouping.{IsHeld}
use Rattle.query_eval.specs.declared.tallies.aggregate.Aggregate.TheVariants.{Rows}
use Rattle.query_eval.specs.declared.tallies.tally.Tally.{Tally}
use Rattle.query_eval.proofs.OrderLemmas.{fields_more, some_column}
use Rattle.query_eval.proofs.tallies.grouped_table.values_of.Goals as goal
use Rattle.query_eval.proofs.tallies.grouped_table.values_of.Goals.{in-None, in-Some+in_ok-field-in-Some}

pub loop-i-preserved : goal.loop-i-preserved
loop-i-preserved c = λ table rows few h.
    let i = c.loop-i.i in
    let named = c.args.aggregates.now in
    let column = some_column c.args.tallies.now (omega (arith, h.size, c.loop-i-test.true)) in
    elim c.match-tally_at.branch [
      | in-Some+in_ok-field-in-Some w ↦
          let t = w.in-Some.tally.now in
          let at = sym (w.in-Some.ensures.some column t) in
          fields_more named i Rows rows c.loop-i.fields.items c.push.new.self.items c.match-tally_at.field c.loop-i-test.true (c.loop-i.invariant table rows few h) c.in_ok-push.ensures.items
          (w.field-is ∙ w.in_ok-field-in-Some.ensures table rows few (subst (λ (x : Tally). IsHeld rows (get_or named i Rows) x) at (h.each i Rows column t c.loop-i-test.true)))
      | in-None w ↦ absurd (omega (arith, h.within i column c.loop-i-test.true, h.size, c.loop-i-test.true, w.in-None.ensures.none refl column (omega (arith, h.size, c.loop-i-test.true))))
    ]
