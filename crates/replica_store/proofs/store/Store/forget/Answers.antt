-- What was there before and isn't after is what was dropped.
use Rattle.std.specs.Prelude.{◌≡◌, ◌-◌}
use Rattle.std.proofs.Common.{sym, ap, ◌∙◌}
use Rattle.std.specs.FinMap as map
use Rattle.replica_store.specs.Forgotten.{forgotten}
use Rattle.replica_store.specs.Replica.{Replica, entries_of}
use Rattle.replica_store.proofs.ForgetCounts.{rows_in, dropped_batches, dropped_rows}
use Rattle.replica_store.proofs.MergeAnswers.{made_of}
use Rattle.replica_store.proofs.store.Store.forget.Goals as goal

pub returns-clause-batches : goal.returns-clause-batches
returns-clause-batches c =
    let old = c.args.self.now.replica in
    let new = c.drop_dead.new.self.replica in
    let left : Replica = record { schema = old.schema; own = old.own; state = forgotten old.state } in
    let is : left ≡ new = made_of tt c.in_ok-drop_dead.field-0 left new c.in_ok-drop_dead.ensures.acts in
    c.saturating_sub.ensures
    ∙ (λ i. c.batches-batches.ensures.value i - c.batches.ensures.value i)
    ∙ ap (λ (r : Replica). map.len old.state.batches - map.len r.state.batches) (sym is)
    ∙ sym (dropped_batches old.state)

pub returns-clause-rows : goal.returns-clause-rows
returns-clause-rows c =
    let old = c.args.self.now.replica in
    let new = c.drop_dead.new.self.replica in
    let left : Replica = record { schema = old.schema; own = old.own; state = forgotten old.state } in
    let is : left ≡ new = made_of tt c.in_ok-drop_dead.field-0 left new c.in_ok-drop_dead.ensures.acts in
    c.saturating_sub-2.ensures
    ∙ (λ i. c.rows-rows.ensures i - c.rows.ensures i)
    ∙ ap (λ (r : Replica). rows_in (entries_of old) - rows_in (entries_of r)) (sym is)
    ∙ sym (dropped_rows old.state)
