-- A delete that isn't refused has a proper name and a range that isn't empty. One that changes nothing has rows that are deleted already.
use Rattle.std.specs.Prelude.{◌≡◌}
use Rattle.std.proofs.Common.{sym, ap, subst, ◌∙◌}
use Rattle.std.proofs.lemmas.Bool.{false≢true}
use Rattle.std.specs.FinSet as set
use Rattle.table_model.specs.Outcome.{unless}
use Rattle.replica_store.specs.Replica.{Replica, rows_between, delete_fault}
use Rattle.replica_store.specs.Segments.{StoreForm}
use Rattle.replica_store.proofs.Idle.{idle_delete, no_answer}
use Rattle.replica_store.proofs.Limits.{IsDeletable-none, none_unless}
use Rattle.replica_store.proofs.RowLists.{same_after, all_held}
use Rattle.replica_store.proofs.store.Store.delete.Goals as goal

pub insert-requires-clause-proper : goal.insert-requires-clause-proper
insert-requires-clause-proper c = let fine = IsDeletable-none c.args.first c.args.last (none_unless _ _ (sym c.in_ok-delete_fault.ensures)) in fine.proper

pub insert-requires-clause-not_empty : goal.insert-requires-clause-not_empty
insert-requires-clause-not_empty c = let fine = IsDeletable-none c.args.first c.args.last (none_unless _ _ (sym c.in_ok-delete_fault.ensures)) in fine.not_empty

pub returns-in_err-delete_fault-clause-idle : goal.returns-in_err-delete_fault-clause-idle
returns-in_err-delete_fault-clause-idle c same =
    let idle = idle_delete c.args.self.now.replica c.args.first c.args.last same in
    absurd (no_answer (unless (delete_fault c.args.first c.args.last)) c.in_err-delete_fault.field-0.0 tt (sym c.in_err-delete_fault.ensures) (ap unless idle.0))

pub returns-in_err-insert-clause-idle : goal.returns-in_err-insert-clause-idle
returns-in_err-insert-clause-idle c same =
    let idle = idle_delete c.args.self.now.replica c.args.first c.args.last same in
    let rows = rows_between c.args.first c.args.last in
    absurd (false≢true (c.in_err-insert.ensures.idle (subst (λ (s : StoreForm). set.union s.replica.state.deleted (set.from_list rows) ≡ s.replica.state.deleted) (sym c.self.view_is) idle.1)))

pub holds_rows-requires : goal.holds_rows-requires
holds_rows-requires c = let fine = IsDeletable-none c.args.first c.args.last (none_unless _ _ (sym c.in_ok-delete_fault.ensures)) in fine.not_empty

pub returns-then-holds_rows-clause-acts : goal.returns-then-holds_rows-clause-acts
returns-then-holds_rows-clause-acts c =
    let none = none_unless _ _ (sym c.in_ok-delete_fault.ensures) in
    let all = sym c.holds_rows.ensures ∙ c.if-holds_rows.true in
    rw (← c.self.view_is) (same_after _ (delete_fault c.args.first c.args.last) (rows_between c.args.first c.args.last) none all)

pub returns-clause-changed : goal.returns-clause-changed
returns-clause-changed c = (
  λ none. absurd (false≢true (sym none)),
  λ same.
      let rows = rows_between c.args.first c.args.last in
      let stays : set.union c.self.inside.tombs (set.from_list rows) ≡ c.self.inside.tombs =
      sym c.in_ok-insert.ensures.ok ∙ ap (λ (r : Replica). r.state.deleted) same ∙ ap (λ (s : StoreForm). s.replica.state.deleted) (sym c.self.view_is) in
      sym (c.holds_rows.ensures ∙ all_held c.self.inside.tombs rows stays) ∙ c.if-holds_rows.false,
)
