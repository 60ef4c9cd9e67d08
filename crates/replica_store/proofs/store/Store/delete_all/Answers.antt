-- Where all rows are deleted already the store stays. A delete that changes nothing has such rows.
use Rattle.std.specs.Prelude.{◌≡◌}
use Rattle.std.proofs.Common.{true, sym, ap, subst, ◌∙◌}
use Rattle.std.specs.FinSet as set
use Rattle.std.specs.List.{list_all}
use Rattle.std.proofs.lemmas.Bool.{false≢true}
use Rattle.replica_store.specs.Replica.{Replica}
use Rattle.replica_store.specs.Segments.{StoreForm}
use Rattle.replica_store.proofs.Limits.{none_unless}
use Rattle.replica_store.proofs.RowLists.{idle_names, all_proper, all_held, same_deleted}
use Rattle.replica_store.proofs.store.Store.delete_all.Goals as goal

pub returns-then-holds_all-clause-acts : goal.returns-then-holds_all-clause-acts
returns-then-holds_all-clause-acts c =
    let none = none_unless _ _ (sym c.in_ok-names_fault.ensures) in
    let all = sym c.holds_all.ensures ∙ c.if-holds_all.true in
    rw (← c.self.view_is) (same_deleted _ c.args.rows.now none all)

pub from_rows-requires : goal.from_rows-requires
from_rows-requires c = all_proper c.args.rows.now (none_unless _ _ (sym c.in_ok-names_fault.ensures))

pub returns-in_err-more-clause-idle : goal.returns-in_err-more-clause-idle
returns-in_err-more-clause-idle c same =
    let idle = idle_names c.args.self.now.replica c.args.rows.now same in
    let all = subst (λ (s : StoreForm). list_all (set.contains s.replica.state.deleted) c.args.rows.now ≡ true) (sym c.self.view_is) idle.1 in
    absurd (false≢true (sym c.if-holds_all.false ∙ c.holds_all.ensures ∙ all))

pub returns-in_err-join-clause-idle : goal.returns-in_err-join-clause-idle
returns-in_err-join-clause-idle c same =
    let idle = idle_names c.args.self.now.replica c.args.rows.now same in
    let all = subst (λ (s : StoreForm). list_all (set.contains s.replica.state.deleted) c.args.rows.now ≡ true) (sym c.self.view_is) idle.1 in
    absurd (false≢true (sym c.if-holds_all.false ∙ c.holds_all.ensures ∙ all))

pub returns-clause-changed : goal.returns-clause-changed
returns-clause-changed c = (
  λ none. absurd (false≢true (sym none)),
  λ same.
      let stays : set.union c.self.inside.tombs (set.from_list c.args.rows.now) ≡ c.self.inside.tombs =
      ap (set.union c.self.inside.tombs) (sym c.in_ok-more.ensures) ∙ sym c.in_ok-join.ensures.ok ∙ ap (λ (r : Replica). r.state.deleted) same ∙ ap (λ (s : StoreForm). s.replica.state.deleted) (sym c.self.view_is) in
      sym (c.holds_all.ensures ∙ all_held c.self.inside.tombs c.args.rows.now stays) ∙ c.if-holds_all.false,
)
