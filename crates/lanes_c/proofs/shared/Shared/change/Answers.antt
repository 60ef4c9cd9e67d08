-- What was brought is always taken, unless memory runs out.
use Rattle.std.specs.Prelude.{◌≡◌, ◌⊎◌, Err}
use Rattle.std.proofs.Common.{sym, subst, inr}
use Rattle.std.proofs.lemmas.Result.{err_from_is_err_and}
use Rattle.table_model.specs.declared.refusal.Refusal.{Refusal}
use Rattle.table_model.specs.declared.refusal.Refusal.TheVariants.{Memory}
use Rattle.replica_store.specs.Replica.{merged}
use Rattle.replica_store.specs.Segments.{StoreForm}
use Rattle.replica_changes.specs.CommandForms.{answer_of, command_of, has_changed}
use Rattle.replica_changes.proofs.JoinedChanges.{joins_memory}
use Rattle.lanes_c.proofs.TableChanging.{command_refused}
use Rattle.lanes_c.proofs.shared.Shared.change.Goals as goal

pub returns-in_err-take-clause-made : goal.returns-in_err-take-clause-made
returns-in_err-take-clause-made c =
    let p = err_from_is_err_and c.from_residual-in_err-take.result c.from_residual-in_err-take.ensures.1 in
    let e : Refusal = c.in_err-take.field-0.0 in
    let brought : StoreForm = c.in_ok-answer.brought in
    let why = subst (λ (s : StoreForm). (merged s.replica brought.replica ≡ Err e) ⊎ (e ≡ Memory)) (sym c.deref.ensures) c.in_err-take.ensures.refused in
    let lack : e ≡ Memory = joins_memory answer_of has_changed c.in_ok-answer.answer c.deref.result.now brought _ _ e c.in_ok-answer.ensures.brings why in
    rw (p.1, p.2) (command_refused (command_of c.args.command) c.args.self.now.store.value.replica e (inr lack))
