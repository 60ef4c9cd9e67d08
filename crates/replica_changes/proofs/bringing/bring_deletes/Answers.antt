-- The rows that the condition found are deleted in a store that is empty.
use Rattle.std.proofs.Common.{◌∙◌, sym, ap, length, inr}
use Rattle.std.proofs.lemmas.Result.{err_from_is_err_and}
use Rattle.store_view.specs.Asked.{is_refusal_of_condition}
use Rattle.replica_changes.proofs.CommandsBring.{deletes_done, deletes_stopped}
use Rattle.replica_changes.proofs.CommandSteps.{new_lacks}
use Rattle.replica_changes.proofs.StoreCommands.{only_memory}
use Rattle.replica_changes.proofs.bringing.bring_deletes.Goals as goal

pub returns-in_err-names-clause-brings : goal.returns-in_err-names-clause-brings
returns-in_err-names-clause-brings c =
    let p = err_from_is_err_and c.from_residual.result c.from_residual.ensures.1 in
    rw (p.1, p.2) (deletes_stopped c.args.held.now c.args.condition.now c.in_err-names.field-0.0 c.in_err-names.ensures.read)

pub returns-in_err-names-clause-refused : goal.returns-in_err-names-clause-refused
returns-in_err-names-clause-refused c =
    let p = err_from_is_err_and c.from_residual.result c.from_residual.ensures.1 in
    rw (p.1, p.2) c.in_err-names.ensures.refused

pub returns-in_err-own-clause-brings : goal.returns-in_err-own-clause-brings
returns-in_err-own-clause-brings c =
    let p = err_from_is_err_and c.from_residual-in_err-own.result c.from_residual-in_err-own.ensures.1 in
    rw (p.1, p.2) (inr (new_lacks c.schema.result.now c.in_err-own.field-0.0 c.in_err-own.ensures.value))

pub returns-in_err-own-clause-refused : goal.returns-in_err-own-clause-refused
returns-in_err-own-clause-refused c =
    let p = err_from_is_err_and c.from_residual-in_err-own.result c.from_residual-in_err-own.ensures.1 in
    rw (p.1, p.2) (ap is_refusal_of_condition (new_lacks c.schema.result.now c.in_err-own.field-0.0 c.in_err-own.ensures.value))

pub returns-in_err-delete_all-clause-brings : goal.returns-in_err-delete_all-clause-brings
returns-in_err-delete_all-clause-brings c =
    let p = err_from_is_err_and c.from_residual-in_err-delete_all.result c.from_residual-in_err-delete_all.ensures.1 in
    rw (p.1, p.2) (inr (only_memory c.in_ok-own.own.replica c.in_ok-names.names.items c.as_slice.result.now c.in_err-delete_all.field-0.0 c.in_ok-names.ensures.proper c.as_slice.ensures.value c.in_err-delete_all.ensures.acts.1))

pub returns-in_err-delete_all-clause-refused : goal.returns-in_err-delete_all-clause-refused
returns-in_err-delete_all-clause-refused c =
    let p = err_from_is_err_and c.from_residual-in_err-delete_all.result c.from_residual-in_err-delete_all.ensures.1 in
    rw (p.1, p.2) (ap is_refusal_of_condition (only_memory c.in_ok-own.own.replica c.in_ok-names.names.items c.as_slice.result.now c.in_err-delete_all.field-0.0 c.in_ok-names.ensures.proper c.as_slice.ensures.value c.in_err-delete_all.ensures.acts.1))

pub returns-clause-brings : goal.returns-clause-brings
returns-clause-brings c =
    let counted = c.len-rows.ensures ∙ sym c.as_slice.ensures.len ∙ ap length c.as_slice.ensures.value in
    deletes_done c.args.held.now c.in_ok-own.own c.delete_all.new.self c.schema.result.now c.args.condition.now c.in_ok-names.names.items c.as_slice.result.now c.len-rows.result tt
    c.in_ok-names.ensures.read c.as_slice.ensures.value counted c.schema.ensures c.in_ok-own.ensures.value c.in_ok-delete_all.ensures.acts c.keeps_its_limits.ensures.limit
