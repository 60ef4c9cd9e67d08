-- The range is deleted in a store that is empty.
use Rattle.std.proofs.Common.{◌∙◌, ◌≡◌, not, sym, ap, inr}
use Rattle.std.proofs.lemmas.Result.{err_from_is_err_and}
use Rattle.std.specs.FinSet as set
use Rattle.replica_changes.specs.Refusals.{is_refusal_of_range}
use Rattle.replica_changes.proofs.CommandsBring.{rows_done, rows_stopped}
use Rattle.replica_changes.proofs.CommandSteps.{new_lacks}
use Rattle.replica_changes.proofs.StoreCommands.{range_listed}
use Rattle.replica_changes.proofs.bringing.bring_rows.Goals as goal

pub returns-in_err-own-clause-brings : goal.returns-in_err-own-clause-brings
returns-in_err-own-clause-brings c =
    let p = err_from_is_err_and c.from_residual.result c.from_residual.ensures.1 in
    rw (p.1, p.2) (inr (new_lacks c.schema.result.now c.in_err-own.field-0.0 c.in_err-own.ensures.value))

pub returns-in_err-own-clause-refused : goal.returns-in_err-own-clause-refused
returns-in_err-own-clause-refused c =
    let p = err_from_is_err_and c.from_residual.result c.from_residual.ensures.1 in
    rw (p.1, p.2) (ap is_refusal_of_range (new_lacks c.schema.result.now c.in_err-own.field-0.0 c.in_err-own.ensures.value))

pub returns-in_err-delete-clause-brings : goal.returns-in_err-delete-clause-brings
returns-in_err-delete-clause-brings c =
    let p = err_from_is_err_and c.from_residual-in_err-delete.result c.from_residual-in_err-delete.ensures.1 in
    rw (p.1, p.2) (rows_stopped c.args.held.now c.in_ok-own.own.replica c.args.first c.args.last c.in_err-delete.field-0.0 c.in_err-delete.ensures.acts.1)

pub returns-in_err-delete-clause-refused : goal.returns-in_err-delete-clause-refused
returns-in_err-delete-clause-refused c =
    let p = err_from_is_err_and c.from_residual-in_err-delete.result c.from_residual-in_err-delete.ensures.1 in
    rw (p.1, p.2) (range_listed c.in_ok-own.own.replica c.in_ok-own.own.replica c.args.first c.args.last c.in_err-delete.field-0.0 c.in_err-delete.ensures.acts.1)

pub returns-clause-brings : goal.returns-clause-brings
returns-clause-brings c =
    let held = c.args.held.now in
    let own = c.delete.new.self in
    let says = ap not (c.has_all-is_changed.ensures ∙ λ i. set.is_subset (c.tombs-2.ensures i) (c.tombs.ensures i)) in
    rows_done held c.in_ok-own.own own c.schema.result.now c.args.first c.args.last (not c.has_all-is_changed.result) tt c.schema.ensures c.in_ok-own.ensures.value c.in_ok-delete.ensures.acts says c.keeps_its_limits.ensures.limit
