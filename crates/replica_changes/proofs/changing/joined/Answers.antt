-- The join of the one store with the other.
use Rattle.std.specs.Prelude.{◌≡◌, Result, Ok}
use Rattle.std.proofs.Common.{inl, inr, sym, ap, subst, ◌∙◌, ◌⊎◌, Err}
use Rattle.std.proofs.lemmas.Result.{err_from_is_err_and}
use Rattle.replica_store.specs.Replica.{merged}
use Rattle.replica_store.specs.Segments.{StoreForm}
use Rattle.replica_store.proofs.JoinedStores.{levelled_reads}
use Rattle.table_model.specs.declared.refusal.Refusal.TheVariants.{Memory}
use Rattle.replica_changes.proofs.JoinedChanges.{ok_one, no_fault}
use Rattle.replica_changes.proofs.changing.joined.Goals as goal

pub returns-in_err-alone : goal.returns-in_err-alone
returns-in_err-alone c =
    let p = err_from_is_err_and c.from_residual.result c.from_residual.ensures.1 in
    rw (p.1, p.2) (inr (no_fault c.args.held c.in_err-alone.field-0.0 c.in_err-alone.ensures))

pub returns-in_err-both : goal.returns-in_err-both
returns-in_err-both c =
    let p = err_from_is_err_and c.from_residual-in_err-both.result c.from_residual-in_err-both.ensures.1 in
    let e = c.in_err-both.field-0.0 in
    let same = ok_one c.args.held c.in_ok-alone.alone c.in_ok-alone.ensures in
    rw (p.1, p.2) (subst (λ (s : StoreForm). (merged s.replica c.args.brought.replica ≡ Err e) ⊎ (e ≡ Memory)) (sym same) c.in_err-both.ensures.value)

pub returns : goal.returns
returns c =
    let same = ok_one c.args.held c.in_ok-alone.alone c.in_ok-alone.ensures in
    levelled_reads c.into_store.result c.in_ok-both.both (merged c.args.held.replica c.args.brought.replica) c.into_store.ensures
    (ap (λ (s : StoreForm). merged s.replica c.args.brought.replica) same ∙ c.in_ok-both.ensures.value)
