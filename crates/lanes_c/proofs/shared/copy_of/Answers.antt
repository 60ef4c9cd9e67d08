-- All that the store has is offered and taken.
use Rattle.std.specs.Prelude.{Result, Ok}
use Rattle.std.proofs.Common.{refl, subst, inr}
use Rattle.std.proofs.lemmas.Result.{err_from_is_err_and}
use Rattle.table_model.specs.Outcome.{Gives}
use Rattle.table_model.specs.declared.refusal.Refusal.{Refusal}
use Rattle.replica_store.specs.Replica.{Replica}
use Rattle.replica_store.specs.Segments.{StoreForm}
use Rattle.lanes_c.proofs.TableChanging.{copied, lacks, offer_lacks, opened_copy}
use Rattle.lanes_c.proofs.shared.copy_of.Goals as goal

pub returns-in_err-nothing : goal.returns-in_err-nothing
returns-in_err-nothing c =
    let p = err_from_is_err_and c.from_residual.result c.from_residual.ensures.1 in
    rw (p.1, p.2) (inr (lacks _ c.in_err-nothing.field-0.0 _ refl c.in_err-nothing.ensures, refl))

pub returns-in_err-all : goal.returns-in_err-all
returns-in_err-all c =
    let p = err_from_is_err_and c.from_residual-in_err-all.result c.from_residual-in_err-all.ensures.1 in
    rw (p.1, p.2) (inr (offer_lacks c.args.store.now.replica c.schema.result.now c.in_ok-nothing.nothing c.in_err-all.field-0.0 c.schema.ensures c.in_ok-nothing.ensures c.in_err-all.ensures.state, refl))

pub returns : goal.returns
returns c =
    let r : Replica = c.args.store.now.replica in
    let all = copied r c.schema.result.now c.in_ok-nothing.nothing c.in_ok-all.all c.schema.ensures c.in_ok-nothing.ensures c.in_ok-all.ensures.state c.in_ok-all.ensures.schema in
    subst (λ (given : Result Replica Refusal). Gives (λ (s : StoreForm). s.replica) c.into_store.result given) (opened_copy r c.own.result c.in_ok-all.all c.own.ensures.value c.own.ensures.proper all) c.into_store.ensures.value
