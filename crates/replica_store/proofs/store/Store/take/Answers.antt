-- A store that no fault refuses is moved in.
use Rattle.std.specs.Prelude.{◌≡◌, Option, Some, None, Ok, Err, IsOk, Result}
use Rattle.std.proofs.Common.{refl, sym, ap, ◌∙◌, inl, inr}
use Rattle.std.proofs.lemmas.Result.{err_from_is_err_and}
use Rattle.table_model.specs.Outcome.{unless}
use Rattle.table_model.specs.declared.refusal.Refusal.{Refusal}
use Rattle.replica_store.specs.Replica.{Replica, merge_fault, merged, unless_fault, with_join}
use Rattle.replica_store.specs.Segments.{StoreForm}
use Rattle.replica_store.proofs.Limits.{none_unless}
use Rattle.replica_store.proofs.store.Store.take.Goals as goal

some_unless : (o : Option Refusal) (e : Refusal) → Err e ≡ unless o → o ≡ Some e
some_unless None e is = cc
some_unless (Some fault) e is = cc

refused : (r other : Replica) (e : Refusal) → Err e ≡ unless (merge_fault r other) → merged r other ≡ Err e
refused r other e is = ap (λ (o : Option Refusal). unless_fault o (Ok (tt, with_join r other))) (some_unless (merge_fault r other) e is)

fine : (r other : Replica) (u : Unit {0}) → Ok u ≡ unless (merge_fault r other) → merged r other ≡ Ok (tt, with_join r other)
fine r other u is = ap (λ (o : Option Refusal). unless_fault o (Ok (tt, with_join r other))) (none_unless (merge_fault r other) u (sym is))

is_fine : (r other : Replica) (u : Unit {0}) → Ok u ≡ unless (merge_fault r other) → IsOk (merged r other)
is_fine r other u is = rw (fine r other u is) refl

pub join-requires : goal.join-requires
join-requires c = is_fine c.args.self.now.replica c.args.other.replica c.in_ok-merge_refusal.field-0 c.in_ok-merge_refusal.ensures

pub returns-in_err-merge_refusal-clause-acts : goal.returns-in_err-merge_refusal-clause-acts
returns-in_err-merge_refusal-clause-acts c =
    let p = err_from_is_err_and c.from_residual.result c.from_residual.ensures.1 in
    rw (p.1, p.2) (refl, inl (refused c.args.self.now.replica c.args.other.replica c.in_err-merge_refusal.field-0.0 c.in_err-merge_refusal.ensures))

pub returns-in_err-join-clause-acts : goal.returns-in_err-join-clause-acts
returns-in_err-join-clause-acts c =
    let p = err_from_is_err_and c.from_residual-in_err-join.result c.from_residual-in_err-join.ensures.1 in
    rw p.1 (ap (λ (s : StoreForm). s.replica) c.in_err-join.ensures.kept, inr (p.2, is_fine c.args.self.now.replica c.args.other.replica c.in_ok-merge_refusal.field-0 c.in_ok-merge_refusal.ensures))
