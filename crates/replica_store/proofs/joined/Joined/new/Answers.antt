-- Beside a store without batches a store is the whole.
use Rattle.std.specs.Prelude.{◌≤◌, Ok, Result}
use Rattle.std.proofs.Common.{sym, ap, subst}
use Rattle.std.specs.FinMap as map
use Rattle.table_model.specs.declared.refusal.Refusal.{Refusal}
use Rattle.replica_store.specs.Replica.{batch_limit}
use Rattle.replica_store.specs.Segments.{StoreForm}
use Rattle.replica_store.proofs.JoinedStores.{joined_new}
use Rattle.replica_store.proofs.joined.Joined.new.Goals as goal

pub invariant_of-result : goal.invariant_of-result
invariant_of-result c =
    let limit : map.len c.args.base.replica.state.batches ≤ batch_limit = subst (λ (s : StoreForm). map.len s.replica.state.batches ≤ batch_limit) c.base.view_is c.base.invariant.sound.within.limit in
    let both = joined_new c.args.base c.in_ok-recent.recent c.schema.result.now c.own.result c.schema.ensures c.own.ensures.value c.in_ok-recent.ensures.value c.in_ok-recent.ensures.segments limit in both.0

pub returns : goal.returns
returns c =
    let limit : map.len c.args.base.replica.state.batches ≤ batch_limit = subst (λ (s : StoreForm). map.len s.replica.state.batches ≤ batch_limit) c.base.view_is c.base.invariant.sound.within.limit in
    let both = joined_new c.args.base c.in_ok-recent.recent c.schema.result.now c.own.result c.schema.ensures c.own.ensures.value c.in_ok-recent.ensures.value c.in_ok-recent.ensures.segments limit in
    ap (λ (s : StoreForm). let ok : Result StoreForm Refusal = Ok s in ok) (sym both.1)
