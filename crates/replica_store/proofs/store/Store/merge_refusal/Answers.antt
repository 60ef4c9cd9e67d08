-- The other side's batches are the entries that were handed in.
use Rattle.std.specs.Prelude.{◌++◌, Option}
use Rattle.std.proofs.Common.{sym, ap, ◌∙◌}
use Rattle.table_model.specs.Outcome.{unless}
use Rattle.table_model.specs.declared.refusal.Refusal.{Refusal}
use Rattle.replica_store.specs.Segments.{StoreForm, rows_in}
use Rattle.replica_store.proofs.JoinedStores.{in_order, rows_are}
use Rattle.replica_store.proofs.Joining.{fault_same}
use Rattle.replica_store.proofs.Maps.{as_map}
use Rattle.replica_store.proofs.store.Store.merge_refusal.Goals as goal

pub merge_fault-requires : goal.merge_fault-requires
merge_fault-requires c = in_order c.other.inside.batches.segments (c.parts.result.0.now ++ c.parts.result.1.now) c.parts.ensures.whole

pub returns : goal.returns
returns c =
    let es = (c.parts.result.0.now ++ c.parts.result.1.now) in
    c.merge_fault.ensures
    ∙ ap (λ (o : Option Refusal). unless o) (fault_same c.args.self.now.replica c.args.other.now.replica c.other.inside.schema (rows_in (as_map es)) (ap (λ (s : StoreForm). s.replica.schema) (sym c.other.view_is))
    (rows_are c.args.other.now c.other.inside.batches.segments es (ap (λ (s : StoreForm). s.replica.state.batches) (sym c.other.view_is)) c.parts.ensures.whole))
