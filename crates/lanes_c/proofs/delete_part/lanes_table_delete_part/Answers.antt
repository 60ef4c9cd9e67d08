-- A delete that is refused tells no rows.
use Rattle.std.specs.Prelude.{ℕ, List}
use Rattle.std.proofs.Common.{◌≡◌, ap, sym, subst, ◌∙◌, Some, Err}
use Rattle.replica_store.specs.Replica.{Replica}
use Rattle.replica_store.specs.Segments.{StoreForm}
use Rattle.lanes_c.specs.Calls.{Asks}
use Rattle.lanes_c.specs.DeletePart.{part_of_delete}
use Rattle.lanes_c.specs.declared.handle.Table.{Table}
use Rattle.lanes_c.specs.declared.shared.Shared.{Shared}
use Rattle.lanes_c.proofs.DeleteParts.{delete_told}
use Rattle.lanes_c.proofs.delete_part.lanes_table_delete_part.Goals as goal

pub returns-in-Err-clause-deletes : goal.returns-in-Err-clause-deletes
returns-in-Err-clause-deletes c =
    let r : Replica = c.in-Some.shared.value.store.value.replica in
    let held : c.args.table.now.replica ≡ Some r = ap (λ (t : Table). t.replica) (sym c.replace.ensures.value) ∙ c.in-Some.ensures in
    let same : c.deref-2.result.now.replica ≡ r = ap (λ (s : StoreForm). s.replica) (c.deref-2.ensures ∙ ap (λ (x : Shared). x.store.value) c.deref.ensures) in
    delete_told c.args.condition.now c.args.table.now.replica r c.in-Err.fault _ _ _ _ _ held
    (subst (λ (x : Replica). Asks {X = ℕ × List ℕ} (Err c.in-Err.fault) c.args.condition.now (part_of_delete c.args.condition.now x)) same c.in-Err.ensures)
    c.hand_out-in-Err.ensures.number c.hand_out-in-Err.ensures.room c.hand_out-in-Err.ensures.length c.hand_out-in-Err.ensures.place
