-- An offer that is refused tells no batches.
use Rattle.std.proofs.Common.{◌≡◌, ap, sym, subst, ◌∙◌, Some, Err}
use Rattle.replica_store.specs.Replica.{Replica}
use Rattle.replica_store.specs.Segments.{StoreForm}
use Rattle.lanes_c.specs.Bringing.{BringsPart}
use Rattle.lanes_c.specs.declared.handle.Table.{Table}
use Rattle.lanes_c.specs.declared.shared.Shared.{Shared}
use Rattle.lanes_c.proofs.Bringings.{bring_told}
use Rattle.lanes_c.proofs.bringing.lanes_table_bring.Goals as goal

pub returns-in-Err-clause-brings : goal.returns-in-Err-clause-brings
returns-in-Err-clause-brings c =
    let r : Replica = c.in-Some.shared.value.store.value.replica in
    let held : c.args.table.now.replica ≡ Some r = ap (λ (t : Table). t.replica) (sym c.replace.ensures.value) ∙ c.in-Some.ensures in
    let same : c.deref-2.result.now.replica ≡ r = ap (λ (s : StoreForm). s.replica) (c.deref-2.ensures ∙ ap (λ (x : Shared). x.store.value) c.deref.ensures) in
    bring_told c.args.offer.now c.args.table.now.replica r c.in-Err.fault _ _ _ _ _ held
    (subst (λ (x : Replica). BringsPart (Err c.in-Err.fault) c.args.offer.now x) same c.in-Err.ensures)
    c.hand_out-in-Err.ensures.number c.hand_out-in-Err.ensures.room c.hand_out-in-Err.ensures.length c.hand_out-in-Err.ensures.place
