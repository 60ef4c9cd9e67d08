-- What is refused in a merge depends on the other side's table and its batches alone.
use Rattle.std.specs.Prelude.{◌≡◌, cond, Option, Some, None, Ok, Err, IsOk}
use Rattle.std.proofs.Common.{refl, sym, ap, ◌∙◌}
use Rattle.std.specs.FinMap as map
use Rattle.table_model.specs.Outcome.{unless}
use Rattle.table_model.specs.Name.{name_cmp}
use Rattle.table_model.specs.State.{Batch}
use Rattle.table_model.specs.Table.{Table, same_table}
use Rattle.table_model.specs.declared.names.BatchName.{BatchName}
use Rattle.table_model.specs.declared.refusal.Refusal.{Refusal}
use Rattle.table_model.specs.declared.refusal.Refusal.TheVariants.{SchemaDiffers}
use Rattle.replica_store.specs.Replica.{Replica, replica_with, with_join, merge_fault, merged, conflict_or_full, conflict_with, entries_of, unless_fault}
use Rattle.replica_store.proofs.Limits.{IsMergeable, IsMergeable-none, none_unless}

abbrev Batches : Type 0
Batches = map.FinMap name_cmp Batch

full_same : (r other : Replica) (o : Option BatchName) → conflict_or_full r (replica_with other.schema other.state.batches) o ≡ conflict_or_full r other o
full_same r other None = refl
full_same r other (Some name) = refl

-- what is refused, where the other side's table and batches are known
pub fault_same : (r other : Replica) (table : Table) (batches : Batches) → other.schema ≡ table → other.state.batches ≡ batches → merge_fault r (replica_with table batches) ≡ merge_fault r other
unfolding merge_fault
fault_same r other table batches schema rows =
    (λ i. merge_fault r (replica_with (sym schema i) (sym rows i)))
    ∙ ap (λ (o : Option Refusal). cond (same_table r.schema other.schema) o (Some SchemaDiffers)) (full_same r other (conflict_with r.state.batches (entries_of other)))

some_unless : (o : Option Refusal) (e : Refusal) → Err e ≡ unless o → o ≡ Some e
some_unless None e is = cc
some_unless (Some fault) e is = cc

-- a merge that has a fault is refused by it
pub refused_merged : (r other : Replica) (table : Table) (batches : Batches) (e : Refusal) → other.schema ≡ table → other.state.batches ≡ batches → Err e ≡ unless (merge_fault r (replica_with table batches)) → merged r other ≡ Err e
refused_merged r other table batches e schema rows is =
    ap (λ (o : Option Refusal). unless_fault o (Ok (tt, with_join r other))) (sym (fault_same r other table batches schema rows) ∙ some_unless (merge_fault r (replica_with table batches)) e is)

-- a merge without a fault makes the join
pub joined_merged : (r other : Replica) (table : Table) (batches : Batches) (u : Unit {0}) → other.schema ≡ table → other.state.batches ≡ batches → Ok u ≡ unless (merge_fault r (replica_with table batches)) → merged r other ≡ Ok (tt, with_join r other)
joined_merged r other table batches u schema rows is =
    ap (λ (o : Option Refusal). unless_fault o (Ok (tt, with_join r other))) (sym (fault_same r other table batches schema rows) ∙ none_unless (merge_fault r (replica_with table batches)) u (sym is))

pub ok_merged : (r other : Replica) (table : Table) (batches : Batches) (u : Unit {0}) → other.schema ≡ table → other.state.batches ≡ batches → Ok u ≡ unless (merge_fault r (replica_with table batches)) → IsOk (merged r other)
ok_merged r other table batches u schema rows is = rw (joined_merged r other table batches u schema rows is) refl

-- and the tables are one, and the union is short enough
pub mergeable : (r : Replica) (table : Table) (batches : Batches) (u : Unit {0}) → Ok u ≡ unless (merge_fault r (replica_with table batches)) → IsMergeable r (replica_with table batches)
mergeable r table batches u is = IsMergeable-none r (replica_with table batches) (none_unless (merge_fault r (replica_with table batches)) u (sym is))
