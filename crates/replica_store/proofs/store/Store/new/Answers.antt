-- A new store has no batch.
use Rattle.std.proofs.Common.{sym, subst, arith}
use Rattle.std.specs.FinMap as map
use Rattle.std.proofs.lemmas.Bool.Decides.{nat_tests}
use Rattle.table_model.specs.Name.{name_cmp}
use Rattle.table_model.specs.State.{Batch}
use Rattle.replica_store.specs.Replica.{IsWithinLimits}
use Rattle.replica_store.specs.Segments.{AreStored}
use Rattle.replica_store.proofs.Limits.{IsWithinLimits-empty}
use Rattle.replica_store.proofs.Stored.{AreStored-empty}
use Rattle.replica_store.proofs.store.Store.new.Goals as goal

pub invariant_of-result : goal.invariant_of-result
invariant_of-result c = record {
  sound = record {
    own_proper = grind (arith, nat_tests);
    within = subst (λ (m : map.FinMap name_cmp Batch). IsWithinLimits c.in_ok-schema.schema m) (sym c.new.ensures.rows) (IsWithinLimits-empty c.in_ok-schema.schema);
  };
  stored = subst (AreStored c.in_ok-schema.schema) (sym c.new.ensures.segments) (AreStored-empty c.in_ok-schema.schema);
  parted = c.new.ensures.own;
}
