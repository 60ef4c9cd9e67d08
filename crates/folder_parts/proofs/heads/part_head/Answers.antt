-- The number of batches fits 32 bits.
use Rattle.std.proofs.Common.{◌≤◌, arith}
use Rattle.replica_store.specs.Replica.{batch_limit}
use Rattle.folder_parts.proofs.Fronts.{counted}
use Rattle.folder_parts.proofs.heads.part_head.Goals as goal

pub overflow_cast-result : goal.overflow_cast-result
overflow_cast-result c =
    let few : c.in_ok-batches.batches ≤ batch_limit = counted _ _ _ c.in_ok-batches.ensures.read in
    omega (arith, few)
