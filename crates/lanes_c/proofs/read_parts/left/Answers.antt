-- What is left of the store is left of what parts hold together.
use Rattle.std.specs.Prelude.{◌≡◌, ◌==◌, not, true, Ok, IfOk}
use Rattle.replica_store.specs.Replica.{Replica}
use Rattle.replica_reports.specs.Held.{held_in}
use Rattle.replica_changes.specs.Commands.{as_held, file_of}
use Rattle.replica_changes.specs.Forgetting.{forgetting}
use Rattle.lanes_c.proofs.PartsFollowing.{of_join}
use Rattle.lanes_c.proofs.read_parts.left.Goals as goal

pub returns : goal.returns
returns c =
    of_join (λ (r : Replica). IfOk c.left_of.result (λ both. (left : Replica) × (forgetting r ≡ Ok ((both.0.batches, both.0.rows), left)) × (not (both.0.batches == 0) ≡ true → (both.1.items ≡ file_of left) × (held_in (file_of left) ≡ Ok (as_held left)))))
    c.args.join c.in_ok-store.store.replica c.in_ok-store.ensures.store c.left_of.ensures.left
