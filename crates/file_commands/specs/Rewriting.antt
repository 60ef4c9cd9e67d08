-- A command on what a file holds, of which the file after is written to memory.
use Rattle.std.specs.Prelude.{ℕ, Bool, List, [], Some, Ok}
use Rattle.replica_store.specs.Replica.{Replica}
use Rattle.replica_changes.specs.Commands.{Made, Makes, Puts}

-- What is answered is what the command makes of the replica, and what that is was written, if it is more than before.
abbrev pub Rewrites : {X Y : Type 0} → (X → Y) → (X → Bool) → Replica → X → List ℕ → (Replica → Made Y) → Type 0
Rewrites view changed old x bytes command =
    (new : Replica) × Makes view changed old (Ok x) new (command old) × Puts (changed x) (Ok tt) (Some []) (Some bytes) new
