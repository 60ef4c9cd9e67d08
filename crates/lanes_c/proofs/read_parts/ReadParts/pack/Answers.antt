-- The new part covers those that were read.
use Rattle.std.specs.Prelude.{ℕ, List, map, string_bytes, IfOk}
use Rattle.std.specs.Global.{Global}
use Rattle.std.specs.declared.string.String.{String}
use Rattle.std.proofs.Common.{ap, subst, ◌∙◌}
use Rattle.folder_turns.specs.Orders.{matter_of}
use Rattle.replica_store.specs.Replica.{Replica}
use Rattle.lanes_c.specs.PartsOrders.{MayFollow}
use Rattle.lanes_c.proofs.PartsFollowing.{pack_follows}
use Rattle.lanes_c.proofs.read_parts.ReadParts.pack.Goals as goal

pub returns-clause-in_turn : goal.returns-clause-in_turn
returns-clause-in_turn c =
    subst (λ (w : Replica × List (List ℕ)). IfOk c.replacing.result (λ order. MayFollow order.task (matter_of order) w.1)) c.self.view_is
    (pack_follows c.replacing.result c.self.inside.join _ (string_bytes c.args.temporary) c.in-Ok.bytes.items (map string_bytes c.as_slice.result.now) c.replacing.ensures
    (ap (λ (l : List (String Global)). map string_bytes l) c.as_slice.ensures.value ∙ c.self.invariant.1) (c.in-Ok.ensures.file, c.in-Ok.ensures.read) c.self.invariant.0)
