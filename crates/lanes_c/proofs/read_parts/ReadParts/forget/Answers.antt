-- What is left covers those that were read.
use Rattle.std.specs.Prelude.{◌≡◌, ℕ, List, map, string_bytes, Ok}
use Rattle.std.specs.Global.{Global}
use Rattle.std.specs.declared.string.String.{String}
use Rattle.std.proofs.Common.{ap, subst, ◌∙◌}
use Rattle.folder_protocol.specs.Note.{calls_of}
use Rattle.folder_protocol.specs.Taking.{bytes_read}
use Rattle.folder_turns.specs.Orders.{matter_of}
use Rattle.replica_store.specs.Replica.{Replica}
use Rattle.replica_changes.specs.Forgetting.{forgetting}
use Rattle.folder_commands.proofs.Commands.{is_some}
use Rattle.lanes_c.specs.PartsOrders.{MayFollow, Replaces}
use Rattle.lanes_c.proofs.PartsFollowing.{follows, forgets, replaces}
use Rattle.lanes_c.proofs.read_parts.ReadParts.forget.Goals as goal

pub returns-then-dropped-eq0-clause-forgot : goal.returns-then-dropped-eq0-clause-forgot
returns-then-dropped-eq0-clause-forgot c =
    subst (λ (w : Replica × List (List ℕ)). (left : Replica) × (forgetting w.0 ≡ Ok ((c.in-Ok.both.0.batches, c.in-Ok.both.0.rows), left)) × (c.in-Ok.both.0.batches ≡ 0)) c.self.view_is
    (c.in-Ok.ensures.0, c.in-Ok.ensures.1, c.if-dropped-eq0.true)

pub returns-clause-forgot : goal.returns-clause-forgot
returns-clause-forgot c =
    let left = c.in-Ok.ensures in
    let written = left.2 (is_some c.in-Ok.both.0.batches c.if-dropped-eq0.false) in
    subst (λ (w : Replica × List (List ℕ)). (left : Replica) × (forgetting w.0 ≡ Ok ((c.in-Ok.both.0.batches, c.in-Ok.both.0.rows), left)) × Replaces c.in_ok-order.order (string_bytes c.args.temporary) left w.1) c.self.view_is (
      left.0,
      left.1,
      replaces c.in_ok-order.order left.0 (bytes_read (calls_of c.self.inside.calls.noted)) (string_bytes c.args.temporary) c.in-Ok.both.1.items (map string_bytes c.as_slice.result.now) c.in_ok-order.ensures
          (ap (λ (l : List (String Global)). map string_bytes l) c.as_slice.ensures.value ∙ c.self.invariant.1) written,
    )

pub returns-clause-in_turn : goal.returns-clause-in_turn
returns-clause-in_turn c =
    let left = c.in-Ok.ensures in
    let written = left.2 (is_some c.in-Ok.both.0.batches c.if-dropped-eq0.false) in
    subst (λ (w : Replica × List (List ℕ)). MayFollow c.in_ok-order.order.task (matter_of c.in_ok-order.order) w.1) c.self.view_is
    (follows c.in_ok-order.order left.0 (bytes_read (calls_of c.self.inside.calls.noted)) (string_bytes c.args.temporary)
    (replaces c.in_ok-order.order left.0 (bytes_read (calls_of c.self.inside.calls.noted)) (string_bytes c.args.temporary) c.in-Ok.both.1.items (map string_bytes c.as_slice.result.now) c.in_ok-order.ensures
    (ap (λ (l : List (String Global)). map string_bytes l) c.as_slice.ensures.value ∙ c.self.invariant.1) written)
    (forgets c.self.inside.join left.0 (c.in-Ok.both.0.batches, c.in-Ok.both.0.rows) (bytes_read (calls_of c.self.inside.calls.noted)) (string_bytes c.args.temporary) c.self.invariant.0 left.1 written.1))
