-- The condition is a text, and the rows at which it is true are deleted.
use Rattle.std.specs.Prelude.{ℕ, List}
use Rattle.std.proofs.Common.{subst}
use Rattle.replica_changes.specs.CommandForms.{Delete}
use Rattle.lanes_c.specs.Calls.{Yields, change_of}
use Rattle.lanes_c.specs.Rooms.{given_by}
use Rattle.lanes_c.proofs.changing.deleted_where.Goals as goal

pub returns : goal.returns
returns c = (
  λ text. subst (λ (t : List ℕ). Yields (given_by c.changed.result) (change_of (Delete t) c.args.file.now)) c.in_ok-text.ensures.text.0 c.changed.ensures,
  λ other. absurd (other c.in_ok-text.ensures.text.1),
)
