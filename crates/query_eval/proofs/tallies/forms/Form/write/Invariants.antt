-- The rows of the words so far are written.
use Rattle.std.proofs.Common.{◌≡◌, ◌*◌, ◌<◌, ℕ, get_or, pos}
use Rattle.query_eval.specs.Forms.{formed_at}
use Rattle.query_eval.proofs.tallies.forms.Form.write.Given as goal

abbrev pub invariant-loop-index : goal.invariant-loop-index
invariant-loop-index l = (n : ℕ) → n < 64 * l.index → get_or l.room n (pos 0) ≡ formed_at l.self l.rows l.values n
