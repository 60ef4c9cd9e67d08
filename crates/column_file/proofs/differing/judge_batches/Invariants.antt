-- The segments so far are canonical, and none has changed.
use Rattle.std.proofs.Common.{◌≡◌, ℕ, ◌<◌, get_or}
use Rattle.replica_store.specs.Segments.{Entry as Held}
use Rattle.column_file.specs.Files.{IsCanonicalHeld}
use Rattle.column_file.proofs.differing.judge_batches.Given as goal

abbrev pub invariant-loop-index : goal.invariant-loop-index
invariant-loop-index l = (l.entries.items ≡ l.fn.entries.items) × ((k : ℕ) (d : Held) → k < l.index → IsCanonicalHeld (get_or l.fn.entries.items k d))
