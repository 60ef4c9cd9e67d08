-- No word before this one gives free names.
use Rattle.std.proofs.Common.{◌≡◌, drop}
use Rattle.replica_changes.specs.Loads.{first_free}
use Rattle.replica_changes.proofs.naming.first_free.Given as goal

abbrev pub invariant-loop-word : goal.invariant-loop-word
invariant-loop-word l = first_free l.store.replica.state l.count (drop l.word-index l.words) ≡ first_free l.store.replica.state l.count l.words
