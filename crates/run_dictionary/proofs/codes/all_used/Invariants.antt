-- the numbers so far are marked
use Rattle.std.proofs.Common.{◌≡◌, ℕ, ◌<◌, slice_index_or, true, false}
use Rattle.run_dictionary.proofs.codes.all_used.Given as goal

abbrev pub invariant-loop-k : goal.invariant-loop-k
invariant-loop-k l = (i : ℕ) → i < l.k → slice_index_or l.used i false ≡ true
