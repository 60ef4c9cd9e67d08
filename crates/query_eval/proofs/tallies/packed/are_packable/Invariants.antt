-- Where the bits of the values so far are those of values that can be packed, each of them is one.
use Rattle.std.proofs.Common.{◌<◌, ◌^◌, ℕ, get_or, pos}
use Rattle.query_eval.specs.Packed.{IsPackable}
use Rattle.query_eval.proofs.tallies.packed.are_packable.Given as goal

abbrev pub invariant-loop-row : goal.invariant-loop-row
invariant-loop-row l = l.bits < 2 ^ 42 → (n : ℕ) → n < l.row → IsPackable (get_or l.values n (pos 0))
