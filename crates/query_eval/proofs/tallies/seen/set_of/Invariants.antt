-- The values so far are in the set.
use Rattle.std.proofs.Common.{◌≡◌, take, ℤ}
use Rattle.std.specs.HashSet.{contains, hasher_of}
use Rattle.std.specs.List.{list_any}
use Rattle.std.specs.Ordering.{int_eq}
use Rattle.query_eval.proofs.tallies.seen.set_of.Given as goal

abbrev pub invariant-loop-value : goal.invariant-loop-value
invariant-loop-value l = record {
  values : (z : ℤ) → contains int_eq l.set z ≡ list_any (int_eq z) (take l.value-index l.values);
  hasher : hasher_of l.set ≡ l.fn.hash_key;
}
