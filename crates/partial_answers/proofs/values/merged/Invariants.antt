-- The values so far are those of the two fronts, rise, and are below those to come.
use Rattle.std.proofs.Common.{◌+◌, ◌-◌, ◌<◌, ◌≤◌, length, take, get_or, pos}
use Rattle.std.specs.List.Sorted.{IsStrictlySortedBy}
use Rattle.std.specs.Ordering.{int_cmp}
use Rattle.partial_answers.specs.Kept.{HasValuesOf}
use Rattle.partial_answers.proofs.Rising.{AreBelow}
use Rattle.partial_answers.proofs.values.merged.Given as goal

abbrev pub invariant-loop-x : goal.invariant-loop-x
invariant-loop-x l = record {
  first : l.i ≤ length l.a;
  second : l.j ≤ length l.b;
  values : HasValuesOf l.both.items (take l.i l.a) (take l.j l.b);
  rising : IsStrictlySortedBy int_cmp l.both.items;
  below_first : l.i < length l.a → AreBelow l.both.items (get_or l.a l.i (pos 0));
  below_second : l.j < length l.b → AreBelow l.both.items (get_or l.b l.j (pos 0));
}

abbrev pub decreases-loop-x : goal.decreases-loop-x
decreases-loop-x l = (length l.a - l.i) + (length l.b - l.j)
