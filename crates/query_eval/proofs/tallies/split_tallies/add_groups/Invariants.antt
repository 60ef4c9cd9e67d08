-- The tallies that came are of no rows.
use Rattle.std.proofs.Common.{◌≡◌, ◌+◌, ◌<◌, ◌≤◌, [], ℕ, length, get_or}
use Rattle.query_eval.specs.Grouping.{IsHeld}
use Rattle.query_eval.specs.declared.tallies.tally.Tally.{Tally}
use Rattle.query_eval.proofs.tallies.split_tallies.add_groups.Given as goal

abbrev pub invariant-loop : goal.invariant-loop
invariant-loop l = record {
  size : length l.tallies.items ≡ length l.initial.tallies.items + l.counter;
  known : (g : ℕ) (t : Tally) → g < length l.initial.tallies.items → get_or l.tallies.items g t ≡ get_or l.initial.tallies.items g t;
  fresh : (g : ℕ) (t : Tally) → length l.initial.tallies.items ≤ g → g < length l.tallies.items → IsHeld [] l.aggregate (get_or l.tallies.items g t);
}
