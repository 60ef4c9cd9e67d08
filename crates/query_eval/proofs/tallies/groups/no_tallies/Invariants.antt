-- So many columns so far.
use Rattle.query_eval.specs.Grouping.{AreEmpty}
use Rattle.query_eval.proofs.tallies.groups.no_tallies.Given as goal

abbrev pub invariant-loop : goal.invariant-loop
invariant-loop l = AreEmpty l.index l.tallies.items
