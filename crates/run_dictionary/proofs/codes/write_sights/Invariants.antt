-- what was written has the distinct values of the rows so far
use Rattle.std.proofs.Common.{◌≡◌, ◌<◌, ◌≤◌, length}
use Rattle.run_dictionary.proofs.SightLemmas.{Sights}
use Rattle.run_dictionary.proofs.codes.write_sights.Given as goal

abbrev pub invariant-loop-row : goal.invariant-loop-row
invariant-loop-row l = record {
  long : length l.into ≡ 1024;
  slots : length l.last ≡ 1024;
  some : 0 < l.count;
  bound : l.count ≤ l.row;
  sights : Sights l.values l.last l.into l.count l.row;
}
