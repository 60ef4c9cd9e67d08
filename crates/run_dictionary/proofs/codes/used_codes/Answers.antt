-- No number is marked at first.
use Rattle.std.proofs.Common.{refl, arith}
use Rattle.std.proofs.lemmas.Bool.{both_ways}
use Rattle.run_dictionary.proofs.DictLemmas.{none_marked}
use Rattle.run_dictionary.proofs.codes.used_codes.Goals as goal

pub loop-row-init : goal.loop-row-init
loop-row-init c = record {
  long = refl;
  used = λ k h e. absurd (both_ways _ (none_marked 1024 k) e);
  unused = λ n h. absurd (omega arith);
}
