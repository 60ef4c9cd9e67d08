-- No bit is set.
use Rattle.run_dictionary.proofs.KeyLemmas.{not_marked}
use Rattle.run_dictionary.proofs.counting.Marks.none.Goals as goal

pub returns : goal.returns
returns c = not_marked 1024
