-- The masks are exchanged.
use Rattle.std.proofs.Common.{refl}
use Rattle.query_eval.proofs.PairLemmas.{pair_not}
use Rattle.query_eval.proofs.filter.pair.Pair.not.Goals as goal

pub returns : goal.returns
returns c = pair_not c.args.self _ refl refl
