-- The ones from `low` on, and those below `high`.
use Rattle.transpose_order.proofs.BitLemmas.{bit_is_set-ones}
use Rattle.transpose_order.proofs.words.ones_between.Goals as goal

pub returns : goal.returns
returns c = λ p h. bit_is_set-ones c.args.low c.args.high p c.requires.order c.requires.within h
