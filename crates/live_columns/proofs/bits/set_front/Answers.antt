-- Each byte has its bits.
use Rattle.std.proofs.Common.{◌<◌, arith}
use Rattle.live_columns.proofs.BitSteps.{front-bits}
use Rattle.live_columns.proofs.bits.set_front.Goals as goal

pub returns : goal.returns
returns c = front-bits c.args.cells c.loop-index.valid (omega (arith, c.requires.room)) (λ k l. c.loop-index.invariant k (omega (arith, l)))
