-- The bit is cleared, and no other.
use Rattle.std.proofs.Common.{refl}
use Rattle.live_columns.proofs.BitSteps.{bit-cleared}
use Rattle.live_columns.proofs.bits.clear_bit.Goals as goal

pub returns : goal.returns
returns c = bit-cleared c.args.valid.now c.args.cell _ c.requires refl
