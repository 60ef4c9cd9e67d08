-- Bit by bit.
use Rattle.bit_interleave.proofs.RoundTrip.{packed-unpacked}
use Rattle.bit_interleave.proofs.laws.packing_undoes_unpacking.Goals as goal

pub returns : goal.returns
returns c = packed-unpacked
