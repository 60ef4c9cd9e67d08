-- Bit by bit.
use Rattle.bit_interleave.proofs.RoundTrip.{unpacked-packed}
use Rattle.bit_interleave.proofs.laws.unpacking_undoes_packing.Goals as goal

pub returns : goal.returns
returns c = unpacked-packed
