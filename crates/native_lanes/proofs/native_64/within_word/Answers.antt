-- The low bits are a remainder.
use Rattle.std.proofs.Common.{arith}
use Rattle.bit_interleave.proofs.BitLemmas.{low_ones}
use Rattle.native_lanes.proofs.native_64.within_word.Goals as goal

pub returns : goal.returns
returns c = low_ones _ c.args.width (omega arith)
