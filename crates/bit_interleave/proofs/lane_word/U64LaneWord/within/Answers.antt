-- The words are shifted and masked.
use Rattle.std.proofs.Common.{arith}
use Rattle.bit_interleave.proofs.NativeLemmas.{within_lanes}
use Rattle.bit_interleave.proofs.lane_word.U64LaneWord.within.Goals as goal

pub returns : goal.returns
returns c = within_lanes c.args.words.now c.args.at c.args.shift c.args.width c.requires.at (omega (arith, c.requires.inside))
