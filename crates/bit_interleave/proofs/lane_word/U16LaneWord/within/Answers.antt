-- The words are shifted and masked at their own type.
use Rattle.std.proofs.Common.{arith}
use Rattle.bit_interleave.proofs.NativeLemmas.{ones_fit, within_fits, within_widened}
use Rattle.bit_interleave.proofs.lane_word.U16LaneWord.within.Goals as goal

pub overflow_cast-mask : goal.overflow_cast-mask
overflow_cast-mask c = record { fits = ones_fit 16 c.args.width (omega (arith, c.requires.inside)) (omega arith) }

pub overflow_cast-result-2 : goal.overflow_cast-result-2
overflow_cast-result-2 c = within_fits c.args.words.now c.args.at c.args.shift c.args.width c.requires.at (omega (arith, c.requires.inside))

pub returns : goal.returns
returns c = within_widened c.args.words.now c.args.at c.args.shift c.args.width c.requires.at (omega (arith, c.requires.inside))
