-- The lanes are picked from both pieces, one after another.
use Rattle.std.proofs.Common.{◌+◌, arith}
use Rattle.bit_interleave.specs.Packing.{sixteen_of}
use Rattle.frame_delta.proofs.TurnLemmas.{turns}
use Rattle.frame_delta.proofs.pieces.last_by_turns.Goals as goal

pub returns-clause-even : goal.returns-clause-even
unfolding sixteen_of
returns-clause-even c = λ i h. (turns 8 c.args.a c.args.b i (i + 8) c.requires.left h (omega arith) (omega arith)).0

pub returns-clause-odd : goal.returns-clause-odd
unfolding sixteen_of
returns-clause-odd c = λ i h. (turns 8 c.args.a c.args.b i (i + 8) c.requires.left h (omega arith) (omega arith)).1
