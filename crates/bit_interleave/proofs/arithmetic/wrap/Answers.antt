-- Half is added, the low bits are kept, and half is taken away.
use Rattle.std.proofs.Common.{◌∙◌, arith}
use Rattle.std.specs.Int.{w64}
use Rattle.std.proofs.lemmas.Int.{to_z-of_z}
use Rattle.bit_interleave.proofs.WrapLemmas.{wrapped}
use Rattle.bit_interleave.proofs.arithmetic.wrap.Goals as goal

pub returns : goal.returns
returns c =
    to_z-of_z w64 c.cast_signed.result (record { sfits = c.cast_signed.type_inv }) ∙ c.cast_signed.ensures
    ∙ wrapped c.args.number c.args.lane_width c.requires (omega (arith, c.ranges.number))
