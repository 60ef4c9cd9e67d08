-- The low bits are a remainder.
use Rattle.std.proofs.Common.{◌-◌, ◌/◌, ◌^◌, bit_and, ap, ◌∙◌, arith}
use Rattle.bit_interleave.proofs.BitLemmas.{low_ones}
use Rattle.native_lanes.proofs.native_32.across_words.Goals as goal

pub returns : goal.returns
returns c = ap (λ x. bit_and x ((2 ^ 64 - 1) / 2 ^ (64 - c.args.width))) c.from.ensures ∙ low_ones _ c.args.width (omega arith)
