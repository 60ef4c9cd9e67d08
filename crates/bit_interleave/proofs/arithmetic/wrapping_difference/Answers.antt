-- The difference of 64 bits wraps once more, which changes nothing below.
use Rattle.std.proofs.Common.{◌∙◌, ap, ◌-ℤ◌, pos}
use Rattle.std.specs.Int.{w64, int_wrap, cast_unsigned}
use Rattle.std.proofs.lemmas.Int.{to_z-of_z, wrapping_sub_is, SFits-int_wrap}
use Rattle.bit_interleave.proofs.WrapLemmas.{int_wrap-bits, int_wrap-int_wrap}
use Rattle.bit_interleave.specs.Arithmetic.{integer_width}
use Rattle.bit_interleave.proofs.arithmetic.wrapping_difference.Goals as goal

pub returns : goal.returns
returns c =
    to_z-of_z w64 c.wrap.result (record { sfits = c.wrap.type_inv }) ∙ c.wrap.ensures
    ∙ ap (λ n. int_wrap (integer_width c.args.lane_width) (pos n)) c.cast_unsigned.ensures
    ∙ ap (λ z. int_wrap (integer_width c.args.lane_width) (pos (cast_unsigned w64 z))) (wrapping_sub_is w64 c.args.a c.args.b c.ranges.a c.ranges.b)
    ∙ int_wrap-bits c.args.lane_width (int_wrap w64 (c.args.a -ℤ c.args.b)) c.requires (SFits-int_wrap w64 (c.args.a -ℤ c.args.b))
    ∙ int_wrap-int_wrap c.args.lane_width (c.args.a -ℤ c.args.b) c.requires
