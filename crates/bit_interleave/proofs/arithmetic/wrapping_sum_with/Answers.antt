-- The bits of the number wrap as it does, and a sum may be wrapped on the way.
use Rattle.std.proofs.Common.{◌∙◌, ap, ◌+◌, pos}
use Rattle.std.specs.Int.{w64, int_wrap, cast_unsigned}
use Rattle.std.proofs.lemmas.Int.{to_z-of_z, int_wrap-add_same}
use Rattle.bit_interleave.proofs.WrapLemmas.{int_wrap-bits, int_wrap-mod}
use Rattle.bit_interleave.specs.Arithmetic.{integer_width}
use Rattle.bit_interleave.proofs.arithmetic.wrapping_sum_with.Goals as goal

pub returns : goal.returns
returns c =
    to_z-of_z w64 c.wrap.result (record { sfits = c.wrap.type_inv }) ∙ c.wrap.ensures
    ∙ int_wrap-mod c.args.lane_width (c.cast_unsigned.result + c.args.number) c.requires
    ∙ ap (λ n. int_wrap (integer_width c.args.lane_width) (pos (n + c.args.number))) (c.cast_unsigned.ensures ∙ ap (cast_unsigned w64) (to_z-of_z w64 c.args.a c.ranges.a))
    ∙ int_wrap-add_same (integer_width c.args.lane_width) (pos (cast_unsigned w64 c.args.a)) c.args.a (pos c.args.number) (int_wrap-bits c.args.lane_width c.args.a c.requires c.ranges.a)
