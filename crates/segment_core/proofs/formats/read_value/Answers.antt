use Rattle.std.proofs.Common.{pos, rules, FitsSigned}
use Rattle.std.specs.Int.{w64}
use Rattle.std.proofs.lemmas.Int.{SFits-int_wrap, to_z-of_z}
use Rattle.bit_interleave.specs.Arithmetic.{integer_width}
use Rattle.segment_core.proofs.formats.read_value.Goals as goal

pub returns-clause-fits : goal.returns-clause-fits
returns-clause-fits c =
    let made : FitsSigned w64 c.wrap.result = search rules in
    rw (to_z-of_z w64 c.wrap.result made, c.wrap.ensures) (SFits-int_wrap (integer_width c.args.lane_width) (pos c.in_ok-number.number))
