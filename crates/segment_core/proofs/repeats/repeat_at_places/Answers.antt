-- All places are seen, and a word's number is 0 where its rows repeat.
use Rattle.std.proofs.Common.{arith}
use Rattle.segment_core.proofs.repeats.repeat_at_places.Goals as goal

pub returns : goal.returns
returns c =
    let seen = c.loop-place-test.false in (
      λ yes place j some within l. (c.loop-place.invariant.each j l).0 (c.are_zero.ensures.0 yes j l) place some (omega arith),
      λ h. c.are_zero.ensures.1 (λ j l. (c.loop-place.invariant.each j l).1 (λ place some before. h place j some (omega arith) l)),
    )
