-- Each packed number is what its row's value is above the reference.
use Rattle.std.proofs.Common.{subst}
use Rattle.frame_delta.specs.Frame.{FrameForm, frame_values, ArePacked, TellApart, AreAbove}
use Rattle.frame_delta.proofs.PlaceNumbers.{packed_small, tell_apart, frame_above}
use Rattle.frame_delta.proofs.frame_coding.For.unpack.Goals as goal

pub returns-clause-packed : goal.returns-clause-packed
returns-clause-packed c =
    subst (λ (f : FrameForm). ArePacked f.lane_width f.width f.words.numbers c.unpack_by_places.new.numbers) c.self.view_is c.unpack_by_places.ensures.numbers

pub returns-clause-values : goal.returns-clause-values
returns-clause-values c =
    let words = c.self.inside.words in
    let form : FrameForm = record { lane_width = words.lane_width; width = c.self.inside.width; reference = c.self.inside.reference; words = words } in
    subst (λ (f : FrameForm). AreAbove f.lane_width f.reference c.unpack_by_places.new.numbers (frame_values f)) c.self.view_is (frame_above form c.unpack_by_places.new.numbers c.unpack_by_places.ensures.numbers)

pub returns-clause-apart : goal.returns-clause-apart
returns-clause-apart c =
    let words = c.self.inside.words in
    let new = c.unpack_by_places.new.numbers in
    let form : FrameForm = record { lane_width = words.lane_width; width = c.self.inside.width; reference = c.self.inside.reference; words = words } in
    subst (λ (f : FrameForm). TellApart new (frame_values f)) c.self.view_is
    (tell_apart form.lane_width form.reference new (frame_values form) c.self.invariant.lane_width
    (λ n h. packed_small form.lane_width form.width form.words.numbers new n c.self.invariant.packed.fits c.unpack_by_places.ensures.numbers h)
    (frame_above form new c.unpack_by_places.ensures.numbers))
