-- The words tell the width.
use Rattle.std.proofs.Common.{ℕ, subst}
use Rattle.bit_interleave.specs.PackedWords.{PackedWords}
use Rattle.frame_delta.specs.Frame.{ArePacked}
use Rattle.frame_delta.specs.Delta.{DeltaForm}
use Rattle.frame_delta.proofs.delta_coding.Delta.unpack.Goals as goal

pub returns : goal.returns
returns c =
    let words : PackedWords = c.self.inside.words in
    subst (λ (f : DeltaForm). ArePacked f.lane_width f.width f.words.numbers c.unpack_by_places.new.numbers) c.self.view_is
    (subst (λ (w : ℕ). ArePacked words.lane_width w words.numbers c.unpack_by_places.new.numbers) c.packed_width.ensures c.unpack_by_places.ensures.numbers)
