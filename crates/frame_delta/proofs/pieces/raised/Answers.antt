-- Lane by lane.
use Rattle.std.proofs.Common.{◌+◌, ◌%◌, ◌^◌, ◌∙◌, replicate}
use Rattle.std.proofs.lemmas.Simd.{length-zip2}
use Rattle.frame_delta.proofs.PieceRows.{lane_of_sum}
use Rattle.frame_delta.proofs.pieces.raised.Goals as goal

pub returns-clause-long : goal.returns-clause-long
returns-clause-long c =
    length-zip2 (λ a b. (a + b) % 2 ^ 64) c.args.lanes (replicate 16 c.args.by) c.requires ∙ c.requires

pub returns-clause-lanes : goal.returns-clause-lanes
returns-clause-lanes c = λ i h. lane_of_sum 16 i c.args.by c.args.lanes c.requires h
