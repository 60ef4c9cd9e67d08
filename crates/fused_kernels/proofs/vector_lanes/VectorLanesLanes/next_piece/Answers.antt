-- The piece of the coded values is that of the lanes.
use Rattle.std.proofs.Common.{◌+◌, ◌*◌, ◌<◌, sym, ap, ◌∙◌, subst}
use Rattle.transpose_order.specs.Place.{place_of}
use Rattle.bit_interleave.specs.Packing.{sixteen_of}
use Rattle.segment_core.specs.Coded.{value_in, IsCodedForm}
use Rattle.segment_core.specs.declared.coded.Coded.{Coded}
use Rattle.fused_kernels.specs.Seen.{LanesSeen, next_of}
use Rattle.fused_kernels.specs.VectorSeen.{piece_width}
use Rattle.fused_kernels.proofs.VectorLemmas.{piece_read, next_of_vector}
use Rattle.fused_kernels.proofs.vector_lanes.VectorLanesLanes.next_piece.Goals as goal

pub coded_piece-requires-clause-form : goal.coded_piece-requires-clause-form
coded_piece-requires-clause-form c = subst IsCodedForm (sym c.coded.ensures) c.self.invariant.form.form

pub returns-clause-piece : goal.returns-clause-piece
returns-clause-piece c =
    let v = c.self.inside.vector.now in
    let q = c.self.inside.given in
    let before : q < 64 = subst (λ (s : LanesSeen). s.given < 64) (sym c.self.view_is) c.requires in
    piece_read v.coded q c.coded_piece.result c.self.invariant.form.form before
    (c.coded_piece.ensures.values ∙ ap (λ (x : Coded). sixteen_of (λ i. value_in x (64 * i + place_of (piece_width x) q))) c.coded.ensures)
    ∙ next_of_vector v q c.self.invariant.form before ∙ ap next_of c.self.view_is
