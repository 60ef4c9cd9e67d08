-- Each value fits 64 bits, so it is read back from its bits.
use Rattle.std.proofs.Common.{ℕ, ◌+◌, ◌*◌, ◌<◌, ℤ, pos, FitsSigned, ap, ◌∙◌, arith}
use Rattle.std.specs.Int.{w64}
use Rattle.std.proofs.lemmas.List.Elements.{All-get_or}
use Rattle.transpose_order.specs.Place.{place_of}
use Rattle.bit_interleave.specs.Range.{value_at}
use Rattle.bit_interleave.proofs.SixteenLemmas.{get_or-sixteen_of}
use Rattle.frame_delta.proofs.PieceRows.{row_of_piece, read_back}
use Rattle.fused_kernels.specs.Seen.{LanesSeen, AreLanes}
use Rattle.fused_kernels.proofs.lanes.next_values.Goals as goal

pub returns-clause-values : goal.returns-clause-values
returns-clause-values g c = λ i h.
    let s : LanesSeen = g.L.Lanes.seen c.args.lanes.now in
    let form : AreLanes s = c.requires.form in
    let f : ℕ → ℤ = λ i. value_at s.values (64 * i + place_of s.lane_width s.given) in
    let fits : (i : ℕ) → i < 16 → FitsSigned w64 (f i) = (λ i l.
    let near : 64 * i + place_of s.lane_width s.given < 1024 = (row_of_piece s.lane_width s.given i form.width c.requires.more l).0 in
    All-get_or (λ v. FitsSigned w64 v) s.values (64 * i + place_of s.lane_width s.given) (pos 0) (omega (arith, near, form.long)) form.fit) in
    ap (λ xs. value_at xs i) (read_back f c.next_piece.result c.next_piece.ensures.piece fits) ∙ get_or-sixteen_of f i (pos 0) h
