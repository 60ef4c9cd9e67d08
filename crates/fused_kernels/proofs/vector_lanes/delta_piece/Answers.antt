-- The sums wrap to the values, each of which fits 64 bits.
use Rattle.std.proofs.Common.{◌≡◌, ℕ, ◌+◌, ◌*◌, ◌<◌, ℤ, pos, slice_index, FitsSigned, ap, ◌∙◌, subst}
use Rattle.std.specs.Int.{w64, int_wrap}
use Rattle.transpose_order.specs.Place.{place_of}
use Rattle.bit_interleave.specs.Arithmetic.{integer_width}
use Rattle.bit_interleave.specs.Packing.{sixteen_of}
use Rattle.bit_interleave.proofs.SixteenLemmas.{sixteen_of-like}
use Rattle.bit_interleave.proofs.WrapLemmas.{int_wrap-wide}
use Rattle.frame_delta.specs.Delta.{delta_value}
use Rattle.frame_delta.proofs.PieceRows.{read_back}
use Rattle.fused_kernels.proofs.VectorLemmas.{sums_are_values}
use Rattle.fused_kernels.proofs.vector_lanes.delta_piece.Goals as goal

pub returns-clause-values : goal.returns-clause-values
returns-clause-values c =
    let form = c.args.form.now in
    let t = form.lane_width in
    let q = c.args.piece in
    let width = c.lane_width.ensures.form.lane_width in
    let f : ℕ → ℤ = λ i. delta_value form (64 * i + place_of t q) in
    let wrapped : ℕ → ℤ = λ i. int_wrap (integer_width t) (pos (slice_index c.sums-next.result i)) in
    let same : (i : ℕ) → i < 16 → wrapped i ≡ f i = sums_are_values form q c.sums-next.result width c.requires.piece c.sums-next.ensures in
    read_back f c.wrap_lanes.result
    (c.wrap_lanes.ensures ∙ ap (λ (w : ℕ). sixteen_of (λ i. int_wrap (integer_width w) (pos (slice_index c.sums-next.result i)))) c.lane_width.ensures.value ∙ sixteen_of-like wrapped f (pos 0) same)
    (λ i h. subst (λ z. FitsSigned w64 z) (same i h) (int_wrap-wide t (pos (slice_index c.sums-next.result i)) width))
