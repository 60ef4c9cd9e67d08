-- Each value is in the range of 64 bits, so it is read back.
use Rattle.std.proofs.Common.{ℕ, ℤ, ◌+◌, ◌*◌, pos, ap, ◌∙◌, subst, arith, FitsSigned}
use Rattle.std.specs.Int.{w64}
use Rattle.transpose_order.specs.Place.{place_of}
use Rattle.bit_interleave.specs.Packing.{sixteen_of}
use Rattle.bit_interleave.proofs.SixteenLemmas.{sixteen_of-same}
use Rattle.frame_delta.proofs.PieceRows.{read_back}
use Rattle.run_dictionary.specs.Runs.{run_value}
use Rattle.fused_kernels.proofs.vector_lanes.run_piece.Goals as goal

pub returns-clause-values : goal.returns-clause-values
returns-clause-values c =
    let f : ℕ → ℤ = λ i. run_value c.args.form.now (64 * i + c.place_in_word-place.result) in
    read_back f c.loop-i.values (sixteen_of-same f c.loop-i.values (pos 0) c.loop-i.invariant.long (λ i h. c.loop-i.invariant.done i (omega arith)))
    (λ i h. subst (λ z. FitsSigned w64 z) (c.loop-i.invariant.done i (omega arith)) (c.loop-i.invariant.fits i (omega arith)))
    ∙ ap (λ (p : ℕ). sixteen_of (λ i. run_value c.args.form.now (64 * i + p))) c.place_in_word-place.ensures
    ∙ ap (λ (t : ℕ). sixteen_of (λ i. run_value c.args.form.now (64 * i + place_of t c.args.piece))) c.lane_width-lane_width.ensures.value
