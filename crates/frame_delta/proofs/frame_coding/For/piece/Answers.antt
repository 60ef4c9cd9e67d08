-- Each lane is the value at its row.
use Rattle.std.proofs.Common.{◌≡◌, ℕ, ◌+◌, ◌*◌, ◌/◌, ◌%◌, ◌<◌, ◌^◌, pos, ◌+ℤ◌, get_or, slice_index, sym, ap, ◌∙◌, rules, FitsSigned}
use Rattle.std.specs.Int.{w64, int_wrap, cast_unsigned}
use Rattle.std.proofs.lemmas.Int.{to_z-of_z}
use Rattle.transpose_order.specs.Place.{lane_of, place_of}
use Rattle.bit_interleave.specs.Arithmetic.{integer_width}
use Rattle.bit_interleave.specs.Packing.{packed_value, sixteen_of}
use Rattle.bit_interleave.proofs.SixteenLemmas.{get_or-sixteen_of, sixteen_of-like}
use Rattle.bit_interleave.proofs.WrapLemmas.{int_wrap-wide}
use Rattle.frame_delta.specs.Frame.{FrameForm, frame_value}
use Rattle.frame_delta.proofs.PieceRows.{wrapped_sum, row_of_piece, read_back}
use Rattle.frame_delta.proofs.frame_coding.For.piece.Goals as goal

pub returns : goal.returns
unfolding frame_value
returns c =
    let t = c.lane_width-lane_width.result in
    let q = c.args.piece in
    let r = c.self.inside.reference in
    let w = c.self.inside.width in
    let words = c.self.inside.words in
    let form : ℕ → FrameForm = λ n. record { lane_width = n; width = w; reference = r; words = words } in
    let fits : FitsSigned w64 r = search rules in
    let width = c.lane_width-lane_width.ensures.width in
    let same = c.lane_width-lane_width.ensures.value in
    let bits = c.cast_unsigned.ensures ∙ ap (cast_unsigned w64) (to_z-of_z w64 r fits) in
    let lane : (i : ℕ) → i < 16 → get_or c.step-numbers.result i 0 ≡ packed_value t w words.numbers (16 * (q / t) + i) (q % t) =
    λ i h. ap (λ xs. get_or xs i 0) c.step-numbers.ensures.values ∙ get_or-sixteen_of (λ k. packed_value words.lane_width w words.numbers (16 * (q / t) + k) (q % t)) i 0 h ∙ ap (λ n. packed_value n w words.numbers (16 * (q / t) + i) (q % t)) (sym same) in
    let value : (i : ℕ) → i < 16 → int_wrap (integer_width t) (pos (slice_index c.raised.result i)) ≡ frame_value (form t) (64 * i + place_of t q) =
    λ i h.
    let row = row_of_piece t q i width c.requires h in
    ap (λ n. int_wrap (integer_width t) (pos n)) (c.raised.ensures.lanes i h ∙ ap (λ x. (get_or c.step-numbers.result i 0 + x) % 2 ^ 64) bits ∙ ap (λ x. (x + cast_unsigned w64 r) % 2 ^ 64) (lane i h))
    ∙ wrapped_sum t (packed_value t w words.numbers (16 * (q / t) + i) (q % t)) r width fits
    ∙ ap (λ l. int_wrap (integer_width t) (r +ℤ pos (packed_value t w words.numbers l (q % t)))) (sym row.1)
    ∙ ap (λ s. int_wrap (integer_width t) (r +ℤ pos (packed_value t w words.numbers (lane_of t (64 * i + place_of t q)) s))) (sym row.2) in
    read_back (λ i. int_wrap (integer_width t) (pos (slice_index c.raised.result i))) c.wrap_lanes.result c.wrap_lanes.ensures (λ i h. int_wrap-wide t (pos (slice_index c.raised.result i)) width)
    ∙ sixteen_of-like (λ i. int_wrap (integer_width t) (pos (slice_index c.raised.result i))) (λ i. frame_value (form t) (64 * i + place_of t q)) (pos 0) value
    ∙ ap (λ (n : ℕ). sixteen_of (λ i. frame_value (form n) (64 * i + place_of n q))) same
    ∙ ap (λ (f : FrameForm). sixteen_of (λ i. frame_value f (64 * i + place_of f.lane_width q))) c.self.view_is
