-- Each piece is written to its rows, and each row is one lane of one piece.
use Rattle.std.proofs.Common.{◌≡◌, ℕ, ◌+◌, ◌*◌, ◌/◌, ◌%◌, ◌<◌, ◌^◌, ℤ, pos, ◌+ℤ◌, List, map, get_or, sym, ap, subst, ◌∙◌, arith, rules, FitsSigned, of_z, to_z}
use Rattle.std.specs.Int.{w64, int_wrap, cast_unsigned}
use Rattle.std.proofs.lemmas.Int.{to_z-of_z}
use Rattle.transpose_order.specs.Place.{IsLaneWidth, place_of}
use Rattle.bit_interleave.specs.Arithmetic.{integer_width}
use Rattle.bit_interleave.specs.Packing.{packed_value}
use Rattle.bit_interleave.proofs.SixteenLemmas.{get_or-sixteen_of}
use Rattle.bit_interleave.specs.Range.{AreInRange, value_at}
use Rattle.frame_delta.specs.Frame.{FrameForm, frame_value, frame_values}
use Rattle.frame_delta.proofs.PieceRows.{blocks_more, each_of_four, rows_from_pieces, wrapped_sum}
use Rattle.frame_delta.proofs.LeastFrame.{AreInRange-frame_values}
use Rattle.frame_delta.proofs.frame_coding.write_values.Goals as goal

pub loop-block-preserved : goal.loop-block-preserved
loop-block-preserved g c =
    let t = c.BITS-bits.result in
    let block = c.loop-block.block in
    let piece = 4 * block in
    let r = to_z w64 (of_z w64 c.args.reference) in
    let w = c.args.width in
    let words = map g.U.LaneWord.number c.args.words.now in
    let new = c.put_four.new.values in
    let f : ℕ → ℕ → ℤ = λ l s. int_wrap (integer_width t) (r +ℤ pos (packed_value t w words l s)) in
    let fits : FitsSigned w64 r = search rules in
    let width : IsLaneWidth t = subst IsLaneWidth (sym c.BITS-bits.ensures) g.met.U.LaneWord.is_lane_width in
    let places : c.place_in_word-places.result / 4 ≡ place_of t piece / 4 = ap (λ n. n / 4) c.place_in_word-places.ensures in
    let at0 : (i : ℕ) → i < 16 → value_at new (64 * i + 4 * (place_of t piece / 4) + 0) ≡ f (16 * (piece / t) + i) (piece % t + 0) =
    λ i h.
    let number = packed_value t w words (16 * (piece / t) + i) (piece % t) in
    let lane : get_or c.step_at.result i 0 ≡ number =
    ap (λ xs. get_or xs i 0) c.step_at.ensures.values ∙ get_or-sixteen_of (λ j. packed_value g.U.LaneWord.BITS w words (16 * (piece / t) + j) (piece % t)) i 0 h ∙ ap (λ n. packed_value n w words (16 * (piece / t) + i) (piece % t)) (sym c.BITS-bits.ensures) in
    let row : 64 * i + 4 * (place_of t piece / 4) + 0 ≡ 64 * i + 4 * (c.place_in_word-places.result / 4) = omega (arith, places) in
    let none : piece % t ≡ piece % t + 0 = omega arith in
    ap (value_at new) row
    ∙ c.put_four.ensures.first i h
    ∙ ap (λ n. int_wrap (integer_width t) (pos n)) (c.raised-a.ensures.lanes i h ∙ ap (λ x. (get_or c.step_at.result i 0 + x) % 2 ^ 64) c.cast_unsigned-above.ensures ∙ ap (λ x. (x + cast_unsigned w64 r) % 2 ^ 64) lane)
    ∙ wrapped_sum t number r width fits
    ∙ ap (f (16 * (piece / t) + i)) none in
    let at1 : (i : ℕ) → i < 16 → value_at new (64 * i + 4 * (place_of t piece / 4) + 1) ≡ f (16 * (piece / t) + i) (piece % t + 1) =
    λ i h.
    let number = packed_value t w words (16 * (piece / t) + i) (piece % t + 1) in
    let lane : get_or c.step_at-in-loop-block.result i 0 ≡ number =
    ap (λ xs. get_or xs i 0) c.step_at-in-loop-block.ensures.values ∙ get_or-sixteen_of (λ j. packed_value g.U.LaneWord.BITS w words (16 * (piece / t) + j) (piece % t + 1)) i 0 h ∙ ap (λ n. packed_value n w words (16 * (piece / t) + i) (piece % t + 1)) (sym c.BITS-bits.ensures) in
    let row : 64 * i + 4 * (place_of t piece / 4) + 1 ≡ 64 * i + 4 * (c.place_in_word-places.result / 4) + 1 = omega (arith, places) in
    let none : piece % t + 1 ≡ piece % t + 1 = omega arith in
    ap (value_at new) row
    ∙ c.put_four.ensures.second i h
    ∙ ap (λ n. int_wrap (integer_width t) (pos n)) (c.raised-b.ensures.lanes i h ∙ ap (λ x. (get_or c.step_at-in-loop-block.result i 0 + x) % 2 ^ 64) c.cast_unsigned-above.ensures ∙ ap (λ x. (x + cast_unsigned w64 r) % 2 ^ 64) lane)
    ∙ wrapped_sum t number r width fits
    ∙ ap (f (16 * (piece / t) + i)) none in
    let at2 : (i : ℕ) → i < 16 → value_at new (64 * i + 4 * (place_of t piece / 4) + 2) ≡ f (16 * (piece / t) + i) (piece % t + 2) =
    λ i h.
    let number = packed_value t w words (16 * (piece / t) + i) (piece % t + 2) in
    let lane : get_or c.step_at-in-loop-block-2.result i 0 ≡ number =
    ap (λ xs. get_or xs i 0) c.step_at-in-loop-block-2.ensures.values ∙ get_or-sixteen_of (λ j. packed_value g.U.LaneWord.BITS w words (16 * (piece / t) + j) (piece % t + 2)) i 0 h ∙ ap (λ n. packed_value n w words (16 * (piece / t) + i) (piece % t + 2)) (sym c.BITS-bits.ensures) in
    let row : 64 * i + 4 * (place_of t piece / 4) + 2 ≡ 64 * i + 4 * (c.place_in_word-places.result / 4) + 2 = omega (arith, places) in
    let none : piece % t + 2 ≡ piece % t + 2 = omega arith in
    ap (value_at new) row
    ∙ c.put_four.ensures.third i h
    ∙ ap (λ n. int_wrap (integer_width t) (pos n)) (c.raised-c.ensures.lanes i h ∙ ap (λ x. (get_or c.step_at-in-loop-block-2.result i 0 + x) % 2 ^ 64) c.cast_unsigned-above.ensures ∙ ap (λ x. (x + cast_unsigned w64 r) % 2 ^ 64) lane)
    ∙ wrapped_sum t number r width fits
    ∙ ap (f (16 * (piece / t) + i)) none in
    let at3 : (i : ℕ) → i < 16 → value_at new (64 * i + 4 * (place_of t piece / 4) + 3) ≡ f (16 * (piece / t) + i) (piece % t + 3) =
    λ i h.
    let number = packed_value t w words (16 * (piece / t) + i) (piece % t + 3) in
    let lane : get_or c.step_at-in-loop-block-3.result i 0 ≡ number =
    ap (λ xs. get_or xs i 0) c.step_at-in-loop-block-3.ensures.values ∙ get_or-sixteen_of (λ j. packed_value g.U.LaneWord.BITS w words (16 * (piece / t) + j) (piece % t + 3)) i 0 h ∙ ap (λ n. packed_value n w words (16 * (piece / t) + i) (piece % t + 3)) (sym c.BITS-bits.ensures) in
    let row : 64 * i + 4 * (place_of t piece / 4) + 3 ≡ 64 * i + 4 * (c.place_in_word-places.result / 4) + 3 = omega (arith, places) in
    let none : piece % t + 3 ≡ piece % t + 3 = omega arith in
    ap (value_at new) row
    ∙ c.put_four.ensures.fourth i h
    ∙ ap (λ n. int_wrap (integer_width t) (pos n)) (c.raised-d.ensures.lanes i h ∙ ap (λ x. (get_or c.step_at-in-loop-block-3.result i 0 + x) % 2 ^ 64) c.cast_unsigned-above.ensures ∙ ap (λ x. (x + cast_unsigned w64 r) % 2 ^ 64) lane)
    ∙ wrapped_sum t number r width fits
    ∙ ap (f (16 * (piece / t) + i)) none in
    record {
      long = c.put_four.ensures.long;
      done = λ q i h near. blocks_more t block f c.loop-block.values new width c.loop-block-test.true c.loop-block.invariant.done
          (λ k i small l. each_of_four (λ k. value_at new (64 * i + 4 * (place_of t piece / 4) + k) ≡ f (16 * (piece / t) + i) (piece % t + k)) (at0 i l) (at1 i l) (at2 i l) (at3 i l) k small)
          (λ n apart. c.put_four.ensures.others n (λ e. apart (e ∙ places))) q i h near;
    }

pub returns-clause-values : goal.returns-clause-values
unfolding frame_values frame_value
returns-clause-values g c =
    let t = c.BITS-bits.result in
    let r = to_z w64 (of_z w64 c.args.reference) in
    let w = c.args.width in
    let words = map g.U.LaneWord.number c.args.words.now in
    let width : IsLaneWidth t = subst IsLaneWidth (sym c.BITS-bits.ensures) g.met.U.LaneWord.is_lane_width in
    let form : ℕ → ℤ → FrameForm = λ n z. record { lane_width = n; width = w; reference = z; words = record { lane_width = n; numbers = words } } in
    rows_from_pieces t (λ l s. int_wrap (integer_width t) (r +ℤ pos (packed_value t w words l s))) c.loop-block.values width c.loop-block.invariant.long
    (λ q i h near. c.loop-block.invariant.done q i (omega arith) near)
    ∙ ap (λ (n : ℕ). frame_values (form n r)) c.BITS-bits.ensures
    ∙ ap (λ (z : ℤ). frame_values (form g.U.LaneWord.BITS z)) (to_z-of_z w64 c.args.reference c.ranges.reference)

pub returns-clause-fit : goal.returns-clause-fit
returns-clause-fit g c =
    let form : FrameForm = record { lane_width = g.U.LaneWord.BITS; width = c.args.width; reference = c.args.reference; words = record { lane_width = g.U.LaneWord.BITS; numbers = map g.U.LaneWord.number c.args.words.now } } in
    subst (λ (xs : List ℤ). AreInRange g.U.LaneWord.BITS xs) (sym (returns-clause-values g c)) (AreInRange-frame_values form)
