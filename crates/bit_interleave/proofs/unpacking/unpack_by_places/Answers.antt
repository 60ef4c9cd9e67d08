-- Each piece is written to its place, and each row is one lane of one piece.
use Rattle.std.proofs.Common.{◌≡◌, ℕ, ◌+◌, ◌*◌, ◌/◌, ◌%◌, ◌<◌, map, get_or, sym, ap, subst, ◌∙◌, arith, below_more}
use Rattle.transpose_order.specs.Place.{IsLaneWidth, lane_of, step_of, place_of}
use Rattle.transpose_order.specs.MaskWords.{get_or-rows_of}
use Rattle.bit_interleave.specs.Packing.{packed_value, unpacked}
use Rattle.bit_interleave.proofs.SixteenLemmas.{get_or-sixteen_of}
use Rattle.bit_interleave.proofs.PieceLemmas.{place_of-place_of, places_apart, piece_of_row}
use Rattle.bit_interleave.proofs.unpacking.unpack_by_places.Goals as goal

pub loop-piece-preserved : goal.loop-piece-preserved
loop-piece-preserved g c =
    let t = c.BITS-bits.result in
    let piece = c.loop-piece.piece in
    let words = map g.U.LaneWord.number c.args.words.now in
    let width : IsLaneWidth t = subst IsLaneWidth (sym c.BITS-bits.ensures) g.met.U.LaneWord.is_lane_width in
    let more = below_more (λ (q : ℕ). (i : ℕ) → i < 16 → get_or c.put_place.new.numbers (16 * place_of t q + i) 0 ≡ packed_value t c.args.width words (16 * (q / t) + i) (q % t)) piece
    (λ q before i near.
    let apart = places_apart t q piece width (omega (arith, c.loop-piece-test.true)) c.loop-piece-test.true (omega arith) in
    c.put_place.ensures.others (16 * place_of t q + i) (λ e. apart (omega (arith, e, near, c.place_in_word.ensures))) ∙ c.loop-piece.invariant.done q i before near)
    (λ i near.
    ap (λ p. get_or c.put_place.new.numbers (16 * p + i) 0) (sym c.place_in_word.ensures)
    ∙ c.put_place.ensures.written i near
    ∙ ap (λ xs. get_or xs i 0) c.step_at-lanes.ensures.values
    ∙ get_or-sixteen_of (λ k. packed_value g.U.LaneWord.BITS c.args.width words (16 * (piece / t) + k) (piece % t)) i 0 near
    ∙ ap (λ n. packed_value n c.args.width words (16 * (piece / t) + i) (piece % t)) (sym c.BITS-bits.ensures)) in
    record {
      long = c.put_place.ensures.long;
      done = λ q i h near. more q h i near;
    }

pub returns-clause-numbers : goal.returns-clause-numbers
unfolding unpacked
returns-clause-numbers g c n h =
    let t = c.BITS-bits.result in
    let w = c.args.width in
    let words = map g.U.LaneWord.number c.args.words.now in
    let width : IsLaneWidth t = subst IsLaneWidth (sym c.BITS-bits.ensures) g.met.U.LaneWord.is_lane_width in
    let q = place_of t (n % 64) in
    let row = piece_of_row t n width h in
    let turned = place_of-place_of t (n % 64) width (omega arith) in
    let small : q < c.loop-piece.piece = omega (arith, turned.0, c.loop-piece-test.false) in
    ap (λ p. get_or c.loop-piece.numbers (16 * p + n / 64) 0) (sym turned.1)
    ∙ c.loop-piece.invariant.done q (n / 64) small (omega arith)
    ∙ ap (λ l. packed_value t w words l (q % t)) row.1 ∙ ap (packed_value t w words (lane_of t n)) row.2
    ∙ ap (λ b. packed_value b w words (lane_of b n) (step_of b n)) c.BITS-bits.ensures
    ∙ sym (get_or-rows_of (λ k. packed_value g.U.LaneWord.BITS w words (lane_of g.U.LaneWord.BITS k) (step_of g.U.LaneWord.BITS k)) n 0 h)
