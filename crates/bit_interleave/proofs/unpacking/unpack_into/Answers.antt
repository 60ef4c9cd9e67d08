-- Each piece is written to its rows, and each row is one lane of one piece.
use Rattle.std.proofs.Common.{◌≡◌, ℕ, ◌+◌, ◌*◌, ◌/◌, ◌%◌, ◌^◌, ◌<◌, ◌≤◌, map, get_or, sym, ap, subst, ◌∙◌, arith, below_more, rules}
use Rattle.std.proofs.Math.Nat.{pow-le-pow_right}
use Rattle.std.proofs.lemmas.List.{length-map}
use Rattle.std.proofs.lemmas.Simd.{Each1-weaker}
use Rattle.transpose_order.specs.Place.{IsLaneWidth, lane_of, step_of, place_of}
use Rattle.transpose_order.specs.MaskWords.{rows_of-same}
use Rattle.bit_interleave.specs.Packing.{packed_value, unpacked}
use Rattle.bit_interleave.proofs.SixteenLemmas.{get_or-sixteen_of}
use Rattle.bit_interleave.proofs.PieceLemmas.{place_of-place_of, places_apart, piece_of_row}
use Rattle.bit_interleave.proofs.unpacking.unpack_into.Goals as goal

pub put_piece-requires : goal.put_piece-requires
put_piece-requires g c =
    let width : IsLaneWidth c.BITS-bits.result = subst IsLaneWidth (sym c.BITS-bits.ensures) g.met.U.LaneWord.is_lane_width in
    let base : 0 < 2 = omega arith in
    let wide : 2 ^ c.args.width ≤ 2 ^ g.V.LaneWord.BITS = pow-le-pow_right base c.requires.fit in (
      search rules,
      (
        c.type_inv.lanes.0,
        (
          Each1-weaker (λ n. n < 2 ^ c.args.width) (λ n. n < 2 ^ g.V.LaneWord.BITS) (λ n h. omega (arith, wide)) c.step_at-lanes.result c.step_at-lanes.ensures.fit,
          omega (arith, c.place_in_word.ensures, (place_of-place_of c.BITS-bits.result c.loop-piece.piece width c.loop-piece-test.true).0),
        ),
      ),
    )

pub loop-piece-preserved : goal.loop-piece-preserved
loop-piece-preserved g c =
    let t = c.BITS-bits.result in
    let piece = c.loop-piece.piece in
    let words = map g.U.LaneWord.number c.args.words.now in
    let width : IsLaneWidth t = subst IsLaneWidth (sym c.BITS-bits.ensures) g.met.U.LaneWord.is_lane_width in
    let more = below_more (λ (q : ℕ). (i : ℕ) → i < 16 → get_or (map g.V.LaneWord.number c.put_piece.new.values) (64 * i + place_of t q) 0 ≡ packed_value t c.args.width words (16 * (q / t) + i) (q % t)) piece
    (λ q before i near.
    let small : place_of t q < 64 = (place_of-place_of t q width (omega (arith, c.loop-piece-test.true))).0 in
    let apart = places_apart t q piece width (omega (arith, c.loop-piece-test.true)) c.loop-piece-test.true (omega arith) in
    c.put_piece.ensures.others (64 * i + place_of t q) (λ e. apart (omega (arith, e, c.place_in_word.ensures))) ∙ c.loop-piece.invariant.done q i before near)
    (λ i near.
    ap (λ p. get_or (map g.V.LaneWord.number c.put_piece.new.values) (64 * i + p) 0) (sym c.place_in_word.ensures)
    ∙ c.put_piece.ensures.written i near
    ∙ ap (λ xs. get_or xs i 0) c.step_at-lanes.ensures.values
    ∙ get_or-sixteen_of (λ k. packed_value g.U.LaneWord.BITS c.args.width words (16 * (piece / t) + k) (piece % t)) i 0 near
    ∙ ap (λ n. packed_value n c.args.width words (16 * (piece / t) + i) (piece % t)) (sym c.BITS-bits.ensures)) in
    record {
      long = c.put_piece.ensures.long;
      done = λ q i h near. more q h i near;
    }

pub returns : goal.returns
unfolding unpacked
returns g c =
    let t = c.BITS-bits.result in
    let w = c.args.width in
    let words = map g.U.LaneWord.number c.args.words.now in
    let width : IsLaneWidth t = subst IsLaneWidth (sym c.BITS-bits.ensures) g.met.U.LaneWord.is_lane_width in
    subst (λ (b : ℕ). map g.V.LaneWord.number c.loop-piece.values ≡ unpacked b w words) c.BITS-bits.ensures
    (rows_of-same (λ n. packed_value t w words (lane_of t n) (step_of t n)) (map g.V.LaneWord.number c.loop-piece.values) 0 (length-map c.loop-piece.values g.V.LaneWord.number ∙ c.loop-piece.invariant.long)
    (λ n h.
    let q = place_of t (n % 64) in
    let row = piece_of_row t n width h in
    let small : q < c.loop-piece.piece = omega (arith, (place_of-place_of t (n % 64) width (omega arith)).0, c.loop-piece-test.false) in
    ap (λ k. get_or (map g.V.LaneWord.number c.loop-piece.values) k 0) (sym row.0)
    ∙ c.loop-piece.invariant.done q (n / 64) small (omega arith)
    ∙ ap (λ l. packed_value t w words l (q % t)) row.1 ∙ ap (packed_value t w words (lane_of t n)) row.2))
