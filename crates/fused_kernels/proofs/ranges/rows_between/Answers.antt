-- The mark of a row is that of its piece.
use Rattle.std.proofs.Common.{◌≡◌, ◌==◌, ℕ, ◌+◌, ◌*◌, ◌<◌, ◌&&◌, ◌||◌, Bool, true, nat_lt, ℤ, slice_index, to_z, of_z, sym, ap, ◌∙◌, arith}
use Rattle.std.specs.Int.{bit_at, w64}
use Rattle.std.proofs.lemmas.Int.{to_z-of_z}
use Rattle.std.proofs.lemmas.Bool.Decides.{nat_tests}
use Rattle.transpose_order.specs.Place.{place_of}
use Rattle.transpose_order.specs.MaskWords.{rows_of-like}
use Rattle.transpose_order.proofs.MaskLemmas.{rows_of-words}
use Rattle.bit_interleave.specs.Range.{value_at}
use Rattle.bit_interleave.proofs.PieceLemmas.{place_of-place_of}
use Rattle.fused_kernels.specs.Seen.{LanesSeen, between}
use Rattle.native_lanes.proofs.MarkLemmas.{marked_more}
use Rattle.fused_kernels.proofs.SeenLemmas.{one_more, only_read, next_is, width_of}
use Rattle.fused_kernels.proofs.ranges.rows_between.Goals as goal

pub loop-piece-preserved : goal.loop-piece-preserved
loop-piece-preserved g c =
    let s : LanesSeen = g.L.Lanes.seen c.args.lanes.now in
    let t = c.lane_width-lane_width.result in
    let q = c.loop-piece.piece in
    let low = to_z w64 (of_z w64 c.args.low) in
    let high = to_z w64 (of_z w64 c.args.high) in
    let f : ℕ → ℤ = λ i. value_at s.values (64 * i + place_of t q) in
    let test : ℕ → Bool = λ n. between low high (value_at s.values n) in
    let old : ℕ → ℕ → Bool = λ j p. bit_at (slice_index c.loop-piece.found j) p == 1 in
    record {
      seen = one_more s (g.L.Lanes.seen c.loop-piece.lanes) _ q c.loop-piece.invariant.seen c.next_values-numbers.ensures.one;
      marked = λ j p h k.
          c.mark.ensures j p h k
          ∙ ap (λ v. (between low high v && (p == c.place_in_word.result)) || old j p) (c.next_values-numbers.ensures.values j h ∙ next_is s (g.L.Lanes.seen c.loop-piece.lanes) q t c.loop-piece.invariant.seen c.lane_width-lane_width.ensures.value j)
          ∙ ap (λ (x : ℕ). (between low high (f j) && (p == x)) || old j p) c.place_in_word.ensures
          ∙ ap (λ b. (between low high (f j) && (p == place_of t q)) || b) (c.loop-piece.invariant.marked j p h k)
          ∙ marked_more t q p (between low high (f j)) (test (64 * j + p)) (width_of s t c.lane_width-lane_width.ensures.form c.lane_width-lane_width.ensures.value) c.loop-piece-test.true k
          (λ e. ap (λ (x : ℕ). test (64 * j + x)) (sym e));
    }

pub returns-clause-rows : goal.returns-clause-rows
returns-clause-rows g c =
    let s : LanesSeen = g.L.Lanes.seen c.args.lanes.now in
    let t = c.lane_width-lane_width.result in
    let low = to_z w64 (of_z w64 c.args.low) in
    let high = to_z w64 (of_z w64 c.args.high) in
    let test : ℕ → Bool = λ n. between low high (value_at s.values n) in
    let width = width_of s t c.lane_width-lane_width.ensures.form c.lane_width-lane_width.ensures.value in
    let all : c.loop-piece.piece ≡ 64 = omega arith in
    c.from_words.ensures
    ∙ rows_of-words c.loop-piece.found test
    (λ j p h k.
    let place : place_of t p < 64 = (place_of-place_of t p width k).0 in
    let on : nat_lt (place_of t p) c.loop-piece.piece ≡ true = grind (arith, nat_tests) in
    c.loop-piece.invariant.marked j p h k ∙ ap (λ b. b && test (64 * j + p)) on)
    ∙ rows_of-like test (λ n. between c.args.low c.args.high (value_at s.values n))
    (λ n _. ap (λ x. between x high (value_at s.values n)) (to_z-of_z w64 c.args.low c.ranges.low) ∙ ap (λ x. between c.args.low x (value_at s.values n)) (to_z-of_z w64 c.args.high c.ranges.high))

pub returns-clause-only_read : goal.returns-clause-only_read
returns-clause-only_read g c = only_read (g.L.Lanes.seen c.args.lanes.now) (g.L.Lanes.seen c.loop-piece.lanes) c.loop-piece.piece (omega arith) c.loop-piece.invariant.seen
