-- A piece has its rows, and no row that was written before.
use Rattle.std.proofs.Common.{◌≡◌, ◌+◌, ◌*◌, sym, ap, ◌∙◌, below_more, arith}
use Rattle.transpose_order.specs.Place.{place_of}
use Rattle.bit_interleave.specs.Range.{value_at}
use Rattle.fused_kernels.specs.Seen.{LanesSeen}
use Rattle.fused_kernels.proofs.PieceLemmas.{other_place}
use Rattle.fused_kernels.proofs.SeenLemmas.{none_given, one_more, only_read, next_is, width_of, values_are}
use Rattle.fused_kernels.proofs.decoding.decode_into.Goals as goal

pub loop-piece-init : goal.loop-piece-init
loop-piece-init g c =
    record { seen = none_given _ c.requires; long = c.told-values; written = λ i q h l. absurd (omega arith) }

pub loop-piece-preserved : goal.loop-piece-preserved
loop-piece-preserved g c =
    let s : LanesSeen = g.L.Lanes.seen c.args.lanes.now in
    let t = c.lane_width-lane_width.result in
    let q = c.loop-piece.piece in
    let width = width_of s t c.lane_width-lane_width.ensures.form c.lane_width-lane_width.ensures.value in
    record {
      seen = one_more s (g.L.Lanes.seen c.loop-piece.lanes) _ q c.loop-piece.invariant.seen c.next_values-numbers.ensures.one;
      long = c.put_piece.array_long;
      written = λ i k h.
          below_more (λ k. value_at c.put_piece.new.values (64 * i + place_of t k) ≡ value_at s.values (64 * i + place_of t k)) q
          (λ k l. c.put_piece.ensures.others (64 * i + place_of t k) (λ e. other_place t q k i width (omega arith) l (e ∙ c.place_in_word.ensures)) ∙ c.loop-piece.invariant.written i k h l)
          (ap (λ p. value_at c.put_piece.new.values (64 * i + p)) (sym c.place_in_word.ensures) ∙ c.put_piece.ensures.written i h ∙ c.next_values-numbers.ensures.values i h
          ∙ next_is s (g.L.Lanes.seen c.loop-piece.lanes) q t c.loop-piece.invariant.seen c.lane_width-lane_width.ensures.value i)
          k;
    }

pub returns-clause-values : goal.returns-clause-values
returns-clause-values g c =
    values_are (g.L.Lanes.seen c.args.lanes.now) c.lane_width-lane_width.result c.loop-piece.values c.lane_width-lane_width.ensures.form c.lane_width-lane_width.ensures.value c.loop-piece.invariant.long
    (λ i q h l. c.loop-piece.invariant.written i q h (omega arith))

pub returns-clause-only_read : goal.returns-clause-only_read
returns-clause-only_read g c = only_read (g.L.Lanes.seen c.args.lanes.now) (g.L.Lanes.seen c.loop-piece.lanes) c.loop-piece.piece (omega arith) c.loop-piece.invariant.seen
