-- A piece adds to each lane the raised value of its row, in two halves.
use Rattle.std.proofs.Common.{◌≡◌, ◌==◌, ℕ, ◌+◌, ◌*◌, ◌/◌, ◌%◌, ◌^◌, ◌<◌, ◌≤◌, cond, count_by, replicate, slice_index, ℤ, pos, ◌+ℤ◌, sym, ap, ◌∙◌, arith}
use Rattle.std.specs.Int.{bit_at}
use Rattle.std.proofs.lemmas.Int.{ints}
use Rattle.std.proofs.lemmas.List.{get_or-replicate}
use Rattle.transpose_order.specs.Place.{place_of}
use Rattle.transpose_order.specs.Mask.{has, count_below}
use Rattle.table_model.specs.Values.{total}
use Rattle.transpose_order.proofs.MaskLemmas.{has-word, count_by-rows_of, count_below-le}
use Rattle.bit_interleave.specs.Range.{value_at}
use Rattle.bit_interleave.proofs.PieceLemmas.{place_of-place_of}
use Rattle.native_lanes.specs.Folds.{fold_to}
use Rattle.fused_kernels.specs.Seen.{LanesSeen, looked_at, values_looked_at}
use Rattle.native_lanes.proofs.FoldLemmas.{fold_to-zero, fold_to-more}
use Rattle.fused_kernels.proofs.SumLemmas.{halves, raised_fits, sum_by_lanes}
use Rattle.fused_kernels.proofs.RangeLemmas.{value_fits}
use Rattle.fused_kernels.proofs.SeenLemmas.{none_given, one_more, only_read, next_is, width_of}
use Rattle.fused_kernels.proofs.sums.sum.Goals as goal

pub loop-piece-init : goal.loop-piece-init
loop-piece-init g c =
    let s : LanesSeen = g.L.Lanes.seen c.args.lanes.now in
    let t = c.lane_width-lane_width.result in
    let nothing : (i : ℕ) → i < 16 → slice_index (replicate 16 0) i ≡ 0 = (λ i h. get_or-replicate 16 i 0 0 h) in
    record {
      seen = none_given _ c.requires;
      low = λ i h. omega (arith, nothing i h);
      high = λ i h. omega (arith, nothing i h);
      sums = λ i h. ap pos (omega (arith, nothing i h)) ∙ sym (fold_to-zero ◌+ℤ◌ (pos 0) (λ q. cond (has c.rows_to_look_at-rows.result (64 * i + place_of t q)) (value_at s.values (64 * i + place_of t q) +ℤ pos (2 ^ 63)) (pos 0)));
    }

pub loop-piece-preserved : goal.loop-piece-preserved
loop-piece-preserved g c =
    let s : LanesSeen = g.L.Lanes.seen c.args.lanes.now in
    let t = c.lane_width-lane_width.result in
    let q = c.loop-piece.piece in
    let rows = c.rows_to_look_at-rows.result in
    let raised = c.raised_at-raised.result in
    let low : (i : ℕ) → i < 16 → slice_index c.add_halves.new.sums i ≡ slice_index c.loop-piece.low i + slice_index raised i / 2 ^ 0 % 2 ^ 32 = (λ i h. c.add_halves.ensures i h) in
    let high : (i : ℕ) → i < 16 → slice_index c.add_halves-in-loop-piece.new.sums i ≡ slice_index c.loop-piece.high i + slice_index raised i / 2 ^ 32 % 2 ^ 32 = (λ i h. c.add_halves-in-loop-piece.ensures i h) in
    let f : ℕ → ℕ → ℤ = λ i q. cond (has rows (64 * i + place_of t q)) (value_at s.values (64 * i + place_of t q) +ℤ pos (2 ^ 63)) (pos 0) in
    record {
      seen = one_more s (g.L.Lanes.seen c.loop-piece.lanes) _ q c.loop-piece.invariant.seen c.next_values-numbers.ensures.one;
      low = λ i h. omega (arith, low i h, c.loop-piece.invariant.low i h);
      high = λ i h. omega (arith, high i h, c.loop-piece.invariant.high i h);
      sums = λ i h.
          let place = place_of-place_of t q (width_of s t c.lane_width-lane_width.ensures.form c.lane_width-lane_width.ensures.value) c.loop-piece-test.true in
          let bit : (bit_at (slice_index c.words.result.now i) c.place_in_word.result == 1) ≡ has rows (64 * i + place_of t q) =
          ap (λ p. bit_at (slice_index c.words.result.now i) p == 1) c.place_in_word.ensures
          ∙ sym (has-word c.words.result.now rows (sym c.words.ensures) i (place_of t q) h place.0) in
          let number : value_at c.next_values-numbers.result i ≡ value_at s.values (64 * i + place_of t q) =
          c.next_values-numbers.ensures.values i h ∙ next_is s (g.L.Lanes.seen c.loop-piece.lanes) q t c.loop-piece.invariant.seen c.lane_width-lane_width.ensures.value i in
          let term : pos (slice_index raised i) ≡ f i q =
          c.raised_at-raised.ensures i h ∙ ap (λ b. cond b (value_at c.next_values-numbers.result i +ℤ pos (2 ^ 63)) (pos 0)) bit
          ∙ ap (λ v. cond (has rows (64 * i + place_of t q)) (v +ℤ pos (2 ^ 63)) (pos 0)) number in
          let near : 64 * i + place_of t q < 1024 = omega (arith, place.0) in
          let fits : slice_index raised i < 2 ^ 64 = raised_fits (has rows (64 * i + place_of t q)) (value_at s.values (64 * i + place_of t q)) (slice_index raised i) (value_fits s (64 * i + place_of t q) c.lane_width-lane_width.ensures.form near) term in
          let whole : slice_index c.add_halves.new.sums i + 2 ^ 32 * slice_index c.add_halves-in-loop-piece.new.sums i ≡ slice_index c.loop-piece.low i + 2 ^ 32 * slice_index c.loop-piece.high i + slice_index raised i =
          omega (arith, low i h, high i h, halves (slice_index raised i) fits) in
          ap pos whole ∙ ap (λ z. z +ℤ pos (slice_index raised i)) (c.loop-piece.invariant.sums i h)
          ∙ ap (λ z. fold_to ◌+ℤ◌ (pos 0) q (f i) +ℤ z) term ∙ sym (fold_to-more ◌+ℤ◌ (pos 0) q (f i));
    }

pub returns-clause-value : goal.returns-clause-value
returns-clause-value g c =
    let s : LanesSeen = g.L.Lanes.seen c.args.lanes.now in
    let t = c.lane_width-lane_width.result in
    let rows = c.rows_to_look_at-rows.result in
    let all : c.loop-piece.piece ≡ 64 = omega arith in
    let width = width_of s t c.lane_width-lane_width.ensures.form c.lane_width-lane_width.ensures.value in
    let sums : pos (fold_to ◌+◌ 0 16 (slice_index c.loop-piece.low) + 2 ^ 32 * fold_to ◌+◌ 0 16 (slice_index c.loop-piece.high)) ≡ total (values_looked_at s c.args.mask.now) +ℤ pos (2 ^ 63 * c.count.result) =
    sum_by_lanes s c.args.mask.now rows t c.count.result (slice_index c.loop-piece.low) (slice_index c.loop-piece.high) width c.rows_to_look_at-rows.ensures.rows c.count.ensures
    (λ i h. c.loop-piece.invariant.sums i h ∙ ap (λ n. fold_to ◌+ℤ◌ (pos 0) n (λ q. cond (has rows (64 * i + place_of t q)) (value_at s.values (64 * i + place_of t q) +ℤ pos (2 ^ 63)) (pos 0))) all) in
    let low : c.from.result ≡ pos (fold_to ◌+◌ 0 16 (slice_index c.loop-piece.low)) = c.from.ensures ∙ ap pos c.sum_of_lanes.ensures.sum in
    let high : c.from-2.result ≡ pos (fold_to ◌+◌ 0 16 (slice_index c.loop-piece.high)) = c.from-2.ensures ∙ ap pos c.sum_of_lanes-2.ensures.sum in
    let counted : c.count.result ≡ count_below (looked_at s c.args.mask.now) 1024 = c.count.ensures ∙ ap (count_by (λ row. row)) c.rows_to_look_at-rows.ensures.rows ∙ count_by-rows_of (looked_at s c.args.mask.now) in
    let few : c.count.result ≤ 1024 = omega (arith, counted, count_below-le (looked_at s c.args.mask.now) 1024) in
    omega (arith, ints, sums, low, high, few)

pub returns-clause-only_read : goal.returns-clause-only_read
returns-clause-only_read g c = only_read (g.L.Lanes.seen c.args.lanes.now) (g.L.Lanes.seen c.loop-piece.lanes) c.loop-piece.piece (omega arith) c.loop-piece.invariant.seen
