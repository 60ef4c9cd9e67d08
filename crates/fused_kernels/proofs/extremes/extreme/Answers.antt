-- A piece takes in the values of its rows.
use Rattle.std.proofs.Common.{rules, ◌≡◌, ◌≢◌, ◌==◌, ℕ, ◌+◌, ◌*◌, ◌<◌, Bool, cond, slice_index, ℤ, pos, Option, Some, None, FitsSigned, count_by, sym, ap, ◌∙◌, arith}
use Rattle.std.specs.Int.{bit_at, w64, int_max}
use Rattle.std.proofs.lemmas.Int.{to_z-of_z}
use Rattle.std.proofs.lemmas.List.{get_or-replicate}
use Rattle.transpose_order.specs.Place.{place_of}
use Rattle.transpose_order.specs.Mask.{has, count_below}
use Rattle.transpose_order.specs.MaskWords.{has-rows_of}
use Rattle.transpose_order.proofs.MaskLemmas.{has-word, count_by-rows_of}
use Rattle.table_model.specs.Values.{greater}
use Rattle.bit_interleave.specs.Range.{value_at}
use Rattle.bit_interleave.proofs.PieceLemmas.{place_of-place_of}
use Rattle.native_lanes.specs.Folds.{fold_to}
use Rattle.table_model.specs.Extreme.{turned}
use Rattle.fused_kernels.specs.Seen.{LanesSeen, looked_at}
use Rattle.native_lanes.proofs.FoldLemmas.{fold_to-zero, fold_to-more, fold_to-same}
use Rattle.fused_kernels.proofs.ExtremeLemmas.{bottom, or_bottom, taken_by_greater, cell_fits, greatest_by_lanes, turned_fits, no_extreme, some_extreme, extreme-looked_at}
use Rattle.fused_kernels.proofs.RangeLemmas.{value_fits}
use Rattle.fused_kernels.proofs.SeenLemmas.{none_given, one_more, only_read, next_is, width_of}
use Rattle.fused_kernels.proofs.extremes.extreme.Goals as goal

pub loop-piece-init : goal.loop-piece-init
loop-piece-init g c =
    let s : LanesSeen = g.L.Lanes.seen c.args.lanes.now in
    let t = c.lane_width-lane_width.result in
    record {
      seen = none_given _ c.requires;
      greatests = λ i h. get_or-replicate 16 i bottom (pos 0) h ∙ sym (ap or_bottom (fold_to-zero greater None (λ q. cond (has c.rows_to_look_at-rows.result (64 * i + place_of t q)) (Some (turned c.args.side (value_at s.values (64 * i + place_of t q)))) None)));
    }

pub loop-piece-preserved : goal.loop-piece-preserved
loop-piece-preserved g c =
    let s : LanesSeen = g.L.Lanes.seen c.args.lanes.now in
    let t = c.lane_width-lane_width.result in
    let q = c.loop-piece.piece in
    let rows = c.rows_to_look_at-rows.result in
    let side = c.args.side in
    let f : ℕ → ℕ → Option ℤ = λ i q. cond (has rows (64 * i + place_of t q)) (Some (turned c.args.side (value_at s.values (64 * i + place_of t q)))) None in
    record {
      seen = one_more s (g.L.Lanes.seen c.loop-piece.lanes) _ q c.loop-piece.invariant.seen c.next_values-numbers.ensures.one;
      greatests = λ i h.
          let n = 64 * i + place_of t q in
          let place = place_of-place_of t q (width_of s t c.lane_width-lane_width.ensures.form c.lane_width-lane_width.ensures.value) c.loop-piece-test.true in
          let near : n < 1024 = omega (arith, place.0) in
          let bit : (bit_at (slice_index c.words.result.now i) c.place_in_word.result == 1) ≡ has rows n =
          ap (λ p. bit_at (slice_index c.words.result.now i) p == 1) c.place_in_word.ensures
          ∙ sym (has-word c.words.result.now rows (sym c.words.ensures) i (place_of t q) h place.0) in
          let number : value_at c.next_values-numbers.result i ≡ value_at s.values n =
          c.next_values-numbers.ensures.values i h ∙ next_is s (g.L.Lanes.seen c.loop-piece.lanes) q t c.loop-piece.invariant.seen c.lane_width-lane_width.ensures.value i in
          let old = value_at c.loop-piece.greatests i in
          c.raise.ensures i h
          ∙ ap (λ b. cond b (int_max old (turned side (value_at c.next_values-numbers.result i))) old) bit
          ∙ ap (λ v. cond (has rows n) (int_max old (turned side v)) old) number
          ∙ ap (λ x. cond (has rows n) (int_max x (turned side (value_at s.values n))) x) (c.loop-piece.invariant.greatests i h)
          ∙ taken_by_greater (has rows n) (fold_to greater None q (f i)) (turned side (value_at s.values n)) (turned_fits side (value_at s.values n) (value_fits s n c.lane_width-lane_width.ensures.form near))
          ∙ ap or_bottom (sym (fold_to-more greater None q (f i)));
    }

pub returns-then-count-eq0-clause-value : goal.returns-then-count-eq0-clause-value
returns-then-count-eq0-clause-value g c =
    let s : LanesSeen = g.L.Lanes.seen c.args.lanes.now in
    let b = looked_at s c.args.mask.now in
    let counted : c.count.result ≡ count_below b 1024 = c.count.ensures ∙ ap (count_by (λ row. row)) c.rows_to_look_at-rows.ensures.rows ∙ count_by-rows_of b in
    no_extreme c.args.side b (value_at s.values) 1024 (sym counted ∙ c.if-count-eq0.true) ∙ sym (extreme-looked_at c.args.side s c.args.mask.now)

pub returns-clause-value : goal.returns-clause-value
returns-clause-value g c =
    let s : LanesSeen = g.L.Lanes.seen c.args.lanes.now in
    let t = c.lane_width-lane_width.result in
    let side = c.args.side in
    let rows = c.rows_to_look_at-rows.result in
    let form = c.lane_width-lane_width.ensures.form in
    let b = looked_at s c.args.mask.now in
    let counted : c.count.result ≡ count_below b 1024 = c.count.ensures ∙ ap (count_by (λ row. row)) c.rows_to_look_at-rows.ensures.rows ∙ count_by-rows_of b in
    let some : count_below b 1024 ≢ 0 = (λ e. c.if-count-eq0.false (counted ∙ e)) in
    let all : c.loop-piece.piece ≡ 64 = omega arith in
    let f : ℕ → Option ℤ = λ n. cond (has rows n) (Some (turned side (value_at s.values n))) None in
    let result : FitsSigned w64 c.greatest_of.result = search rules in
    let passed : FitsSigned w64 c.turned.result = search rules in
    let found : c.greatest_of.result ≡ or_bottom (fold_to greater None 1024 (λ n. cond (b n) (Some (turned side (value_at s.values n))) None)) =
    c.greatest_of.ensures
    ∙ greatest_by_lanes f t (value_at c.loop-piece.greatests) (width_of s t form c.lane_width-lane_width.ensures.value)
    (λ n h. cell_fits (has rows n) (turned side (value_at s.values n)) (turned_fits side (value_at s.values n) (value_fits s n form h)))
    (λ i h. c.loop-piece.invariant.greatests i h ∙ ap (λ n. or_bottom (fold_to greater None n (λ q. f (64 * i + place_of t q)))) all)
    ∙ ap or_bottom (fold_to-same greater None 1024 f (λ n. cond (b n) (Some (turned side (value_at s.values n))) None) (λ n h. ap (λ (t : Bool). cond t (Some (turned side (value_at s.values n))) None) (ap (λ m. has m n) c.rows_to_look_at-rows.ensures.rows ∙ has-rows_of b n h))) in
    ap Some (to_z-of_z w64 c.turned.result passed ∙ c.turned.ensures ∙ ap (turned side) (to_z-of_z w64 c.greatest_of.result result ∙ found))
    ∙ some_extreme side b (value_at s.values) 1024 some
    ∙ sym (extreme-looked_at side s c.args.mask.now)

pub returns-then-count-eq0-clause-only_read : goal.returns-then-count-eq0-clause-only_read
returns-then-count-eq0-clause-only_read g c = only_read (g.L.Lanes.seen c.args.lanes.now) (g.L.Lanes.seen c.loop-piece.lanes) c.loop-piece.piece (omega arith) c.loop-piece.invariant.seen

pub returns-clause-only_read : goal.returns-clause-only_read
returns-clause-only_read g c = only_read (g.L.Lanes.seen c.args.lanes.now) (g.L.Lanes.seen c.loop-piece.lanes) c.loop-piece.piece (omega arith) c.loop-piece.invariant.seen
