-- Each value of the lane is read once, and its bits follow those of the value before.
use Rattle.std.proofs.Common.{◌≡◌, ℕ, ◌+◌, ◌-◌, ◌*◌, ◌/◌, ◌<◌, ◌≤◌, map, length, get_or, rules, arith, ap, sym, ◌∙◌, subst}
use Rattle.std.proofs.lemmas.Nat.{mod_below, mul-le}
use Rattle.bit_interleave.specs.Packing.{packed_word}
use Rattle.bit_interleave.proofs.StepLemmas.{positive_width, narrow_width}
use Rattle.bit_interleave.proofs.PackLemmas.{first_low, first_high, next_low, next_high, word_of_stream, value_read, value_fits, row_in_lane, row_is_there, first_step_below, later_step_below, begun_before, full_at_the_end, ends_after_begin}
use Rattle.bit_interleave.proofs.packing.word_of.Goals as goal

pub overflow_mul-start : goal.overflow_mul-start
overflow_mul-start g c =
    let narrow = narrow_width c.args.lane_width c.requires.lane_width in
    record { fits = omega (arith, c.requires.word, c.requires.width, mul-le c.args.word c.args.lane_width 64 64 (omega (arith, c.requires.word, c.requires.width)) narrow) }

pub overflow_add-end : goal.overflow_add-end
overflow_add-end g c =
    let narrow = narrow_width c.args.lane_width c.requires.lane_width in
    record { fits = omega (arith, c.requires.word, c.requires.width, mul-le c.args.word c.args.lane_width 64 64 (omega (arith, c.requires.word, c.requires.width)) narrow) }

pub overflow_shr-bits : goal.overflow_shr-bits
overflow_shr-bits g c =
    omega (arith, c.requires.word, c.requires.width, narrow_width c.args.lane_width c.requires.lane_width, mod_below (c.args.word * c.args.lane_width) c.args.width (omega (arith, c.requires.word)))

pub offset_bounds-values-first : goal.offset_bounds-values-first
offset_bounds-values-first g c =
    let positive = positive_width c.args.lane_width c.requires.lane_width in
    let near : c.row_at-first.result + c.args.word * c.args.lane_width / c.args.width < 1024 = row_is_there c.args.lane_width c.args.lane c.row_at-first.result (c.args.word * c.args.lane_width / c.args.width) c.requires.lane_width c.requires.lane (first_step_below c.args.lane_width c.args.width c.args.word positive c.requires.word) c.row_at-first.ensures in
    search rules

pub loop-step-init : goal.loop-step-init
loop-step-init g c =
    let t = c.args.lane_width in
    let w = c.args.width in
    let start = c.args.word * t in
    let values = map g.V.LaneWord.number c.args.values.now in
    let positive = positive_width t c.requires.lane_width in
    let near : c.row_at-first.result + start / w < length c.args.values.now = omega (arith, row_is_there t c.args.lane c.row_at-first.result (start / w) c.requires.lane_width c.requires.lane (first_step_below t w c.args.word positive c.requires.word) c.row_at-first.ensures) in
    let read = value_read g.V.LaneWord.number c.args.values.now (c.row_at-first.result + start / w) c.index-values-first.result c.to_u64.result near c.to_u64.ensures.kept in
    let fit = value_fits g.V.LaneWord.number c.args.values.now (c.row_at-first.result + start / w) c.index-values-first.result c.to_u64.result w near c.to_u64.ensures.kept c.requires.fit in
    let there = read ∙ ap (λ i. get_or values i 0) (sym (row_in_lane t c.args.lane c.row_at-first.result (start / w) c.row_at-first.ensures)) in
    record {
      low = λ k h _. first_low t w values c.args.lane start c.to_u64.result k there h;
      high = λ k h. first_high w start c.to_u64.result k fit h;
    }

pub offset_bounds-values-first-in-loop-step : goal.offset_bounds-values-first-in-loop-step
offset_bounds-values-first-in-loop-step g c =
    let positive = positive_width c.args.lane_width c.requires.lane_width in
    let near : c.row_at-first.result + c.loop-step.step < 1024 = row_is_there c.args.lane_width c.args.lane c.row_at-first.result c.loop-step.step c.requires.lane_width c.requires.lane (later_step_below c.args.lane_width c.args.width c.args.word c.loop-step.step positive c.requires.word c.loop-step-test.true) c.row_at-first.ensures in
    search rules

pub overflow_mul-bits : goal.overflow_mul-bits
overflow_mul-bits g c =
    let positive = positive_width c.args.lane_width c.requires.lane_width in
    let narrow = narrow_width c.args.lane_width c.requires.lane_width in
    let below = later_step_below c.args.lane_width c.args.width c.args.word c.loop-step.step positive c.requires.word c.loop-step-test.true in
    record { fits = omega (arith, mul-le c.loop-step.step c.args.width 64 64 (omega (arith, below, narrow)) (omega (arith, c.requires.width, narrow))) }

pub loop-step-preserved : goal.loop-step-preserved
loop-step-preserved g c =
    let t = c.args.lane_width in
    let w = c.args.width in
    let start = c.args.word * t in
    let s = c.loop-step.step in
    let values = map g.V.LaneWord.number c.args.values.now in
    let positive = positive_width t c.requires.lane_width in
    let near : c.row_at-first.result + s < length c.args.values.now = omega (arith, row_is_there t c.args.lane c.row_at-first.result s c.requires.lane_width c.requires.lane (later_step_below t w c.args.word s positive c.requires.word c.loop-step-test.true) c.row_at-first.ensures) in
    let read = value_read g.V.LaneWord.number c.args.values.now (c.row_at-first.result + s) c.index-values-first-in-loop-step.result c.to_u64-in-loop-step.result near c.to_u64-in-loop-step.ensures.kept in
    let fit = value_fits g.V.LaneWord.number c.args.values.now (c.row_at-first.result + s) c.index-values-first-in-loop-step.result c.to_u64-in-loop-step.result w near c.to_u64-in-loop-step.ensures.kept c.requires.fit in
    let there = read ∙ ap (λ i. get_or values i 0) (sym (row_in_lane t c.args.lane c.row_at-first.result s c.row_at-first.ensures)) in
    let begun = begun_before w start s (omega (arith, c.requires.word)) (omega arith) in
    record {
      low = λ k h l. next_low t w values c.args.lane start c.loop-step.bits s c.to_u64-in-loop-step.result k there begun c.loop-step.invariant.low c.loop-step.invariant.high h l;
      high = λ k h. next_high w start c.loop-step.bits s c.to_u64-in-loop-step.result k fit begun c.loop-step.invariant.high h;
    }

pub returns-clause-value : goal.returns-clause-value
unfolding packed_word
returns-clause-value g c =
    let t = c.args.lane_width in
    let w = c.args.width in
    let start = c.args.word * t in
    let positive = positive_width t c.requires.lane_width in
    let last : c.loop-step.step ≡ (start + t - 1) / w + 1 = omega (arith, ends_after_begin t w start (omega (arith, c.requires.word)) positive) in
    let full : t ≤ c.loop-step.step * w - start = subst (λ (n : ℕ). t ≤ n * w - start) (sym last) (full_at_the_end t w start (omega (arith, c.requires.word)) positive) in
    word_of_stream t w (map g.V.LaneWord.number c.args.values.now) c.args.lane start c.loop-step.bits (c.loop-step.step * w - start) (narrow_width t c.requires.lane_width) full c.loop-step.invariant.low
