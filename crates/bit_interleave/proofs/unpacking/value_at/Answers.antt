-- The words read are those of the value's lane, so their bits joined are the packed value.
use Rattle.std.proofs.Common.{◌≡◌, ℕ, ◌+◌, ◌-◌, ◌*◌, ◌/◌, ◌%◌, ◌<◌, ◌^◌, map, length, get_or, bit_and, bit_or, sym, ap, subst, ◌∙◌, arith}
use Rattle.transpose_order.specs.Place.{IsLaneWidth}
use Rattle.bit_interleave.specs.Packing.{packed_value}
use Rattle.bit_interleave.proofs.BitLemmas.{low_ones}
use Rattle.bit_interleave.proofs.PackLemmas.{value_read}
use Rattle.bit_interleave.proofs.StepLemmas.{within_one_word, across_two_words, value_of_nothing, packed_value-below, word_of_lane_is_there, next_word_of_lane_is_there, positive_width, narrow_width, bits_within}
use Rattle.bit_interleave.proofs.unpacking.value_at.Goals as goal

pub returns-then-width-eq0-clause-value : goal.returns-then-width-eq0-clause-value
returns-then-width-eq0-clause-value g c =
    value_of_nothing g.U.LaneWord.BITS c.args.width (map g.U.LaneWord.number c.args.words.now) c.args.lane c.args.step c.if-width-eq0.true

pub returns-then-shift-width-clause-value : goal.returns-then-shift-width-clause-value
returns-then-shift-width-clause-value g c =
    let t = c.BITS-bits.result in
    let w = c.args.width in
    let step = c.args.step in
    let lane = c.args.lane in
    let words = map g.U.LaneWord.number c.args.words.now in
    let width : IsLaneWidth t = subst IsLaneWidth (sym c.BITS-bits.ensures) g.met.U.LaneWord.is_lane_width in
    let near : lane < 1024 / t = subst (λ (n : ℕ). lane < 1024 / n) (sym c.BITS-bits.ensures) c.requires.lane in
    let inside = bits_within t w step (omega arith) (omega (arith, c.requires.step)) in
    let long : length c.args.words.now ≡ w * (1024 / t) = c.requires.words ∙ ap (λ (n : ℕ). w * (1024 / n)) (sym c.BITS-bits.ensures) in
    let at = step * w / t * (1024 / t) + lane in
    let low = value_read g.U.LaneWord.number c.args.words.now at c.index-words-at.result c.to_u64-low.result (omega (arith, long, word_of_lane_is_there t w lane (step * w) width inside.1 near)) (c.to_u64-low.ensures.kept ∙ ap g.U.LaneWord.number c.index-words-at.is) in
    subst (λ (n : ℕ). bit_and (c.to_u64-low.result / 2 ^ (step * w % t)) ((2 ^ 64 - 1) / 2 ^ (64 - w)) ≡ packed_value n w words lane step) c.BITS-bits.ensures
    (low_ones (c.to_u64-low.result / 2 ^ (step * w % t)) w (omega (arith, narrow_width t width))
    ∙ ap (λ x. x / 2 ^ (step * w % t) % 2 ^ w) low
    ∙ within_one_word t w words lane step (positive_width t width) c.if-shift-width.true)

pub returns-then-shift-width-clause-fits : goal.returns-then-shift-width-clause-fits
returns-then-shift-width-clause-fits g c =
    subst (λ (v : ℕ). v < 2 ^ c.args.width) (sym (returns-then-shift-width-clause-value g c)) (packed_value-below g.U.LaneWord.BITS c.args.width (map g.U.LaneWord.number c.args.words.now) c.args.lane c.args.step)

pub bounds-words-at-2 : goal.bounds-words-at-2
bounds-words-at-2 g c =
    let t = c.BITS-bits.result in
    let w = c.args.width in
    let step = c.args.step in
    let width : IsLaneWidth t = subst IsLaneWidth (sym c.BITS-bits.ensures) g.met.U.LaneWord.is_lane_width in
    let near : c.args.lane < 1024 / t = subst (λ (n : ℕ). c.args.lane < 1024 / n) (sym c.BITS-bits.ensures) c.requires.lane in
    let inside = bits_within t w step (omega arith) (omega (arith, c.requires.step)) in
    let long : length c.args.words.now ≡ w * (1024 / t) = c.requires.words ∙ ap (λ (n : ℕ). w * (1024 / n)) (sym c.BITS-bits.ensures) in
    omega (arith, long, next_word_of_lane_is_there t w c.args.lane (step * w) width inside.0 c.if-shift-width.false near)

pub offset_bounds-words-at-2 : goal.offset_bounds-words-at-2
offset_bounds-words-at-2 g c = omega (arith, bounds-words-at-2 g c)

pub returns-clause-value : goal.returns-clause-value
returns-clause-value g c =
    let t = c.BITS-bits.result in
    let w = c.args.width in
    let step = c.args.step in
    let lane = c.args.lane in
    let words = map g.U.LaneWord.number c.args.words.now in
    let width : IsLaneWidth t = subst IsLaneWidth (sym c.BITS-bits.ensures) g.met.U.LaneWord.is_lane_width in
    let near : lane < 1024 / t = subst (λ (n : ℕ). lane < 1024 / n) (sym c.BITS-bits.ensures) c.requires.lane in
    let inside = bits_within t w step (omega arith) (omega (arith, c.requires.step)) in
    let long : length c.args.words.now ≡ w * (1024 / t) = c.requires.words ∙ ap (λ (n : ℕ). w * (1024 / n)) (sym c.BITS-bits.ensures) in
    let at = step * w / t * (1024 / t) + lane in
    let put : ℕ → ℕ → ℕ = λ x y. bit_or (x / 2 ^ (step * w % t)) (y * 2 ^ (t - step * w % t) % 2 ^ 64) % 2 ^ w in
    let low = value_read g.U.LaneWord.number c.args.words.now at c.index-words-at.result c.to_u64-low.result (omega (arith, long, word_of_lane_is_there t w lane (step * w) width inside.1 near)) (c.to_u64-low.ensures.kept ∙ ap g.U.LaneWord.number c.index-words-at.is) in
    let high = value_read g.U.LaneWord.number c.args.words.now (at + 1024 / t) c.index-words-at-2.result c.to_u64-high.result (omega (arith, long, next_word_of_lane_is_there t w lane (step * w) width inside.0 c.if-shift-width.false near)) (c.to_u64-high.ensures.kept ∙ ap g.U.LaneWord.number c.index-words-at-2.is) in
    let fit : get_or words at 0 < 2 ^ t = subst (λ (n : ℕ). get_or words at 0 < 2 ^ n) (sym c.BITS-bits.ensures) (subst (λ (x : ℕ). x < 2 ^ g.U.LaneWord.BITS) low c.to_u64-low.ensures.fits) in
    subst (λ (n : ℕ). bit_and (bit_or (c.to_u64-low.result / 2 ^ (step * w % t)) (c.to_u64-high.result * 2 ^ (t - step * w % t) % 2 ^ 64)) ((2 ^ 64 - 1) / 2 ^ (64 - w)) ≡ packed_value n w words lane step) c.BITS-bits.ensures
    (low_ones (bit_or (c.to_u64-low.result / 2 ^ (step * w % t)) (c.to_u64-high.result * 2 ^ (t - step * w % t) % 2 ^ 64)) w (omega (arith, narrow_width t width))
    ∙ ap (λ x. put x c.to_u64-high.result) low ∙ ap (put (get_or words at 0)) high
    ∙ across_two_words t w words lane step (positive_width t width) (narrow_width t width) (omega (arith, c.requires.width)) fit)

pub returns-clause-fits : goal.returns-clause-fits
returns-clause-fits g c =
    subst (λ (v : ℕ). v < 2 ^ c.args.width) (sym (returns-clause-value g c)) (packed_value-below g.U.LaneWord.BITS c.args.width (map g.U.LaneWord.number c.args.words.now) c.args.lane c.args.step)
