-- The loads are words of sixteen neighbouring lanes, so each lane's part is its packed value.
use Rattle.std.proofs.Common.{◌≡◌, ℕ, ◌+◌, ◌*◌, ◌<◌, ◌/◌, ◌^◌, ◌-◌, ◌%◌, bit_or, map, length, sym, ap, subst, ◌∙◌, arith}
use Rattle.std.specs.Simd.Lanes.{Each1, zip2, chunk}
use Rattle.transpose_order.specs.Place.{IsLaneWidth}
use Rattle.bit_interleave.specs.Packing.{sixteen_of, packed_value}
use Rattle.bit_interleave.proofs.SixteenLemmas.{loaded}
use Rattle.bit_interleave.proofs.StepLemmas.{step_within, step_across, step_of_nothing, step_fits, next_word_is_there, word_is_there, positive_width, narrow_width, bits_within}
use Rattle.bit_interleave.proofs.unpacking.step_at.Goals as goal

pub returns-then-width-eq0-clause-values : goal.returns-then-width-eq0-clause-values
returns-then-width-eq0-clause-values g c =
    step_of_nothing g.U.LaneWord.BITS c.args.width (map g.U.LaneWord.number c.args.words.now) c.args.group c.args.step c.if-width-eq0.true

pub returns-then-shift-width-clause-values : goal.returns-then-shift-width-clause-values
returns-then-shift-width-clause-values g c =
    let t = c.BITS-bits.result in
    let w = c.args.width in
    let step = c.args.step in
    let words = map g.U.LaneWord.number c.args.words.now in
    let width : IsLaneWidth t = subst IsLaneWidth (sym c.BITS-bits.ensures) g.met.U.LaneWord.is_lane_width in
    let group : 16 * c.args.group < 1024 / t = subst (λ (n : ℕ). 16 * c.args.group < 1024 / n) (sym c.BITS-bits.ensures) c.requires.group in
    let inside = bits_within t w step (omega arith) (omega (arith, c.requires.step)) in
    let long : length c.args.words.now ≡ w * (1024 / t) = c.requires.words ∙ ap (λ (n : ℕ). w * (1024 / n)) (sym c.BITS-bits.ensures) in
    let low = loaded g.U.LaneWord.number c.args.words.now (step * w / t * (1024 / t) + 16 * c.args.group) (omega (arith, long, word_is_there t w c.args.group (step * w) width inside.1 group)) in
    subst (λ (n : ℕ). c.within.result ≡ sixteen_of (λ i. packed_value n w words (16 * c.args.group + i) step)) c.BITS-bits.ensures
    (step_within t w words c.args.group step (map g.U.LaneWord.number (chunk (step * w / t * (1024 / t) + 16 * c.args.group) 16 c.args.words.now)) c.within.result (positive_width t width) c.if-shift-width.true low c.within.ensures)

pub returns-then-shift-width-clause-fit : goal.returns-then-shift-width-clause-fit
returns-then-shift-width-clause-fit g c =
    step_fits g.U.LaneWord.BITS c.args.width (map g.U.LaneWord.number c.args.words.now) c.args.group c.args.step c.within.result (returns-then-shift-width-clause-values g c)

pub across-requires-clause-next : goal.across-requires-clause-next
across-requires-clause-next g c =
    let t = c.BITS-bits.result in
    let w = c.args.width in
    let step = c.args.step in
    let width : IsLaneWidth t = subst IsLaneWidth (sym c.BITS-bits.ensures) g.met.U.LaneWord.is_lane_width in
    let group : 16 * c.args.group < 1024 / t = subst (λ (n : ℕ). 16 * c.args.group < 1024 / n) (sym c.BITS-bits.ensures) c.requires.group in
    let inside = bits_within t w step (omega arith) (omega (arith, c.requires.step)) in
    let long : length c.args.words.now ≡ w * (1024 / t) = c.requires.words ∙ ap (λ (n : ℕ). w * (1024 / n)) (sym c.BITS-bits.ensures) in
    omega (arith, long, next_word_is_there t w c.args.group (step * w) width inside.0 c.if-shift-width.false group)

pub returns-clause-values : goal.returns-clause-values
returns-clause-values g c =
    let t = c.BITS-bits.result in
    let w = c.args.width in
    let step = c.args.step in
    let words = map g.U.LaneWord.number c.args.words.now in
    let width : IsLaneWidth t = subst IsLaneWidth (sym c.BITS-bits.ensures) g.met.U.LaneWord.is_lane_width in
    let group : 16 * c.args.group < 1024 / t = subst (λ (n : ℕ). 16 * c.args.group < 1024 / n) (sym c.BITS-bits.ensures) c.requires.group in
    let inside = bits_within t w step (omega arith) (omega (arith, c.requires.step)) in
    let long : length c.args.words.now ≡ w * (1024 / t) = c.requires.words ∙ ap (λ (n : ℕ). w * (1024 / n)) (sym c.BITS-bits.ensures) in
    let low = loaded g.U.LaneWord.number c.args.words.now (step * w / t * (1024 / t) + 16 * c.args.group) (omega (arith, long, word_is_there t w c.args.group (step * w) width inside.1 group)) in
    let high = loaded g.U.LaneWord.number c.args.words.now (step * w / t * (1024 / t) + 16 * c.args.group + 1024 / t) (omega (arith, long, next_word_is_there t w c.args.group (step * w) width inside.0 c.if-shift-width.false group)) in
    let lows = map g.U.LaneWord.number (chunk (step * w / t * (1024 / t) + 16 * c.args.group) 16 c.args.words.now) in
    let highs = map g.U.LaneWord.number (chunk (step * w / t * (1024 / t) + 16 * c.args.group + 1024 / t) 16 c.args.words.now) in
    let fit = subst (λ (n : ℕ). Each1 (λ x. x < 2 ^ n) lows) (sym c.BITS-bits.ensures) c.across.ensures.fit in
    let made = subst (λ (n : ℕ). c.across.result ≡ zip2 (λ x y. bit_or (x / 2 ^ (step * w % t)) (y * 2 ^ (n - step * w % t) % 2 ^ n) % 2 ^ w) lows highs) (sym c.BITS-bits.ensures) c.across.ensures.numbers in
    subst (λ (n : ℕ). c.across.result ≡ sixteen_of (λ i. packed_value n w words (16 * c.args.group + i) step)) c.BITS-bits.ensures
    (step_across t w words c.args.group step lows highs c.across.result (positive_width t width) (narrow_width t width) (omega (arith, c.requires.width)) low high fit made)

pub returns-clause-fit : goal.returns-clause-fit
returns-clause-fit g c =
    step_fits g.U.LaneWord.BITS c.args.width (map g.U.LaneWord.number c.args.words.now) c.args.group c.args.step c.across.result (returns-clause-values g c)
