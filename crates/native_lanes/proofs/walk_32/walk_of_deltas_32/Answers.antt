-- The walk's parts are those of the deltas.
use Rattle.std.proofs.Common.{rules, FitsSigned, ◌≡◌, ℕ, ◌-◌, ◌/◌, ◌^◌, ◌<◌, true, cond, List, slice_index, ℤ, int_lt, pos, ◌+ℤ◌, sym, ap, ◌∙◌, subst}
use Rattle.bit_interleave.specs.Range.{value_at}
use Rattle.std.specs.Int.{w64}
use Rattle.native_lanes.proofs.PackedLemmas.{passed}
use Rattle.bit_interleave.specs.LaneValues.{LaneValues}
use Rattle.bit_interleave.specs.PackedWords.{PackedWords}
use Rattle.frame_delta.specs.Delta.{DeltaForm, delta_value}
use Rattle.native_lanes.specs.Walks.{Walk, number_of_row}
use Rattle.native_lanes.proofs.RaisedLemmas.{bits_raised, delta_raised}
use Rattle.native_lanes.proofs.walk_32.walk_of_deltas_32.Goals as goal

pub returns : goal.returns
returns c = λ n h.
    let form : DeltaForm = c.args.form.now in
    let fits : FitsSigned w64 c.least.result = search rules in
    let added = c.bits-added.result in
    let starts = c.all_raised-starts.result in
    let made : ℕ → ℕ → List ℕ → Walk = λ t w words. record { lane_width = t; width = w; words = words; carried = true; starts = starts; added = added } in
    let is : c.new.result ≡ made form.lane_width form.width form.words.numbers =
    c.new.ensures ∙ ap (λ w. made 32 w c.words_32.result.now) c.width.ensures.value
    ∙ ap (made 32 form.width) (c.words_32.ensures ∙ ap (λ (x : PackedWords). x.numbers) c.words.ensures.value) ∙ ap (λ t. made t form.width form.words.numbers) (sym c.requires) in
    let half : pos (2 ^ 31) ≡ pos (2 ^ (form.lane_width - 1)) = ap (λ (t : ℕ). pos (2 ^ (t - 1))) (sym c.requires) in
    let start : (lane : ℕ) → lane < 1024 / form.lane_width → pos (slice_index starts lane) ≡ value_at form.bases lane +ℤ pos (2 ^ (form.lane_width - 1)) =
    (λ lane l. c.all_raised-starts.ensures lane (subst (λ (t : ℕ). lane < 1024 / t) c.requires l) ∙ ap (λ (xs : List ℤ). value_at xs lane +ℤ pos (2 ^ 31)) (c.values_32.ensures ∙ ap (λ (v : LaneValues). v.values) c.bases.ensures.value) ∙ ap (λ z. value_at form.bases lane +ℤ z) half) in
    let bits : pos added ≡ cond (int_lt form.least (pos 0)) (form.least +ℤ pos (2 ^ form.lane_width)) form.least =
    c.bits-added.ensures ∙ ap (λ (z : ℤ). cond (int_lt z (pos 0)) (z +ℤ pos (2 ^ 32)) z) (passed c.least.result form.least fits c.least.ensures.value)
    ∙ ap (λ (t : ℕ). cond (int_lt form.least (pos 0)) (form.least +ℤ pos (2 ^ t)) form.least) (sym c.requires) in
    let more = bits_raised (int_lt form.least (pos 0)) form.least added (2 ^ form.lane_width) bits in
    ap (λ (w : Walk). pos (number_of_row w n)) is
    ∙ delta_raised form starts added more.0 n c.words.ensures.form start more.1 h
    ∙ ap (λ z. delta_value form n +ℤ z) (sym half)
