-- The walk's parts are the frame's.
use Rattle.std.proofs.Common.{rules, FitsSigned, ◌≡◌, ℕ, ◌-◌, ◌^◌, false, List, replicate, pos, ◌+ℤ◌, sym, ap, ◌∙◌}
use Rattle.std.specs.Int.{w64}
use Rattle.native_lanes.proofs.PackedLemmas.{passed}
use Rattle.bit_interleave.specs.PackedWords.{PackedWords}
use Rattle.frame_delta.specs.Frame.{FrameForm, frame_value}
use Rattle.native_lanes.specs.Walks.{Walk, number_of_row}
use Rattle.native_lanes.proofs.RaisedLemmas.{frame_raised}
use Rattle.native_lanes.proofs.walk_64.walk_of_frame_64.Goals as goal

pub returns : goal.returns
returns c = λ n h.
    let form : FrameForm = c.args.form.now in
    let fits : FitsSigned w64 c.reference.result = search rules in
    let added = c.raised-added.result in
    let made : ℕ → ℕ → List ℕ → Walk = λ t w words. record { lane_width = t; width = w; words = words; carried = false; starts = replicate 16 0; added = added } in
    let is : c.new.result ≡ made form.lane_width form.width form.words.numbers =
    c.new.ensures ∙ ap (λ w. made 64 w c.words_64.result.now) c.width.ensures.value
    ∙ ap (made 64 form.width) (c.words_64.ensures ∙ ap (λ (x : PackedWords). x.numbers) c.words.ensures.value) ∙ ap (λ t. made t form.width form.words.numbers) (sym c.requires) in
    let half : pos (2 ^ 63) ≡ pos (2 ^ (form.lane_width - 1)) = ap (λ (t : ℕ). pos (2 ^ (t - 1))) (sym c.requires) in
    ap (λ (w : Walk). pos (number_of_row w n)) is
    ∙ frame_raised form (replicate 16 0) added n c.words.ensures.form.lane_width (c.raised-added.ensures ∙ ap (λ z. z +ℤ pos (2 ^ 63)) (passed c.reference.result form.reference fits c.reference.ensures.value) ∙ ap (λ z. form.reference +ℤ z) half)
    ∙ ap (λ z. frame_value form n +ℤ z) (sym half)
