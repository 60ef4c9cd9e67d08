-- Nothing is carried or added to a code.
use Rattle.std.proofs.Common.{◌≡◌, ℕ, false, List, replicate, ap, ◌∙◌}
use Rattle.bit_interleave.specs.PackedWords.{PackedWords}
use Rattle.run_dictionary.specs.Dict.{DictForm}
use Rattle.native_lanes.specs.Walks.{Walk, number_of_row}
use Rattle.fused_kernels.proofs.CodeRangeLemmas.{code_is}
use Rattle.fused_kernels.proofs.CodeLemmas.{plain_number, code_width}
use Rattle.fused_kernels.proofs.codes.walk_of_codes.Goals as goal

pub returns : goal.returns
returns c = λ n h.
    let form : DictForm = c.args.form.now in
    let made : ℕ → List ℕ → Walk = λ w words. record { lane_width = 16; width = w; words = words; carried = false; starts = replicate 64 0; added = 0 } in
    let is : c.new.result ≡ made form.width form.codes.numbers =
    c.new.ensures ∙ ap (λ w. made w c.words_16.result.now) c.width.ensures.value
    ∙ ap (made form.width) (c.words_16.ensures ∙ ap (λ (x : PackedWords). x.numbers) c.codes.ensures.words) in
    ap (λ (w : Walk). number_of_row w n) is
    ∙ plain_number form.width form.codes.numbers (replicate 64 0) n (code_width form c.codes.ensures.form)
    ∙ code_is form.width form.codes n
