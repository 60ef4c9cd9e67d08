-- The packed numbers are the codes.
use Rattle.std.proofs.Common.{ℕ, List, ap, ◌∙◌}
use Rattle.transpose_order.specs.Place.{lane_of, step_of}
use Rattle.bit_interleave.specs.Packing.{packed_value}
use Rattle.bit_interleave.specs.PackedWords.{PackedWords}
use Rattle.run_dictionary.specs.Dict.{DictForm}
use Rattle.fused_kernels.proofs.CodeLemmas.{code_of_lane}
use Rattle.fused_kernels.proofs.row_codes.write_codes.Goals as goal

pub returns : goal.returns
returns c = λ n h.
    let form : DictForm = c.args.form.now in
    c.write_packed.ensures n h
    ∙ ap (λ (w : ℕ). packed_value 16 w c.words_16.result.now (lane_of 16 n) (step_of 16 n)) c.width.ensures.value
    ∙ ap (λ (xs : List ℕ). packed_value 16 form.width xs (lane_of 16 n) (step_of 16 n)) (c.words_16.ensures ∙ ap (λ (x : PackedWords). x.numbers) c.codes.ensures.words)
    ∙ code_of_lane form n
