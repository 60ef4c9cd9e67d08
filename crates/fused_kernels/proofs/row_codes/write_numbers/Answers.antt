-- Of lanes of 16 bits the packed numbers are the distances; of others the values tell them.
use Rattle.std.proofs.Common.{rules, ◌≡◌, ℤ, ◌-ℤ◌, List, FitsSigned, to_z, of_z, sym, ap, ◌∙◌, arith}
use Rattle.std.specs.Int.{w64}
use Rattle.std.proofs.lemmas.Int.{ints, to_z-of_z}
use Rattle.bit_interleave.specs.PackedWords.{PackedWords}
use Rattle.bit_interleave.specs.Range.{value_at}
use Rattle.frame_delta.specs.Frame.{FrameForm, frame_value}
use Rattle.segment_core.proofs.CodedLemmas.{value_at-values_of}
use Rattle.segment_core.specs.declared.coded.Coded.TheVariants.{For as InFor}
use Rattle.fused_kernels.proofs.RowRunLemmas.{packed_distance, plain_distance}
use Rattle.fused_kernels.proofs.row_codes.write_numbers.Goals as goal

pub write_distances-requires : goal.write_distances-requires
write_distances-requires c = λ n h.
    let form : FrameForm = c.args.form.now in
    let rf : FitsSigned w64 c.args.reference = search rules in
    let re : to_z w64 (of_z w64 c.args.reference) ≡ form.reference = to_z-of_z w64 c.args.reference rf ∙ c.requires.reference in
    let ve : value_at c.write_values.new.values n ≡ frame_value form n = ap (λ (xs : List ℤ). value_at xs n) c.write_values.ensures ∙ value_at-values_of (InFor form) n h in
    let d = plain_distance form n c.lane_width.ensures.form c.requires.plain c.requires.narrow in
    (omega (arith, ints, re, ve, d.0), omega (arith, ints, re, ve, d.1))

pub returns-then-lane_width-eq16 : goal.returns-then-lane_width-eq16
returns-then-lane_width-eq16 c = λ n h.
    packed_distance c.args.form.now n c.width.result c.words_16.result.now _ c.lane_width.ensures.form c.requires.plain (sym c.lane_width.ensures.value ∙ c.if-lane_width-eq16.true) c.width.ensures.value (c.words_16.ensures ∙ ap (λ (x : PackedWords). x.numbers) c.words.ensures.value) (c.write_packed.ensures n h)

pub returns : goal.returns
returns c = λ n h.
    let form : FrameForm = c.args.form.now in
    let rf : FitsSigned w64 c.args.reference = search rules in
    let re : to_z w64 (of_z w64 c.args.reference) ≡ form.reference = to_z-of_z w64 c.args.reference rf ∙ c.requires.reference in
    let ve : value_at c.write_values.new.values n ≡ frame_value form n = ap (λ (xs : List ℤ). value_at xs n) c.write_values.ensures ∙ value_at-values_of (InFor form) n h in
    c.write_distances.ensures n h ∙ ap (λ z. z -ℤ to_z w64 (of_z w64 c.args.reference)) ve ∙ ap (λ z. frame_value form n -ℤ z) re
