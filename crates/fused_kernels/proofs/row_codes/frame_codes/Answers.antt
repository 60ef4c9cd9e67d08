-- The values are the reference and the numbers above it.
use Rattle.std.proofs.Common.{rules, ◌≡◌, ℕ, ◌*◌, ◌%◌, ◌^◌, ◌≤◌, true, pos, ◌+ℤ◌, FitsSigned, to_z, of_z, sym, ap, ◌∙◌, arith}
use Rattle.std.specs.Int.{w64}
use Rattle.std.proofs.lemmas.Int.{to_z-of_z}
use Rattle.std.proofs.Math.Pow.{pow_mono}
use Rattle.frame_delta.specs.Frame.{FrameForm}
use Rattle.fused_kernels.proofs.RowRunLemmas.{frame_are_codes}
use Rattle.fused_kernels.proofs.row_codes.frame_codes.Goals as goal

pub returns-clause-codes : goal.returns-clause-codes
returns-clause-codes c =
    let form : FrameForm = c.args.form.now in
    let on : c.is_plain.result ≡ true = search rules in
    let narrow : form.width ≤ 8 = omega (arith, c.if-width-gt-WIDEST.false, c.width-width.ensures.value) in
    let rf : FitsSigned w64 c.reference-reference.result = search rules in
    let re : to_z w64 (of_z w64 c.reference-reference.result) ≡ form.reference = to_z-of_z w64 c.reference-reference.result rf ∙ c.reference-reference.ensures.value in
    let most : 2 ^ form.width ≤ 2 ^ 8 = pow_mono narrow in
    let width : 2 ^ c.width-width.result ≡ 2 ^ form.width = ap (λ (w : ℕ). 2 ^ w) c.width-width.ensures.value in
    let many : 1 * 2 ^ c.width-width.result % 18446744073709551616 ≡ 2 ^ form.width = omega (arith, width, most) in
    frame_are_codes form (1 * 2 ^ c.width-width.result % 18446744073709551616) c.write_numbers.new.codes c.write_keys.new.keys c.is_plain.ensures.form (sym c.is_plain.ensures.plain ∙ on) narrow many
    c.write_numbers.ensures (λ k h. c.write_keys.ensures k h ∙ ap (λ z. z +ℤ pos k) re)
