-- One bit more.
use Rattle.std.proofs.Common.{rules, ◌≡◌, ◌+◌, ℕ, ℤ, Bool, get_or, int_lt, pos, FitsSigned, w64, of_z, to_z, sym, ap, ◌∙◌, arith}
use Rattle.std.specs.Int.{from_bool}
use Rattle.std.proofs.lemmas.Int.{to_z-of_z}
use Rattle.transpose_order.specs.MaskWords.{number_of_bits-zero}
use Rattle.query_eval.proofs.MaskedLemmas.{word_more, word_stays}
use Rattle.query_eval.proofs.answers.compared_rows.less_word.Goals as goal

pub loop-bit-init : goal.loop-bit-init
loop-bit-init c = sym (number_of_bits-zero _)

pub overflow_add-word : goal.overflow_add-word
overflow_add-word c =
    let bit = c.loop-bit.bit in
    let f : ℕ → Bool = λ b. int_lt (get_or c.args.left.now (c.args.first + b) (pos 0)) (get_or c.args.right.now (c.args.first + b) (pos 0)) in
    let left : ℤ = get_or c.args.left.now (c.args.first + bit) (pos 0) in
    let right : ℤ = get_or c.args.right.now (c.args.first + bit) (pos 0) in
    let fits_left : FitsSigned w64 left = search rules in
    let fits_right : FitsSigned w64 right = search rules in
    let same : c.is_less.result ≡ f bit = c.is_less.ensures ∙ ap (λ z. int_lt z (to_z w64 (of_z w64 right))) (to_z-of_z w64 left fits_left) ∙ ap (int_lt left) (to_z-of_z w64 right fits_right) in
    let stays = word_stays f bit c.loop-bit.word c.from.result c.loop-bit.invariant (c.from.ensures ∙ ap from_bool same) c.loop-bit-test.true in
    omega (arith, stays)

pub loop-bit-preserved : goal.loop-bit-preserved
loop-bit-preserved c =
    let bit = c.loop-bit.bit in
    let f : ℕ → Bool = λ b. int_lt (get_or c.args.left.now (c.args.first + b) (pos 0)) (get_or c.args.right.now (c.args.first + b) (pos 0)) in
    let left : ℤ = get_or c.args.left.now (c.args.first + bit) (pos 0) in
    let right : ℤ = get_or c.args.right.now (c.args.first + bit) (pos 0) in
    let fits_left : FitsSigned w64 left = search rules in
    let fits_right : FitsSigned w64 right = search rules in
    let same : c.is_less.result ≡ f bit = c.is_less.ensures ∙ ap (λ z. int_lt z (to_z w64 (of_z w64 right))) (to_z-of_z w64 left fits_left) ∙ ap (int_lt left) (to_z-of_z w64 right fits_right) in
    word_more f bit c.loop-bit.word c.from.result c.loop-bit.invariant (c.from.ensures ∙ ap from_bool same) c.loop-bit-test.true
