-- One bit more.
use Rattle.std.proofs.Common.{rules, ◌≡◌, ◌+◌, ℕ, Bool, get_or, pos, FitsSigned, w64, of_z, to_z, sym, ap, ◌∙◌, arith}
use Rattle.std.specs.Int.{from_bool}
use Rattle.std.specs.Ordering.{int_eq}
use Rattle.std.proofs.lemmas.Int.{to_z-of_z}
use Rattle.transpose_order.specs.MaskWords.{number_of_bits-zero}
use Rattle.query_eval.proofs.MaskedLemmas.{word_more, word_stays}
use Rattle.query_eval.proofs.filter.value_rows.equal_word.Goals as goal

pub loop-bit-init : goal.loop-bit-init
loop-bit-init c = sym (number_of_bits-zero _)

pub overflow_add-word : goal.overflow_add-word
overflow_add-word c =
    let values = c.args.values.now in
    let first = c.args.first in
    let bit = c.loop-bit.bit in
    let fits : FitsSigned w64 (get_or values (first + bit) (pos 0)) = search rules in
    let f : ℕ → Bool = λ b. int_eq (to_z w64 (of_z w64 c.args.value)) (get_or values (first + b) (pos 0)) in
    let same : c.is_equal.result ≡ f bit = c.is_equal.ensures ∙ ap (int_eq (to_z w64 (of_z w64 c.args.value))) (to_z-of_z w64 (get_or values (first + bit) (pos 0)) fits) in
    let stays = word_stays f bit c.loop-bit.word c.from.result c.loop-bit.invariant (c.from.ensures ∙ ap from_bool same) c.loop-bit-test.true in
    omega (arith, stays)

pub loop-bit-preserved : goal.loop-bit-preserved
loop-bit-preserved c =
    let values = c.args.values.now in
    let first = c.args.first in
    let bit = c.loop-bit.bit in
    let fits : FitsSigned w64 (get_or values (first + bit) (pos 0)) = search rules in
    let f : ℕ → Bool = λ b. int_eq (to_z w64 (of_z w64 c.args.value)) (get_or values (first + b) (pos 0)) in
    let same : c.is_equal.result ≡ f bit = c.is_equal.ensures ∙ ap (int_eq (to_z w64 (of_z w64 c.args.value))) (to_z-of_z w64 (get_or values (first + bit) (pos 0)) fits) in
    word_more f bit c.loop-bit.word c.from.result c.loop-bit.invariant (c.from.ensures ∙ ap from_bool same) c.loop-bit-test.true
