-- One bit more.
use Rattle.std.proofs.Common.{rules, ◌≡◌, ◌+◌, ℕ, Bool, not, get_or, pos, FitsSigned, w64, of_z, to_z, sym, ap, ◌∙◌, arith}
use Rattle.std.proofs.lemmas.Int.{to_z-of_z}
use Rattle.std.specs.Ordering.{int_eq}
use Rattle.std.specs.Int.{from_bool}
use Rattle.transpose_order.specs.MaskWords.{number_of_bits-zero}
use Rattle.query_eval.specs.Slices.{differs_at}
use Rattle.query_eval.proofs.MaskedLemmas.{changed_at, word_more, word_stays}
use Rattle.query_eval.proofs.filter.value_rows.changed_word.Goals as goal

pub loop-bit-init : goal.loop-bit-init
loop-bit-init c = sym (number_of_bits-zero _)

pub overflow_add-word : goal.overflow_add-word
overflow_add-word c =
    let values = c.args.values.now in
    let bit = c.loop-bit.bit in
    let f : ℕ → Bool = λ b. differs_at values (c.args.first + b) in
    let row : ℕ = c.args.first + bit in
    let fits : FitsSigned w64 (get_or values row (pos 0)) = search rules in
    let fits_before : FitsSigned w64 (get_or values c.saturating_sub.result (pos 0)) = search rules in
    let same : c.is_equal-same.result ≡ int_eq (get_or values c.saturating_sub.result (pos 0)) (get_or values row (pos 0)) =
    c.is_equal-same.ensures ∙ ap (λ z. int_eq z (to_z w64 (of_z w64 (get_or values row (pos 0))))) (to_z-of_z w64 (get_or values c.saturating_sub.result (pos 0)) fits_before)
    ∙ ap (int_eq (get_or values c.saturating_sub.result (pos 0))) (to_z-of_z w64 (get_or values row (pos 0)) fits) in
    let differs : not c.is_equal-same.result ≡ f bit = changed_at values row c.saturating_sub.result c.is_equal-same.result c.saturating_sub.ensures same in
    let stays = word_stays f bit c.loop-bit.word c.from.result c.loop-bit.invariant (c.from.ensures ∙ ap from_bool differs) c.loop-bit-test.true in
    omega (arith, stays)

pub loop-bit-preserved : goal.loop-bit-preserved
loop-bit-preserved c =
    let values = c.args.values.now in
    let bit = c.loop-bit.bit in
    let f : ℕ → Bool = λ b. differs_at values (c.args.first + b) in
    let row : ℕ = c.args.first + bit in
    let fits : FitsSigned w64 (get_or values row (pos 0)) = search rules in
    let fits_before : FitsSigned w64 (get_or values c.saturating_sub.result (pos 0)) = search rules in
    let same : c.is_equal-same.result ≡ int_eq (get_or values c.saturating_sub.result (pos 0)) (get_or values row (pos 0)) =
    c.is_equal-same.ensures ∙ ap (λ z. int_eq z (to_z w64 (of_z w64 (get_or values row (pos 0))))) (to_z-of_z w64 (get_or values c.saturating_sub.result (pos 0)) fits_before)
    ∙ ap (int_eq (get_or values c.saturating_sub.result (pos 0))) (to_z-of_z w64 (get_or values row (pos 0)) fits) in
    let differs : not c.is_equal-same.result ≡ f bit = changed_at values row c.saturating_sub.result c.is_equal-same.result c.saturating_sub.ensures same in
    word_more f bit c.loop-bit.word c.from.result c.loop-bit.invariant (c.from.ensures ∙ ap from_bool differs) c.loop-bit-test.true
