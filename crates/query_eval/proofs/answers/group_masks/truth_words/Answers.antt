-- One bit more; a word without a bit has no group.
use Rattle.std.proofs.Common.{◌≡◌, ℕ, ◌+◌, Bool, sym, ap, ◌∙◌, arith}
use Rattle.std.specs.Int.{from_bool}
use Rattle.table_model.specs.Truth.{is_false, is_true}
use Rattle.transpose_order.specs.MaskWords.{number_of_bits-zero}
use Rattle.query_eval.specs.FieldPlaces.{group_at, placed_truth, word_truth}
use Rattle.query_eval.proofs.HavingLemmas.{no_bits, no_true, no_false, same_false, same_true}
use Rattle.query_eval.proofs.MaskedLemmas.{word_more, word_stays}
use Rattle.query_eval.proofs.answers.group_masks.truth_words.Goals as goal

pub returns-then-word-eq0-clause-yes : goal.returns-then-word-eq0-clause-yes
returns-then-word-eq0-clause-yes c =
    no_bits (λ bit. is_true (word_truth c.args.predicate.now c.args.places.now c.args.groups.now c.args.word c.args.first bit))
    (λ b l. no_true c.args.word b (placed_truth c.args.predicate.now c.args.places.now (group_at c.args.groups.now (c.args.first + b))) c.if-word-eq0.true)

pub returns-then-word-eq0-clause-no : goal.returns-then-word-eq0-clause-no
returns-then-word-eq0-clause-no c =
    no_bits (λ bit. is_false (word_truth c.args.predicate.now c.args.places.now c.args.groups.now c.args.word c.args.first bit))
    (λ b l. no_false c.args.word b (placed_truth c.args.predicate.now c.args.places.now (group_at c.args.groups.now (c.args.first + b))) c.if-word-eq0.true)

pub loop-bit-init : goal.loop-bit-init
loop-bit-init c = record { yes = sym (number_of_bits-zero _); no = sym (number_of_bits-zero _) }

pub overflow_add-yes : goal.overflow_add-yes
overflow_add-yes c =
    let f : ℕ → Bool = λ bit. is_true (word_truth c.args.predicate.now c.args.places.now c.args.groups.now c.args.word c.args.first bit) in
    let same : c.is.result ≡ f c.loop-bit.bit = c.is.ensures ∙ same_true c.truth_if-truth.result ∙ ap is_true c.truth_if-truth.ensures in
    let stays = word_stays f c.loop-bit.bit c.loop-bit.yes c.from.result c.loop-bit.invariant.yes (c.from.ensures ∙ ap from_bool same) c.loop-bit-test.true in
    omega (arith, stays)

pub overflow_add-no : goal.overflow_add-no
overflow_add-no c =
    let f : ℕ → Bool = λ bit. is_false (word_truth c.args.predicate.now c.args.places.now c.args.groups.now c.args.word c.args.first bit) in
    let same : c.is-in-loop-bit.result ≡ f c.loop-bit.bit = c.is-in-loop-bit.ensures ∙ same_false c.truth_if-truth.result ∙ ap is_false c.truth_if-truth.ensures in
    let stays = word_stays f c.loop-bit.bit c.loop-bit.no c.from-in-loop-bit.result c.loop-bit.invariant.no (c.from-in-loop-bit.ensures ∙ ap from_bool same) c.loop-bit-test.true in
    omega (arith, stays)

pub loop-bit-preserved : goal.loop-bit-preserved
loop-bit-preserved c =
    let yes : ℕ → Bool = λ bit. is_true (word_truth c.args.predicate.now c.args.places.now c.args.groups.now c.args.word c.args.first bit) in
    let no : ℕ → Bool = λ bit. is_false (word_truth c.args.predicate.now c.args.places.now c.args.groups.now c.args.word c.args.first bit) in
    let same_yes : c.is.result ≡ yes c.loop-bit.bit = c.is.ensures ∙ same_true c.truth_if-truth.result ∙ ap is_true c.truth_if-truth.ensures in
    let same_no : c.is-in-loop-bit.result ≡ no c.loop-bit.bit = c.is-in-loop-bit.ensures ∙ same_false c.truth_if-truth.result ∙ ap is_false c.truth_if-truth.ensures in
    record {
      yes = word_more yes c.loop-bit.bit c.loop-bit.yes c.from.result c.loop-bit.invariant.yes (c.from.ensures ∙ ap from_bool same_yes) c.loop-bit-test.true;
      no = word_more no c.loop-bit.bit c.loop-bit.no c.from-in-loop-bit.result c.loop-bit.invariant.no (c.from-in-loop-bit.ensures ∙ ap from_bool same_no) c.loop-bit-test.true;
    }
