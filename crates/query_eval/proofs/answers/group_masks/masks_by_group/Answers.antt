-- The words are those of the groups of the mask.
use Rattle.std.proofs.Common.{◌<◌, ◌*◌, ℕ, cond, get_or, length-set, ◌∙◌, arith}
use Rattle.table_model.specs.Truth.{is_false, is_true}
use Rattle.transpose_order.specs.Mask.{number_of_bits}
use Rattle.query_eval.specs.FieldPlaces.{word_truth}
use Rattle.query_eval.proofs.HavingLemmas.{word_put, words_no, words_yes}
use Rattle.query_eval.proofs.answers.group_masks.masks_by_group.Goals as goal

pub loop-index-preserved : goal.loop-index-preserved
loop-index-preserved c =
    let k = c.loop-index.index in
    let inv = c.loop-index.invariant in
    let yes : ℕ → ℕ = λ j. number_of_bits 64 (λ bit. cond (is_true (word_truth c.args.predicate.now c.of-places.result c.args.groups.now (get_or c.words-rows.result.now j 0) (64 * j) bit)) 1 0) in
    let no : ℕ → ℕ = λ j. number_of_bits 64 (λ bit. cond (is_false (word_truth c.args.predicate.now c.of-places.result c.args.groups.now (get_or c.words-rows.result.now j 0) (64 * j) bit)) 1 0) in
    record {
      yes_long = length-set c.loop-index.yes k c.truth_words-words.result.yes ∙ inv.yes_long;
      no_long = length-set c.loop-index.no k c.truth_words-words.result.no ∙ inv.no_long;
      yes = word_put yes c.loop-index.yes k c.truth_words-words.result.yes (omega (arith, inv.yes_long, c.loop-index-test.true)) c.truth_words-words.ensures.yes inv.yes;
      no = word_put no c.loop-index.no k c.truth_words-words.result.no (omega (arith, inv.no_long, c.loop-index-test.true)) c.truth_words-words.ensures.no inv.no;
    }

pub returns : goal.returns
returns c =
    let last : (j : ℕ) → j < 16 → j < c.loop-index.index = λ j l. omega (arith, l, c.loop-index-test.false) in
    record {
      yes = c.from_words.ensures
          ∙ words_yes c.args.schema.now.columns c.args.plan.now c.args.groups.now c.args.predicate.now c.of-places.result c.of-places.ensures c.args.mask.now c.words-rows.result.now c.loop-index.yes c.words-rows.ensures (λ j l. c.loop-index.invariant.yes j (last j l));
      no = c.from_words-2.ensures
          ∙ words_no c.args.schema.now.columns c.args.plan.now c.args.groups.now c.args.predicate.now c.of-places.result c.of-places.ensures c.args.mask.now c.words-rows.result.now c.loop-index.no c.words-rows.ensures (λ j l. c.loop-index.invariant.no j (last j l));
    }
