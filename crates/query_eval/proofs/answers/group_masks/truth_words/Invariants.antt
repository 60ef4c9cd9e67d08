-- The bits so far.
use Rattle.std.proofs.Common.{◌≡◌, cond}
use Rattle.table_model.specs.Truth.{is_false, is_true}
use Rattle.transpose_order.specs.Mask.{number_of_bits}
use Rattle.query_eval.specs.FieldPlaces.{word_truth}
use Rattle.query_eval.proofs.answers.group_masks.truth_words.Given as goal

abbrev pub invariant-loop-bit : goal.invariant-loop-bit
invariant-loop-bit l = record {
  yes : l.yes ≡ number_of_bits l.bit (λ bit. cond (is_true (word_truth l.predicate l.places l.groups l.word l.first bit)) 1 0);
  no : l.no ≡ number_of_bits l.bit (λ bit. cond (is_false (word_truth l.predicate l.places l.groups l.word l.first bit)) 1 0);
}
