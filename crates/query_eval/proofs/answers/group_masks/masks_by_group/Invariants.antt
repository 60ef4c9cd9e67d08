-- The words so far.
use Rattle.std.proofs.Common.{◌≡◌, ◌*◌, ◌<◌, ℕ, cond, get_or, length}
use Rattle.table_model.specs.Truth.{is_false, is_true}
use Rattle.transpose_order.specs.Mask.{number_of_bits}
use Rattle.query_eval.specs.FieldPlaces.{word_truth}
use Rattle.query_eval.proofs.answers.group_masks.masks_by_group.Given as goal

abbrev pub invariant-loop-index : goal.invariant-loop-index
invariant-loop-index l = record {
  yes_long : length l.yes ≡ 16;
  no_long : length l.no ≡ 16;
  yes : (j : ℕ) → j < l.index → get_or l.yes j 0 ≡ number_of_bits 64 (λ bit. cond (is_true (word_truth l.predicate l.places l.groups (get_or l.rows j 0) (64 * j) bit)) 1 0);
  no : (j : ℕ) → j < l.index → get_or l.no j 0 ≡ number_of_bits 64 (λ bit. cond (is_false (word_truth l.predicate l.places l.groups (get_or l.rows j 0) (64 * j) bit)) 1 0);
}
