-- A mask for each 1024 groups so far.
use Rattle.std.proofs.Common.{◌≡◌, ◌*◌, length}
use Rattle.table_model.specs.Meaning.{is_kept}
use Rattle.query_eval.specs.Finished.{GroupFields, seen_operand}
use Rattle.query_eval.proofs.HavingLemmas.{KeptBelow}
use Rattle.query_eval.proofs.answers.group_masks.kept_groups.Given as goal

abbrev pub invariant-loop-block : goal.invariant-loop-block
invariant-loop-block l = record {
  size : length l.masks.items ≡ l.block;
  kept : KeptBelow (λ (group : GroupFields). is_kept l.having (seen_operand l.schema.columns l.plan group)) l.groups (1024 * l.block) l.masks.items;
}
