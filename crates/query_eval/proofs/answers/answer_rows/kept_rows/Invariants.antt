-- The rows of the groups so far that are kept.
use Rattle.std.proofs.Common.{◌≡◌, map, filter, take}
use Rattle.table_model.specs.Meaning.{is_kept}
use Rattle.query_eval.specs.Finished.{seen_item, seen_operand}
use Rattle.query_eval.proofs.answers.answer_rows.kept_rows.Given as goal

abbrev pub invariant-loop-index : goal.invariant-loop-index
invariant-loop-index l = l.rows.items ≡ map (λ group. map (λ item. seen_item l.schema.columns l.plan group item.value) l.items) (filter (λ group. is_kept l.having (seen_operand l.schema.columns l.plan group)) (take l.index l.groups))
