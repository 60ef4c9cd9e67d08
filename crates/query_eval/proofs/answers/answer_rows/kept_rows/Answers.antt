-- One group more, kept or not.
use Rattle.std.proofs.Common.{◌≡◌, ◌/◌, ◌%◌, Bool, List, [], get_or, map, sym, ap, ◌∙◌}
use Rattle.std.proofs.lemmas.List.{get_or_default}
use Rattle.table_model.specs.Meaning.{is_kept}
use Rattle.table_model.specs.declared.answer.Field.{Field}
use Rattle.transpose_order.specs.Mask.{has}
use Rattle.query_eval.specs.declared.answers.field_places.FieldPlace.{FieldPlace}
use Rattle.query_eval.specs.FieldPlaces.{field_in, group_at, no_group}
use Rattle.query_eval.specs.Finished.{GroupFields, seen_item, seen_operand}
use Rattle.query_eval.proofs.FinishLemmas.{kept_more, left_more}
use Rattle.query_eval.proofs.HavingLemmas.{items_meant}
use Rattle.query_eval.proofs.answers.answer_rows.kept_rows.Goals as goal
use Rattle.query_eval.proofs.answers.answer_rows.kept_rows.Goals.{then-has_group+in_ok-row_of+in_ok-push, else-has_group}

pub loop-index-preserved : goal.loop-index-preserved
loop-index-preserved c =
    let columns = c.args.schema.now.columns in
    let groups = c.args.groups.now in
    let index = c.loop-index.index in
    let group : GroupFields = group_at groups index in
    let fields : GroupFields → List Field = λ group. map (λ item. seen_item columns c.args.plan.now group item.value) c.args.items.now in
    let kept : GroupFields → Bool = λ group. is_kept c.args.having.now (seen_operand columns c.args.plan.now group) in
    let at = get_or_default groups index no_group group c.loop-index-test.true in
    let masks = c.as_slice.ensures.value in
    let is : c.has_group.result ≡ kept group = c.has_group.ensures ∙ ap (λ (ms : List (List Bool)). has (get_or ms (index / 1024) []) (index % 1024)) masks ∙ c.in_ok-kept.ensures index c.loop-index-test.true in
    elim c.if-has_group.branch [
      | then-has_group+in_ok-row_of+in_ok-push w ↦
          ap (λ v. v.items) w.rows-is
          ∙ kept_more fields kept groups index group c.loop-index-test.true at c.loop-index.rows.items _ _
          (sym is ∙ w.if-has_group.true) c.loop-index.invariant w.in_ok-push.ensures.items
          (w.in_ok-row_of.ensures ∙ ap (λ (ps : List FieldPlace). map (field_in w.index-groups-index.result) ps) (w.as_slice-then-has_group.ensures.value ∙ c.in_ok-places.ensures)
          ∙ items_meant columns c.args.plan.now w.index-groups-index.result c.args.items.now ∙ ap fields (w.index-groups-index.is ∙ get_or_default groups index w.index-groups-index.result no_group c.loop-index-test.true))
      | else-has_group w ↦
          ap (λ v. v.items) w.rows-is
          ∙ left_more fields kept groups index group c.loop-index-test.true at c.loop-index.rows.items (sym is ∙ w.if-has_group.false) c.loop-index.invariant
    ]
