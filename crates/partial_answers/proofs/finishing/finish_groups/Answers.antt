use Rattle.std.proofs.Common.{◌≡◌, length, sym, ◌∙◌, ap, arith}
use Rattle.std.proofs.lemmas.Bool.{false≢true}
use Rattle.std.proofs.lemmas.Result.{err_from_is_err_and}
use Rattle.table_model.specs.Query.{QueryShape}
use Rattle.partial_answers.specs.Shape.{AllCanFinish, AreOfShape, HaveShape}
use Rattle.partial_answers.proofs.ShownGroups.{finish_is}
use Rattle.partial_answers.proofs.Refusing.{refuses_more}
use Rattle.partial_answers.proofs.ToFinish.{as_shaped, have_shape}
use Rattle.partial_answers.proofs.finishing.finish_groups.Goals as goal
use Rattle.partial_answers.proofs.finishing.finish_groups.Goals.{else-columns-eq0-via-then-columns-eq0+else-is_empty, else-columns-eq0-via-else-columns-eq0}

pub returns-clause-answer : goal.returns-clause-answer
returns-clause-answer c =
    finish_is c.args.schema.now c.args.query.now c.in_ok-asked.asked c.in_ok-plan.plan c.as_slice.result.now c.aggregates.result.now c.aggregates-2.result.now c.args.groups c.as_slice-2.result.now c.in_ok-answer.answer
    c.in_ok-asked.ensures c.aggregates.ensures c.in_ok-plan.ensures c.aggregates-2.ensures (c.as_slice.ensures.value ∙ c.in_ok-measures.ensures) c.finished.ensures.ordered (c.as_slice-2.ensures.value ∙ c.in_ok-all.ensures.value)
    c.in_ok-answer.ensures.heading c.in_ok-answer.ensures.rows

pub returns-clause-shaped : goal.returns-clause-shaped
returns-clause-shaped c =
    let grouped : c.len-columns.result ≡ length c.args.query.now.grouping = omega (arith, c.len-columns.ensures, c.query.inside.grouping.ok.0, ap (λ (q : QueryShape). length q.grouping) c.query.view_is) in
    let some : c.len-columns.result ≡ 0 → length c.args.groups.entries ≡ 0 → ⊥ =
    elim c.else-columns-eq0.branch [
      | else-columns-eq0-via-then-columns-eq0+else-is_empty w ↦ λ _ none. false≢true (sym w.if-is_empty.false ∙ w.is_empty.ensures.1 none)
      | else-columns-eq0-via-else-columns-eq0 w ↦ λ zero _. absurd (omega (arith, w.if-columns-eq0.false, zero))
    ] in
    have_shape c.args.schema.now c.args.query.now c.in_ok-asked.asked c.aggregates.result.now c.as_slice.result.now c.len-columns.result c.args.groups
    c.in_ok-asked.ensures c.aggregates.ensures (c.as_slice.ensures.value ∙ c.in_ok-measures.ensures) grouped c.finished.ensures.ordered some c.in_ok-all.ensures.shaped

pub returns-in_err-all-clause-refused : goal.returns-in_err-all-clause-refused
returns-in_err-all-clause-refused c =
    let grouped : c.len-columns.result ≡ length c.args.query.now.grouping = omega (arith, c.len-columns.ensures, c.query.inside.grouping.ok.0, ap (λ (q : QueryShape). length q.grouping) c.query.view_is) in
    let p = err_from_is_err_and c.from_residual-in_err-all.result c.from_residual-in_err-all.ensures.1 in
    let m = c.args.groups in
    let measures = c.as_slice.result.now in
    rw (p.1, p.2)
    (refuses_more (AreOfShape c.len-columns.result measures m) (AllCanFinish m) (HaveShape c.args.schema.now c.args.query.now m) (AllCanFinish m) c.in_err-all.field-0.0
    (as_shaped c.args.schema.now c.args.query.now c.in_ok-asked.asked c.aggregates.result.now measures c.len-columns.result m c.in_ok-asked.ensures c.aggregates.ensures (c.as_slice.ensures.value ∙ c.in_ok-measures.ensures) grouped)
    (λ all. all) c.in_err-all.ensures.refused)
