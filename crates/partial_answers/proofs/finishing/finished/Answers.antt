-- One group more.
use Rattle.std.proofs.Common.{◌≡◌, inl, inr, ◌++◌, ◌<◌, List, [], length, map, sym, ap, subst, ◌∙◌, arith, append-nil}
use Rattle.std.specs.Option.{is_some}
use Rattle.std.specs.Ordering.{eq_by_cmp}
use Rattle.std.specs.Global.{Vec}
use Rattle.std.proofs.lemmas.Bool.{false≢true}
use Rattle.std.proofs.lemmas.Result.{err_from_is_err_and}
use Rattle.table_model.specs.Group.{key_cmp}
use Rattle.table_model.specs.State.{Cells}
use Rattle.partial_answers.specs.Groups.{shown_entries}
use Rattle.partial_answers.specs.Kept.{tallies_in}
use Rattle.partial_answers.specs.PartialAnswer.{field_at}
use Rattle.partial_answers.specs.Shape.{AllCanFinish, AreOfShape, EachCanFinish, IsOfShape}
use Rattle.partial_answers.specs.declared.kept.Kept.{Kept}
use Rattle.partial_answers.proofs.GroupsMore.{left_there}
use Rattle.partial_answers.proofs.Refusing.{refuses_more}
use Rattle.partial_answers.proofs.ShownGroups.{shown_more, empty}
use Rattle.partial_answers.proofs.ToFinish.{nothing_there, taken_more}
use Rattle.partial_answers.proofs.finishing.finished.Goals as goal
use Rattle.partial_answers.proofs.finishing.finished.Goals.{in-None, in-Some+in_ok-group-in-Some+in_ok-push-in-Some}

pub loop-preserved : goal.loop-preserved
loop-preserved c =
    elim c.match-pop_first.branch [
      | in-None w ↦
          let some : 0 < length c.loop.groups.entries = omega (arith, c.loop.invariant.count, c.loop-test.true, c.len-end.ensures.len) in
          absurd (false≢true (sym (ap is_some w.in-None.is) ∙ c.pop_first.ensures.variant.1 some))
      | in-Some+in_ok-group-in-Some+in_ok-push-in-Some w ↦
          let removal = w.in-Some.ensures.removal in
          let key : Cells = w.in-Some.key in
          let kept : Vec Kept = w.in-Some.kept in
          let group = w.in_ok-group-in-Some in
          let fields = group.ensures.fields ∙ ap (λ (all : List Kept). map (field_at c.args.measures.now (tallies_in all)) c.args.aggregates.now) w.as_slice.ensures.value in
          let shaped = subst (λ (all : List Kept). IsOfShape c.args.columns c.args.measures.now key all) w.as_slice.ensures.value group.ensures.shaped in
          record {
            count = omega (arith, c.loop.invariant.count, ap length removal);
            value = shown_more c.args.measures.now c.args.aggregates.now c.loop.all.items c.match-pop_first.all.items group.group key kept c.loop.groups.entries c.pop_first.new.self.entries _
                (ap (λ v. v.items) w.all-is ∙ w.in_ok-push-in-Some.ensures.items) (λ i. record { key = group.ensures.key i; fields = fields i }) removal c.loop.invariant.value;
            left = λ k v at. c.loop.invariant.left k v (left_there (eq_by_cmp key_cmp key k) _ _ v (w.in-Some.ensures.updates.0 k) at);
            taken = λ k v at. taken_more c.args.columns c.args.measures.now key kept c.loop.groups c.pop_first.new.self k v (w.in-Some.ensures.updates.0 k) w.in-Some.ensures.value shaped (c.loop.invariant.taken k v at);
          }
    ]

pub returns-clause-value : goal.returns-clause-value
returns-clause-value c =
    let none : c.loop.groups.entries ≡ [] = empty c.loop.groups.entries (omega (arith, c.loop.invariant.count, c.loop-test.false, c.loop.auto.counter-end, c.len-end.ensures.len)) in
    sym (append-nil c.loop.all.items) ∙ sym (ap (λ (es : List (Cells × Vec Kept)). c.loop.all.items ++ shown_entries c.args.measures.now c.args.aggregates.now es) none) ∙ c.loop.invariant.value

pub returns-clause-shaped : goal.returns-clause-shaped
returns-clause-shaped c =
    let none : c.loop.groups.entries ≡ [] = empty c.loop.groups.entries (omega (arith, c.loop.invariant.count, c.loop-test.false, c.loop.auto.counter-end, c.len-end.ensures.len)) in
    λ k v at. elim (c.loop.invariant.taken k v at) [ inl shaped ↦ shaped | inr there ↦ absurd (nothing_there c.loop.groups k v none there) ]

pub returns-in_err-group-in-Some-clause-refused : goal.returns-in_err-group-in-Some-clause-refused
returns-in_err-group-in-Some-clause-refused c =
    let p = err_from_is_err_and c.from_residual.result c.from_residual.ensures.1 in
    let m = c.args.groups.now in
    let key : Cells = c.in-Some.key in
    let at = c.loop.invariant.left key c.in-Some.kept c.in-Some.ensures.value in
    let items = c.as_slice.ensures.value in
    rw (p.1, p.2)
    (refuses_more (IsOfShape c.args.columns c.args.measures.now key c.as_slice.result.now) (EachCanFinish c.as_slice.result.now) (AreOfShape c.args.columns c.args.measures.now m) (AllCanFinish m) c.in_err-group-in-Some.field-0.0
    (λ all. subst (λ (l : List Kept). IsOfShape c.args.columns c.args.measures.now key l) (sym items) (all key c.in-Some.kept at))
    (λ all. subst (λ (l : List Kept). EachCanFinish l) (sym items) (all key c.in-Some.kept at))
    c.in_err-group-in-Some.ensures.refused)
