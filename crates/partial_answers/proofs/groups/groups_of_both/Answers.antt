-- One group moves from the rest to all.
use Rattle.std.proofs.Common.{◌<◌, length, Bool, sym, ap, subst, ◌∙◌, arith}
use Rattle.std.specs.BTreeMap.{get}
use Rattle.std.specs.Option.{is_some}
use Rattle.std.specs.Ordering.{eq_by_cmp}
use Rattle.std.proofs.lemmas.Bool.{false≢true}
use Rattle.table_model.specs.Group.{key_cmp}
use Rattle.table_model.specs.State.{Cells}
use Rattle.partial_answers.specs.Groups.{tallies_at, tallies_of_some}
use Rattle.partial_answers.specs.Kept.{tallies_in}
use Rattle.partial_answers.specs.Kinds.{AllKeep}
use Rattle.partial_answers.specs.PartialAnswer.{either}
use Rattle.partial_answers.specs.Refusing.{KeptGroups}
use Rattle.partial_answers.proofs.Combined.{one_key}
use Rattle.std.proofs.lemmas.Result.{err_from_is_err_and}
use Rattle.partial_answers.proofs.Refusing.{refuses_all}
use Rattle.partial_answers.proofs.GroupsMore.{left_apart, left_there, taken_out, moved}
use Rattle.partial_answers.proofs.groups.groups_of_both.Goals as goal
use Rattle.partial_answers.proofs.groups.groups_of_both.Goals.{in-None, in-Some+in_ok-take_group-in-Some}

pub loop-count-preserved : goal.loop-count-preserved
loop-count-preserved c =
    elim c.match-pop_first.branch [
      | in-None w ↦
          let some : 0 < length c.loop-count.rest.entries = omega (arith, c.loop-count.invariant.left, c.loop-count-test.true, c.len-end.ensures.len) in
          absurd (false≢true (sym (ap is_some w.in-None.is) ∙ c.pop_first.ensures.variant.1 some))
      | in-Some+in_ok-take_group-in-Some w ↦
          let removal = w.in-Some.ensures.removal in
          let key : Cells = w.in-Some.key in
          record {
            left = omega (arith, c.loop-count.invariant.left, ap length removal);
            same = λ k.
                let b : Bool = eq_by_cmp key_cmp key k in
                ap (λ m. either (tallies_at m k) (tallies_at c.pop_first.new.self k)) w.all-is
                ∙ (λ i. either (w.in_ok-take_group-in-Some.ensures.taken k i) ((ap tallies_of_some (w.in-Some.ensures.updates.0 k) ∙ taken_out b _) i))
                ∙ moved b (tallies_at c.loop-count.all k) (tallies_at c.loop-count.all key) (tallies_at c.loop-count.rest k) (tallies_in w.in-Some.kept.items)
                (λ is. ap (tallies_at c.loop-count.all) (sym (one_key key k is)))
                (λ is. ap (tallies_at c.loop-count.rest) (sym (one_key key k is)) ∙ ap tallies_of_some w.in-Some.ensures.value)
                ∙ c.loop-count.invariant.same k;
            others = λ k v e. c.loop-count.invariant.others k v (left_there (eq_by_cmp key_cmp key k) _ _ v (w.in-Some.ensures.updates.0 k) e);
            mine = λ k v e.
                let apart = left_apart (eq_by_cmp key_cmp key k) _ _ v (w.in-Some.ensures.updates.0 k) e in
                ap (λ m. get key_cmp m k) w.all-is ∙ w.in_ok-take_group-in-Some.ensures.others k apart ∙ c.loop-count.invariant.mine k v (left_there (eq_by_cmp key_cmp key k) _ _ v (w.in-Some.ensures.updates.0 k) e);
            kinds = λ kinds one other.
                let here = other key w.in-Some.kept (c.loop-count.invariant.others key w.in-Some.kept w.in-Some.ensures.value) in
                subst (λ (m : KeptGroups). AllKeep kinds m) (sym w.all-is) (w.in_ok-take_group-in-Some.ensures.kinds kinds (c.loop-count.invariant.kinds kinds one other) here);
          }
    ]

pub returns-in_err-take_group-in-Some-clause-refused : goal.returns-in_err-take_group-in-Some-clause-refused
returns-in_err-take_group-in-Some-clause-refused c =
    let p = err_from_is_err_and c.from_residual.result c.from_residual.ensures.1 in
    let at = c.in-Some.ensures.value in
    rw (p.1, p.2)
    (refuses_all c.in_err-take_group-in-Some.field-0.0 c.loop-count.all c.args.one c.args.other c.in-Some.key c.in-Some.kept
    (c.loop-count.invariant.mine c.in-Some.key c.in-Some.kept at) (c.loop-count.invariant.others c.in-Some.key c.in-Some.kept at) c.in_err-take_group-in-Some.ensures.refused)
