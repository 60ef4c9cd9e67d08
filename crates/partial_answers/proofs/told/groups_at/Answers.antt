-- One group more.
use Rattle.std.proofs.Common.{◌≡◌, ◌∷◌, Bool, List, Some, [], cond, length, None, rules, sym, ap, subst, ◌∙◌, arith}
use Rattle.std.specs.List.Sorted.{IsStrictlySortedBy}
use Rattle.std.specs.Map.{keys_of}
use Rattle.std.specs.Ordering.{eq_by_cmp}
use Rattle.std.proofs.lemmas.Map.Keys.{sorted_tail}
use Rattle.table_model.specs.Group.{key_cmp}
use Rattle.table_model.specs.State.{Cells}
use Rattle.table_model.proofs.SameRows.{itself_row}
use Rattle.query_eval.specs.Entries.{Entries, place_in}
use Rattle.query_eval.proofs.OrderLemmas.{place_left}
use Rattle.query_eval.specs.declared.tallies.tally.Tally.{Tally as Running}
use Rattle.query_eval.specs.declared.tallies.tally.Tally.TheVariants as running
use Rattle.partial_answers.specs.Evaluated.{told_places}
use Rattle.partial_answers.specs.Groups.{tallies_at}
use Rattle.partial_answers.specs.Kept.{tallies_in}
use Rattle.partial_answers.specs.Kinds.{AllKeep}
use Rattle.partial_answers.proofs.Combined.{one_key}
use Rattle.partial_answers.proofs.PlacesTold.{first_left, first_told, taken_place, place_moved, nothing_left}
use Rattle.partial_answers.proofs.ShownGroups.{empty}
use Rattle.partial_answers.proofs.told.groups_at.Goals as goal

pub loop-key-preserved : goal.loop-key-preserved
loop-key-preserved c =
    let key : Cells = c.in-Some.key in
    let place = c.in-Some.place in
    let rest = c.loop-key.key-iterator.rest.items in
    let next = c.next.new.self.rest.items in
    let step : rest ≡ (key, place) ∷ next = c.in-Some.ensures.steps.0 in
    let up = subst (λ (es : Entries). IsStrictlySortedBy key_cmp (keys_of es)) step c.loop-key.invariant.up in
    let there : place_in rest key ≡ Some place = ap (λ (es : Entries). place_in es key) step ∙ ap (λ b. cond b (Some place) (place_in next key)) (itself_row key) in
    let left : (k : Cells) → place_in next k ≡ cond (eq_by_cmp key_cmp key k) None (place_in rest k) = λ k. first_left key place next up k ∙ ap (λ (es : Entries). cond (eq_by_cmp key_cmp key k) None (place_in es k)) (sym step) in
    record {
      up = sorted_tail key_cmp key (keys_of next) up;
      kept = λ k p e. c.loop-key.invariant.kept k p (place_left _ _ _ (left k) p e);
      told = λ t h k.
          let columns = c.args.tallies.now in
          let b : Bool = eq_by_cmp key_cmp key k in
          let is = c.in_ok-kept.ensures.value t (h key place (c.loop-key.invariant.kept key place there)) in
          let here = ap (told_places columns t) there ∙ ap Some (sym is) in
          (λ i. first_told (c.in_ok-put_group.ensures.put k i) ((ap (told_places columns t) (left k) ∙ taken_place columns t b _) i))
          ∙ place_moved b (tallies_at c.loop-key.made k) (told_places columns t (place_in rest key)) (told_places columns t (place_in rest k)) (tallies_in c.in_ok-kept.kept.items) here
          (λ tied. ap (λ q. told_places columns t (place_in rest q)) (sym (one_key key k tied)))
          (λ tied. c.loop-key.invariant.told t h k ∙ ap (λ q. told_places columns t (place_in c.args.entries.items q)) (sym (one_key key k tied)) ∙ ap (told_places columns t) (c.loop-key.invariant.kept key place there) ∙ sym (ap (told_places columns t) there))
          ∙ c.loop-key.invariant.told t h k;
      kinds = λ kinds h asked.
          let t : Running = running.Count 0 in
          let at = c.loop-key.invariant.kept key place there in
          let here = c.in_ok-kept.ensures.kinds t (h key place at) ∙ asked key place t at in
          c.in_ok-put_group.ensures.kinds kinds (c.loop-key.invariant.kinds kinds h asked) here;
    }

pub returns-clause-value : goal.returns-clause-value
returns-clause-value c = λ t h k.
    let long : length c.loop-key.key-iterator.rest.items ≡ 0 = search rules in
    let none : c.loop-key.key-iterator.rest.items ≡ [] = empty c.loop-key.key-iterator.rest.items long in
    sym (nothing_left (tallies_at c.loop-key.made k)) ∙ sym (ap (λ (es : Entries). first_told (tallies_at c.loop-key.made k) (told_places c.args.tallies.now t (place_in es k))) none) ∙ c.loop-key.invariant.told t h k
